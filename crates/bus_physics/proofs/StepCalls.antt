-- Calls of a member to a node that does not answer them: what a step keeps of how far apart they are.
use Rattle.std.proofs.Common.{◌≡◌, ◌≢◌, ℕ, zero, suc, ◌+◌, ◌<◌, ◌≤◌, Bool, true, false, List, [], ◌∷◌, ◌++◌, length, refl, sym, ap, subst, ◌∙◌, arith, ◌⊎◌, inl, inr, Option, Some, None, drop, get_or-set_other, get_or-set_same, length-set}
use Rattle.std.specs.Prelude.{⊤, ◌-◌, ◌%◌, ◌==◌, ◌&&◌, ◌||◌, max, not, nat_eq, nat_le, nat_lt, slice_index, slice_index_or, slice_set, is_some, if◌then◌else◌}
use Rattle.std.proofs.lemmas.Bool.Decides.{eqb_tells}
use Rattle.alloc_exchange.specs.declared.heard.Heard.{Heard}
use Rattle.alloc_exchange.specs.declared.heard.Heard.TheVariants.{Denied, FollowUp, Ignored, Whole}
use Rattle.alloc_exchange.specs.Exchange.{answer}
use Rattle.can_frame.specs.declared.entry.Entry.{Entry}
use Rattle.can_frame.specs.declared.identifier.Kind.{Kind}
use Rattle.can_frame.specs.declared.identifier.Kind.TheVariants.{Anonymous, Message as Broadcast, Request as RequestKind, Response}
use Rattle.can_frame.specs.declared.step.What.{What}
use Rattle.can_frame.specs.declared.step.What.TheVariants.{Alloc, Disc, Stat, InfoQ, VoteQ, AppQ}
use Rattle.can_frame.specs.Log.{blank}
use Rattle.can_frame.specs.Zeros.{zeros}
use Rattle.cluster_discovery.specs.Members.{is_due, is_on_list}
use Rattle.dsdl_codec.specs.Allocation.{allocation_of}
use Rattle.dsdl_codec.specs.AppendAnswer.{append_answer_of}
use Rattle.dsdl_codec.specs.AppendRequest.{append_request_of}
use Rattle.dsdl_codec.specs.Discovery.{discovery_bytes, discovery_of}
use Rattle.dsdl_codec.specs.NodeInfo.{node_info_of}
use Rattle.dsdl_codec.specs.NodeStatus.{node_status_bytes, node_status_of}
use Rattle.dsdl_codec.specs.VoteAnswer.{vote_answer_of}
use Rattle.dsdl_codec.specs.VoteRequest.{vote_request_of}
use Rattle.id_selector.specs.Choice.{chosen}
use Rattle.node_discovery.specs.Watch.{next_query, some_unknown}
use Rattle.raft_core.specs.Calls.{due, due_unless, owed}
use Rattle.raft_core.specs.Handled.{append_request_of as asked_append, moves_of_expire, vote_request_of as asked_vote}
use Rattle.raft_core.specs.Taken.{proposal}
use Rattle.raft_core.specs.Times.{HandedIn, Sending, Times, awaits, end_call, given_at, given_call, given_proposal, given_tick, has_waited, is_awaited, is_overdue, is_silent, overdue, times_after, times_after_all, wait}
use Rattle.raft_model.specs.Decisions.{commit_index, grants, verdict_on}
use Rattle.raft_model.specs.Duty as duty
use Rattle.raft_model.specs.Handlers.{server_after, server_after_all}
use Rattle.raft_model.specs.Lists.{In}
use Rattle.raft_model.specs.Messages.{Answer, Message, Request}
use Rattle.raft_model.specs.Messages.Message.{Requests}
use Rattle.raft_model.specs.Moves.{Move, memory_after, next_entry}
use Rattle.raft_model.specs.Moves.Elections.{is_leader, term_limit, with_term}
use Rattle.raft_model.specs.Moves.Leading.{append_request, vote_request}
use Rattle.raft_model.specs.Moves.Move.{AnswerAgain, CallForVote, CallToAppend, CommitTo, GiveUp, ProposeEntry, TakeAppendAnswer, TakeAppendRequest, TakeVoteAnswer, TakeVoteRequest, TellNothing, TellPair, TimeOut}
use Rattle.raft_model.specs.Server.{Memory, RaftServer, Role}
use Rattle.raft_model.specs.Server.Role.{Candidate, Follower, Leader}
use Rattle.transfer_rx.specs.Reassembly.{Answer as Received, answer as received, Continues, Delivery, Drops, Gives}
use Rattle.alloc_spec.specs.Delivered.{StepResult, asks_info, by_kind, delivery_phase, hears_discovery, hears_status, reads, request, response as answered}
use Rattle.alloc_spec.specs.Delivered as delivered
use Rattle.alloc_spec.specs.Ending.{append_call_bytes, calls_all, calls_by, calls_owed, calls_peer, commit_phase, has_to_tell, tell_phase, tells_next, vote_call_bytes}
use Rattle.alloc_spec.specs.Exchange.{allocation_payload, answers_or_records, answers_request, gives_pair, hears_allocation, hears_whole, may_follow, records_at, with_request}
use Rattle.alloc_spec.specs.Outbox.{counted_if}
use Rattle.alloc_spec.specs.Services.{answers_append, answers_call, answers_vote, append_answered, ends_append_call, ends_vote_call, hears_info, is_listed, takes_append_answer, takes_append_request, takes_vote_answer, takes_vote_request, vote_answered}
use Rattle.alloc_spec.specs.Accepted.{setting_for}
use Rattle.alloc_spec.specs.Step.{Event, all_nodes, at_moment, at_step, begin_phase, event_phase, expiry_phase, moment_of, step, with_answer, with_sessions}
use Rattle.alloc_spec.specs.Step.Event.{Rx, Tick}
use Rattle.alloc_spec.specs.StepState.{StepState, initial_state, with_move_if, with_moves, with_transfer}
use Rattle.alloc_spec.specs.Tick.{asks, candidate, clock_phase, discovery_of as own_discovery, discovery_phase, election_phase, new_uid, proposes, query_phase, record_phase, records_as, records_node, status_phase, tells_members, tells_status, with_query}
use Rattle.alloc_spec.specs.AllocatorState.{AllocatorState, is_zero, known, knows_all, may_propose, members_of, recorded_at, start_of, status_of, taken}
use Rattle.alloc_spec.specs.Transfers.{Ids, Offer, has_room, id_after, id_of, ids_after}
use Rattle.alloc_spec_laws.proofs.Choices.{and_left, and_right, either, eq_true, le_true, not_true}
use Rattle.alloc_spec_laws.proofs.DistinctTransfers.{rank, sent}
use Rattle.alloc_spec_laws.proofs.EndOffers.{tells as told_offers}
use Rattle.alloc_spec_laws.proofs.Lists.{in_append}
use Rattle.alloc_spec.proofs.Blanks.{adds_blank, move_with_blank, tick_with_blank}
use Rattle.bus_agreement.specs.Said.{carrier}
use Rattle.bus_agreement.proofs.Lists.{in_back, in_front, never, tell}
use Rattle.alloc_spec_laws.proofs.Transfers.{event_offers}
use Rattle.bus_physics.proofs.Waking.{HasWaited, IsAwake, awake_after, awake_later, moved_since}

-- ---- why a member makes a move

-- an answer is taken by a call of this service; it is none of node p to the calls in question
pub record Counts (append own : Bool) (p : ℕ) (server : RaftServer) (answer : Answer) : Type 0 where
  pub asked : Request
  pub pending : server.memory.pending answer.from ≡ Some asked
  pub service : asked.append ≡ own
  pub other : append ≡ own → (p == answer.from) ≡ false

-- a move that is no call in question, to node p, of append requests or of vote requests
abbrev pub IsReason : Bool → ℕ → RaftServer → Times → ℕ → Move → Type 0
IsReason append p server times now TimeOut = (server.memory.role ≡ Leader → ⊥) × (times.since + 2000 ≤ now)
IsReason append p server times now (TakeVoteAnswer answer) = Counts append false p server answer
IsReason append p server times now (TakeAppendAnswer answer) = Counts append true p server answer
IsReason append p server times now (CallForVote q) = (server.memory.role ≡ Candidate) × (append ≡ false → (p == q) ≡ false)
IsReason append p server times now (CallToAppend q previous with_entry) = (server.memory.role ≡ Leader) × (append ≡ true → (p == q) ≡ false)
IsReason append p server times now (GiveUp q) = (p == q) ≡ true → (s : Sending) → times.sending p ≡ Some s → 1000 ≤ now - s.moment
IsReason append p server times now move = ⊤

-- a call in question
abbrev pub IsOwnCall : Bool → ℕ → Memory → Move → Type 0
IsOwnCall true p m (CallToAppend q previous with_entry) = (m.role ≡ Leader) × (m.pending q ≡ None) × (q ≡ p)
IsOwnCall false p m (CallForVote q) = (m.role ≡ Candidate) × (m.pending q ≡ None) × (q ≡ p)
IsOwnCall append p m move = ⊥

-- So far apart are calls: P says that since a call at moment M so many more were made, and none was answered. Where they
-- are 30 or more, and another one is made, so much time has passed; and 18 s where none is made.
pub record IsSpaced (append : Bool) (p width : ℕ) (P : ℕ → ℕ → Memory → Times → ℕ → Type 0) : Type 0 where
  pub later : (M b : ℕ) (m : Memory) (times : Times) (now then_ : ℕ) → now ≤ then_ → P M b m times now → P M b m times then_
  pub moves : (M b : ℕ) (server : RaftServer) (times : Times) (now : ℕ) → P M b server.memory times now → (members : List ℕ) (me number : ℕ)
      (given : HandedIn) → given.now ≡ now → (move : Move) → IsReason append p server times now move
      → P M b (memory_after members me number server move) (times_after members me given server move times) now
  pub calls : (M b : ℕ) (server : RaftServer) (times : Times) (now : ℕ) → P M b server.memory times now → (members : List ℕ) (me number : ℕ)
      (given : HandedIn) → given.now ≡ now → (move : Move) → IsOwnCall append p server.memory move
      → P M (suc b) (memory_after members me number server move) (times_after members me given server move times) now
  pub begins : (server : RaftServer) (times : Times) (now : ℕ) → times.since ≤ now → (members : List ℕ) (me number : ℕ)
      (given : HandedIn) → given.now ≡ now → (move : Move) → IsOwnCall append p server.memory move
      → P now 0 (memory_after members me number server move) (times_after members me given server move times) now
  pub far : (M b : ℕ) (m : Memory) (times : Times) (now : ℕ) → P M b m times now → (move : Move) → IsOwnCall append p m move → 30 ≤ b → M + width ≤ now
  pub passed : (M b : ℕ) (m : Memory) (times : Times) (now : ℕ) → P M b m times now → 30 ≤ b → M + 18000 ≤ now

-- ---- of these moves a member stands for election only after the least wait, and a follower makes no call

waited_by : (append : Bool) (p : ℕ) (server : RaftServer) (times : Times) (now : ℕ) (move : Move) → IsReason append p server times now move → HasWaited times now move
waited_by append p server times now TimeOut reason = reason.1
waited_by append p server times now move reason = tt

waited_to_call : (append : Bool) (p : ℕ) (m : Memory) (times : Times) (now : ℕ) (move : Move) → IsOwnCall append p m move → HasWaited times now move
waited_to_call true p m times now (CallToAppend q previous with_entry) own = tt
waited_to_call false p m times now (CallForVote q) own = tt
waited_to_call append p m times now move own = absurd own

over_at_call : (append : Bool) (p opening : ℕ) (m : Memory) (times : Times) (now : ℕ) (move : Move) → IsOwnCall append p m move → IsAwake opening m times now → opening + 2000 ≤ now
over_at_call append p opening m times now move own awake = elim awake.follows [ inl role ↦ absurd (by append move own role) | inr over ↦ over ] where
  by : (append : Bool) (move : Move) → IsOwnCall append p m move → m.role ≡ Follower → ⊥
  by true (CallToAppend q previous with_entry) own role = absurd (cc (sym role ∙ own.0))
  by false (CallForVote q) own role = absurd (cc (sym role ∙ own.0))
  by append move own role = absurd own

-- ---- transfer IDs

-- those of append requests, or of vote requests
abbrev pub ids_to : Bool → Ids → List ℕ
ids_to true ids = ids.append
ids_to false ids = ids.vote

-- a message, or a request of GetNodeInfo, leaves them
abbrev IsOther : What → Type 0
IsOther Alloc = ⊤
IsOther Disc = ⊤
IsOther Stat = ⊤
IsOther InfoQ = ⊤
IsOther what = ⊥

ids_stay : (append : Bool) (what : What) (to : ℕ) (ids : Ids) → IsOther what → ids_to append (ids_after what to ids) ≡ ids_to append ids
ids_stay true Alloc to ids other = refl
ids_stay true Disc to ids other = refl
ids_stay true Stat to ids other = refl
ids_stay true InfoQ to ids other = refl
ids_stay false Alloc to ids other = refl
ids_stay false Disc to ids other = refl
ids_stay false Stat to ids other = refl
ids_stay false InfoQ to ids other = refl
ids_stay append what to ids other = elim other [ ]

-- where it comes, the next one has the transfer ID that comes next
own_next : (append : Bool) (what : What) (to : ℕ) (ids : Ids) → what ≡ carrier append → id_of ids what to ≡ slice_index (ids_to append ids) to
own_next true what to ids is = ap (λ (w : What). id_of ids w to) is
own_next false what to ids is = ap (λ (w : What). id_of ids w to) is

own_after : (append : Bool) (what : What) (to : ℕ) (ids : Ids) → what ≡ carrier append
    → ids_to append (ids_after what to ids) ≡ slice_set (ids_to append ids) to (id_after (slice_index (ids_to append ids) to))
own_after true what to ids is = ap (λ (w : What). (ids_after w to ids).append) is
own_after false what to ids is = ap (λ (w : What). (ids_after w to ids).vote) is

-- ---- calls that are owed

-- nothing waits for the node, and the call is that of the role
abbrev IsOwed : RaftServer → ℕ → Option Move → Type 0
IsOwed server peer (Some (CallForVote q)) = (server.memory.role ≡ Candidate) × (server.memory.pending peer ≡ None) × (q ≡ peer)
IsOwed server peer (Some (CallToAppend q previous with_entry)) = (server.memory.role ≡ Leader) × (server.memory.pending peer ≡ None) × (q ≡ peer)
IsOwed server peer call = ⊤

owes : (server : RaftServer) (times : Times) (peer now : ℕ) → IsOwed server peer (owed server times peer now)
owes server times peer now = by (server.memory.pending peer) server.memory.role refl refl where
  vote : (done : Bool) → server.memory.pending peer ≡ None → server.memory.role ≡ Candidate → IsOwed server peer (if done then None else Some (CallForVote peer))
  vote true none role = tt
  vote false none role = (role, none, refl)

  append : (wants : Bool) → server.memory.pending peer ≡ None → server.memory.role ≡ Leader
      → IsOwed server peer (if wants then Some (CallToAppend peer (server.memory.next peer - 1) true) else None)
  append true none role = (role, none, refl)
  append false none role = tt

  by : (pending : Option Request) (role : Role) → server.memory.pending peer ≡ pending → server.memory.role ≡ role
      → IsOwed server peer (due_unless pending (due role server times peer now))
  by (Some call) role waits is = tt
  by None Follower none is = tt
  by None Candidate none is = vote (times.answered peer) none is
  by None Leader none is = append (nat_le (server.memory.next peer) (length server.store.log) || is_silent (times.appended peer) now) none is

-- ---- an answer to a call in question

-- the delivered transfer is an answer of node p that a call in question takes
pub record IsAnswerOf (append : Bool) (p : ℕ) (d : Delivery) (members : List ℕ) (server : RaftServer) (times : Times) : Type 0 where
  pub listed : is_on_list members d.ident.source ≡ true
  pub kind : d.ident.kind ≡ Response
  pub other : nat_eq d.ident.number 1 ≡ false
  pub service : nat_eq d.ident.number 30 ≡ append
  pub from : p ≡ d.ident.source
  pub awaited : is_awaited server times d.ident.source append d.id ≡ true

-- a call that takes it waits, of this service
awaited_call : (append : Bool) (pending : Option Request) (sending : Option Sending) (id : ℕ) → awaits pending sending append id ≡ true
    → (request : Request) → pending ≡ Some request → request.append ≡ append
awaited_call append None sending id e request is = absurd (cc (is))
awaited_call append (Some call) None id e request is = never e
awaited_call true (Some call) (Some sending) id e request is = ap (λ (r : Request). r.append) (sym (one call request is)) ∙ and_left call.append _ e
  where
    one : (x y : Request) → Some x ≡ Some y → x ≡ y
    one x y f = cc (f)
awaited_call false (Some call) (Some sending) id e request is = ap (λ (r : Request). r.append) (sym (one call request is)) ∙ not_true call.append (and_left (not call.append) _ e)
  where
    one : (x y : Request) → Some x ≡ Some y → x ≡ y
    one x y f = cc (f)

-- ---- along a step

-- Since a call at moment M so many were made, and none of these was answered: P is so of the first of them. Of the call
-- itself nothing is said; it may be answered, and more than once.
abbrev pub Behind : (ℕ → ℕ → Memory → Times → ℕ → Type 0) → ℕ → ℕ → Memory → Times → ℕ → Type 0
Behind P M zero m times now = M ≤ now
Behind P M (suc b) m times now = (first : ℕ) × (M ≤ first) × P first b m times now

-- since a call at moment M under a transfer ID so many were made, by the transfer ID that comes next
pub record Since (append : Bool) (p : ℕ) (P : ℕ → ℕ → Memory → Times → ℕ → Type 0) (id M more : ℕ) (m : Memory) (times : Times) (ids : Ids) (now : ℕ) : Type 0 where
  pub spaced : Behind P M more m times now
  pub next : slice_index (ids_to append ids) p ≡ (id + 1 + more) % 32

-- the member was opened at this moment
module _ (append : Bool) (p width : ℕ) (P : ℕ → ℕ → Memory → Times → ℕ → Type 0) (is : IsSpaced append p width P) (number opening : ℕ)
    (Past : ℕ → ℕ → ℕ → Type 0) where
  pub record Open (m : Memory) (times : Times) (ids : Ids) (now : ℕ) : Type 0 where
    pub wait : times.since ≤ now
    pub awake : IsAwake opening m times now
    pub room : p < length (ids_to append ids)
    pub past : (id M b : ℕ) → Past id M b → Since append p P id M b m times ids now

  abbrev pub Opens : StepState → Type 0
  Opens g = Open g.allocator.raft_server.memory g.allocator.times g.allocator.ids g.allocator.now

  abbrev Shows : StepResult → Type 0
  Shows step_result = Opens step_result.step_state

  same_ids : (id M b : ℕ) (m : Memory) (times : Times) (ids then_ : Ids) (now : ℕ)
      → slice_index (ids_to append then_) p ≡ slice_index (ids_to append ids) p → Since append p P id M b m times ids now → Since append p P id M b m times then_ now
  same_ids id M b m times ids then_ now e c = record { spaced = c.spaced; next = e ∙ c.next }

  -- a move needs a reason only where a call was made since
  since_moved : (server : RaftServer) (times : Times) (ids : Ids) (now : ℕ) (members : List ℕ) (me : ℕ) (given : HandedIn) → given.now ≡ now → (move : Move)
      → (id M b : ℕ) → (1 ≤ b → IsReason append p server times now move) → Since append p P id M b server.memory times ids now
      → Since append p P id M b (memory_after members me number server move) (times_after members me given server move times) ids now
  since_moved server times ids now members me given e move id M zero reason c = record { spaced = c.spaced; next = c.next }
  since_moved server times ids now members me given e move id M (suc b) reason c = record {
    spaced = (c.spaced.0, c.spaced.1, is.moves c.spaced.0 b server times now c.spaced.2 members me number given e move (reason (omega arith)));
    next = c.next;
  }

  moved : (server : RaftServer) (times : Times) (ids : Ids) (now : ℕ) (members : List ℕ) (me : ℕ) (given : HandedIn) → given.now ≡ now → (move : Move)
      → IsReason append p server times now move → Open server.memory times ids now
      → Open (memory_after members me number server move) (times_after members me given server move times) ids now
  moved server times ids now members me given e move reason k = record {
    wait = moved_since members me number now given e server times k.wait move;
    awake = awake_after opening members me number now given e server times k.wait move (waited_by append p server times now move reason) k.awake;
    room = k.room;
    past = λ id M b i. since_moved server times ids now members me given e move id M b (λ some. reason) (k.past id M b i);
  }

  -- a transfer of another kind
  sends : (what : What) (to : ℕ) (payload : List ℕ) (says : Option Message) (g : StepState) → IsOther what → Opens g
      → Opens (with_transfer number what to payload says g)
  sends what to payload says g other k = record {
    wait = k.wait;
    awake = k.awake;
    room = subst (λ (l : List ℕ). p < length l) (sym (counted (has_room g.allocator.queue payload))) k.room;
    past = λ id M b i. same_ids id M b g.allocator.raft_server.memory g.allocator.times g.allocator.ids
        (counted_if (has_room g.allocator.queue payload) what to g.allocator.ids) g.allocator.now
        (ap (λ (l : List ℕ). slice_index l p) (counted (has_room g.allocator.queue payload))) (k.past id M b i);
  }
    where
      counted : (fitted : Bool) → ids_to append (counted_if fitted what to g.allocator.ids) ≡ ids_to append g.allocator.ids
      counted true = ids_stay append what to g.allocator.ids other
      counted false = refl

  -- ---- calls that are given up

  -- the call to node p is still the one that it was, or none
  abbrev Fewer : Times → Times → Type 0
  Fewer first times = (s : Sending) → times.sending p ≡ Some s → first.sending p ≡ Some s

  expires : (first : Times) (members : List ℕ) (me now : ℕ) (ids : Ids) (nodes : List ℕ)
      → ((q : ℕ) → In q nodes → (p == q) ≡ true → (s : Sending) → first.sending p ≡ Some s → 1000 ≤ now - s.moment)
      → (server : RaftServer) (times : Times) → Fewer first times → Open server.memory times ids now
      → Open (server_after_all members me number server (moves_of_expire nodes)).memory
      (times_after_all members me number (given_at now) server (moves_of_expire nodes) times) ids now
  expires first members me now ids [] old server times fewer k = k
  expires first members me now ids (q ∷ nodes) old server times fewer k =
      expires first members me now ids nodes (λ r i. old r (inr i)) (server_after members me number server (GiveUp q)) (end_call q times)
      (λ s sent. fewer s (kept (p == q) s sent))
      (moved server times ids now members me (given_at now) refl (GiveUp q) (λ same s sent. old q (inl refl) same s (fewer s sent)) k)
    where
      kept : (b : Bool) (s : Sending) → (if b then None else times.sending p) ≡ Some s → times.sending p ≡ Some s
      kept true s sent = absurd (cc (sent))
      kept false s sent = sent

  is_old : (times : Times) (now : ℕ) (nodes : List ℕ) (q : ℕ) → In q (overdue times now nodes) → is_overdue (times.sending q) now ≡ true
  is_old times now [] q i = absurd i
  is_old times now (node ∷ nodes) q i = elim (tell (is_overdue (times.sending node) now)) [
    | inl b ↦ elim (rw b at i) [ inl e ↦ ap (λ (n : ℕ). is_overdue (times.sending n) now) e ∙ b | inr j ↦ is_old times now nodes q j ]
    | inr b ↦ is_old times now nodes q (rw b at i)
  ]

  expired : (g : StepState) → Opens g → Opens (expiry_phase number g)
  expired g k =
      expires g.allocator.times (members_of g.allocator) g.allocator.me g.allocator.now g.allocator.ids
      (overdue g.allocator.times g.allocator.now all_nodes) old g.allocator.raft_server g.allocator.times (λ s sent. sent) k
    where
      old : (q : ℕ) → In q (overdue g.allocator.times g.allocator.now all_nodes) → (p == q) ≡ true → (s : Sending)
          → g.allocator.times.sending p ≡ Some s → 1000 ≤ g.allocator.now - s.moment
      old q i same s sent = le_true 1000 (g.allocator.now - s.moment)
          (ap (λ (o : Option Sending). is_overdue o g.allocator.now) (sym sent)
          ∙ (ap (λ (n : ℕ). is_overdue (g.allocator.times.sending n) g.allocator.now) (eq_true p q same)
          ∙ is_old g.allocator.times g.allocator.now all_nodes q i))

  -- ---- a tick

  discovers : (g : StepState) → Opens g → Opens (discovery_phase number g)
  discovers g k = either Opens (is_due (start_of g.allocator) g.allocator.heard g.allocator.now) (tells_members number g) g
      (λ e. sends Disc 0 (discovery_bytes (own_discovery g.allocator)) None g tt k) (λ e. k)

  tells_status_of : (g : StepState) → Opens g → Opens (status_phase number g)
  tells_status_of g k = either Opens (nat_le 1000 (g.allocator.now - g.allocator.status_at)) (tells_status number g) g
      (λ e. sends Stat 0 (node_status_bytes (status_of g.allocator)) None g tt k) (λ e. k)

  -- a leader's blank
  blank_added : (given : HandedIn) (g : StepState) → given.now ≡ g.allocator.now → Opens g → Opens (adds_blank number given g)
  blank_added given g is k = moved g.allocator.raft_server g.allocator.times g.allocator.ids g.allocator.now (members_of g.allocator) g.allocator.me
      given is (ProposeEntry (blank g.allocator.raft_server.store.term)) tt k

  elects : (word : ℕ) (g : StepState) → Opens g → Opens (election_phase number word g)
  elects word g k = tick_with_blank Opens number word g stands (λ moment. blank_added given ticked refl stands)
    where
      given : HandedIn
      given = given_tick g.allocator.now word

      ticked : StepState
      ticked = with_moves number given (duty.tick_phase (knows_all g.allocator && has_waited g.allocator.times g.allocator.now) g.allocator.raft_server) g

      no_leader : ((knows_all g.allocator && has_waited g.allocator.times g.allocator.now)
          && (not (is_leader g.allocator.raft_server.memory.role) && nat_lt g.allocator.raft_server.store.term term_limit)) ≡ true
          → g.allocator.raft_server.memory.role ≡ Leader → ⊥
      no_leader e leads = never (sym (not_true (is_leader g.allocator.raft_server.memory.role)
          (and_left _ _ (and_right (knows_all g.allocator && has_waited g.allocator.times g.allocator.now) _ e))) ∙ ap is_leader leads)

      waited : ((knows_all g.allocator && has_waited g.allocator.times g.allocator.now)
          && (not (is_leader g.allocator.raft_server.memory.role) && nat_lt g.allocator.raft_server.store.term term_limit)) ≡ true
          → g.allocator.times.since + 2000 ≤ g.allocator.now
      waited e = omega (
        arith,
        le_true (wait g.allocator.times.word) (g.allocator.now - g.allocator.times.since)
            (and_right (knows_all g.allocator) _ (and_left (knows_all g.allocator && has_waited g.allocator.times g.allocator.now) _ e)),
      )

      stands : Opens ticked
      stands =
          either (λ (moves : List Move). Opens (with_moves number given moves g))
          ((knows_all g.allocator && has_waited g.allocator.times g.allocator.now)
          && (not (is_leader g.allocator.raft_server.memory.role) && nat_lt g.allocator.raft_server.store.term term_limit)) (TimeOut ∷ []) []
          (λ e. moved g.allocator.raft_server g.allocator.times g.allocator.ids g.allocator.now (members_of g.allocator) g.allocator.me
          given refl TimeOut (no_leader e, waited e) k) (λ e. k)

  proposed : (origin : ℕ) (uid : List ℕ) (node : ℕ) (g : StepState) → Opens g → Opens (proposes number origin uid node g)
  proposed origin uid node g k = moved g.allocator.raft_server g.allocator.times g.allocator.ids g.allocator.now (members_of g.allocator) g.allocator.me
      (given_proposal g.allocator.now origin) refl (ProposeEntry (proposal g.allocator.raft_server.store.term uid node)) tt k

  recorded : (g : StepState) → Opens g → Opens (record_phase number g)
  recorded g k = either Opens (may_propose g.allocator) (records_node number (candidate g.allocator) g) g (λ e. go (candidate g.allocator)) (λ e. k) where
    one : (node : ℕ) (uid : Option (List ℕ)) → Opens (records_as number node uid g)
    one node None = proposed 3 zeros node g k
    one node (Some uid) = proposed 2 uid node g k

    go : (node : Option ℕ) → Opens (records_node number node g)
    go None = k
    go (Some node) = one node (new_uid g.allocator node)

  queried : (g : StepState) → Opens g → Opens (query_phase number g)
  queried g k = either Opens (is_leader g.allocator.raft_server.memory.role) (asks number (next_query g.allocator.watch (known g.allocator) g.allocator.now) g) g
      (λ e. go (next_query g.allocator.watch (known g.allocator) g.allocator.now)) (λ e. k)
    where
      go : (node : Option ℕ) → Opens (asks number node g)
      go None = k
      go (Some node) =
          let sent_it : Opens (with_transfer number InfoQ node [] None g) = sends InfoQ node [] None g tt k in
          either Opens (has_room g.allocator.queue []) (with_query node (id_of g.allocator.ids InfoQ node) (with_transfer number InfoQ node [] None g))
          (with_transfer number InfoQ node [] None g) (λ e. sent_it) (λ e. sent_it)

  ticks : (word : ℕ) (g : StepState) → Opens g → Opens (clock_phase number word g)
  ticks word g k =
      queried (record_phase number (election_phase number word (status_phase number (discovery_phase number g))))
      (recorded (election_phase number word (status_phase number (discovery_phase number g)))
      (elects word (status_phase number (discovery_phase number g)) (tells_status_of (discovery_phase number g) (discovers g k))))

  -- ---- a delivered transfer

  gives : (move : Move) (place : ℕ) (g : StepState)
      → ((server : RaftServer) (times : Times) (now : ℕ) → IsReason append p server times now move) → Opens g → Opens (gives_pair number move place g)
  gives move place g reason k =
      either Opens (has_room g.allocator.queue (allocation_payload entry.node entry.uid)) _ _
      (λ e. moved g.allocator.raft_server g.allocator.times (counted_if (has_room g.allocator.queue (allocation_payload entry.node entry.uid)) Alloc 0 g.allocator.ids)
      g.allocator.now (members_of g.allocator) g.allocator.me (given_at g.allocator.now) refl move
      (reason g.allocator.raft_server g.allocator.times g.allocator.now) given) (λ e. given)
    where
      entry : Entry
      entry = slice_index_or g.allocator.raft_server.store.log place (blank 0)

      given : Opens (with_transfer number Alloc 0 (allocation_payload entry.node entry.uid) None g)
      given = sends Alloc 0 (allocation_payload entry.node entry.uid) None g tt k

  whole_heard : (uid : List ℕ) (preference : ℕ) (g : StepState) → Opens g → Opens (hears_whole number uid preference g)
  whole_heard uid preference g k =
      either Opens (is_zero uid) g (answers_or_records number uid preference (recorded_at g.allocator.raft_server.store.log uid) g)
      (λ e. k) (λ e. go (recorded_at g.allocator.raft_server.store.log uid))
    where
      kept : (node : Option ℕ) → Opens (records_at number uid node g)
      kept None = k
      kept (Some node) = proposed 1 uid node g k

      go : (place : Option ℕ) → Opens (answers_or_records number uid preference place g)
      go None =
          either Opens (may_propose g.allocator && not (some_unknown g.allocator.watch (known g.allocator) g.allocator.now))
          (records_at number uid (chosen (taken g.allocator) preference) g) g (λ e. kept (chosen (taken g.allocator) preference)) (λ e. k)
      go (Some place) =
          either Opens (nat_lt place g.allocator.raft_server.store.commit) (gives_pair number (AnswerAgain place) place g) g
          (λ e. gives (AnswerAgain place) place g (λ server times now. tt) k) (λ e. k)

  request_heard : (heard : Heard) (g : StepState) → Opens g → Opens (answers_request number heard g)
  request_heard (FollowUp bytes) g k = sends Alloc 0 (allocation_payload 0 bytes.items) None g tt k
  request_heard (Whole uid preference) g k = whole_heard uid preference g k
  request_heard (Ignored why) g k = k
  request_heard Denied g k = k

  read : {A : Type 0} (does : A → StepState → StepState) (value : Option A) (g : StepState) → Opens g → ((found : A) → Opens (does found g))
      → Opens (reads does value g).step_state
  read does None g k f = k
  read does (Some value) g k f = f value

  message_heard : (d : Delivery) (g : StepState) → Opens g → Shows (delivered.message d g)
  message_heard d g k =
      either Shows (nat_eq d.ident.number 341) (reads (λ status. hears_status d) (node_status_of d.payload) g)
      (reads (hears_discovery d) (discovery_of d.payload) g)
      (λ e. read (λ status. hears_status d) (node_status_of d.payload) g k (λ status. k))
      (λ e. read (hears_discovery d) (discovery_of d.payload) g k (λ message. k))

  asked : (d : Delivery) (bytes : List ℕ) (g : StepState) → Opens g → Shows (asks_info number d bytes g)
  asked d [] g k = k
  asked d (byte ∷ bytes) g k = k

  one_move : (move : Move) (g : StepState) → IsReason append p g.allocator.raft_server g.allocator.times g.allocator.now move → Opens g
      → Opens (with_moves number (given_at g.allocator.now) (move ∷ []) g)
  one_move move g reason k = moved g.allocator.raft_server g.allocator.times g.allocator.ids g.allocator.now (members_of g.allocator) g.allocator.me
      (given_at g.allocator.now) refl move reason k

  voted : (d : Delivery) (call : Request) (g : StepState) → Opens g → Opens (answers_vote number d call g)
  voted d call g k = one_move (TakeVoteRequest call (grants (with_term g.allocator.raft_server.store call.term) call)) g tt k

  appended : (d : Delivery) (call : Request) (g : StepState) → Opens g → Opens (answers_append number d call g)
  appended d call g k = one_move (TakeAppendRequest call (verdict_on g.allocator.raft_server call)) g tt k

  request_comes : (d : Delivery) (g : StepState) → Opens g → Shows (request number d g)
  request_comes d g k =
      either Shows (nat_eq d.ident.number 1) (asks_info number d d.payload g) _ (λ e. asked d d.payload g k)
      (λ e. either Shows (nat_eq d.ident.number 30) (reads (takes_append_request number d) (append_request_of d.payload) g)
      (reads (takes_vote_request number d) (vote_request_of d.payload) g)
      (λ e. read (takes_append_request number d) (append_request_of d.payload) g k (λ says.
      either Opens (is_listed d g.allocator) _ g (λ e. appended d (asked_append says d.mark.step d.ident.source g.allocator.me) g k) (λ e. k)))
      (λ e. read (takes_vote_request number d) (vote_request_of d.payload) g k (λ says.
      either Opens (is_listed d g.allocator) _ g (λ e. voted d (asked_vote says d.mark.step d.ident.source g.allocator.me) g k) (λ e. k))))

  -- an answer of this service: where it is one of node p to the calls in question, none was made behind those that count
  call_ends : (own : Bool) (d : Delivery) (take : Request → Move) → ((call : Request) (times : Times) (now : ℕ) → HasWaited times now (take call)) → (g : StepState)
      → is_awaited g.allocator.raft_server g.allocator.times d.ident.source own d.id ≡ true
      → ((call : Request) (server : RaftServer) (times : Times) (now : ℕ) → server.memory.pending d.ident.source ≡ Some call → call.append ≡ own
      → (append ≡ own → (p == d.ident.source) ≡ false) → IsReason append p server times now (take call))
      → (append ≡ own → (p == d.ident.source) ≡ true → (id M b : ℕ) → Past id M b → b ≡ 0)
      → Opens g → Opens (answers_call number take (g.allocator.raft_server.memory.pending d.ident.source) g)
  call_ends own d take idle g awaited reason quiet k = by (g.allocator.raft_server.memory.pending d.ident.source) refl where
    by : (pending : Option Request) → g.allocator.raft_server.memory.pending d.ident.source ≡ pending → Opens (answers_call number take pending g)
    by None e = k
    by (Some call) e =
        move_with_blank Opens number (given_at g.allocator.now) (take call) g ended (λ moment. blank_added (given_at g.allocator.now) then_ refl ended)
      where
        then_ : StepState
        then_ = with_moves number (given_at g.allocator.now) (take call ∷ []) g

        ended : Opens then_
        ended = record {
          wait = moved_since (members_of g.allocator) g.allocator.me number g.allocator.now (given_at g.allocator.now) refl g.allocator.raft_server g.allocator.times k.wait (take call);
          awake = awake_after opening (members_of g.allocator) g.allocator.me number g.allocator.now (given_at g.allocator.now) refl g.allocator.raft_server
              g.allocator.times k.wait (take call) (idle call g.allocator.times g.allocator.now) k.awake;
          room = k.room;
          past = λ id M b i. since_moved g.allocator.raft_server g.allocator.times g.allocator.ids g.allocator.now (members_of g.allocator) g.allocator.me
              (given_at g.allocator.now) refl (take call) id M b
              (λ some. reason call g.allocator.raft_server g.allocator.times g.allocator.now e
              (awaited_call own (g.allocator.raft_server.memory.pending d.ident.source) (g.allocator.times.sending d.ident.source) d.id awaited call e)
              (λ same. elim (tell (p == d.ident.source)) [
                | inl here ↦ absurd (omega (arith, some, quiet same here id M b i))
                | inr there ↦ there
              ])) (k.past id M b i);
        }

  -- where the delivered transfer is an answer to a call in question, none was made behind those that count
  abbrev IsQuiet : Delivery → StepState → Type 0
  IsQuiet d g = IsAnswerOf append p d (members_of g.allocator) g.allocator.raft_server g.allocator.times → (id M b : ℕ) → Past id M b → b ≡ 0

  answer_comes : (own : Bool) (d : Delivery) (take : Request → Move) → ((call : Request) (times : Times) (now : ℕ) → HasWaited times now (take call)) → (g : StepState)
      → is_listed d g.allocator ≡ true → d.ident.kind ≡ Response → nat_eq d.ident.number 1 ≡ false
      → nat_eq d.ident.number 30 ≡ own
      → ((call : Request) (server : RaftServer) (times : Times) (now : ℕ) → server.memory.pending d.ident.source ≡ Some call → call.append ≡ own
      → (append ≡ own → (p == d.ident.source) ≡ false) → IsReason append p server times now (take call))
      → IsQuiet d g → Opens g → is_awaited g.allocator.raft_server g.allocator.times d.ident.source own d.id ≡ true
      → Opens (answers_call number take (g.allocator.raft_server.memory.pending d.ident.source) g)
  answer_comes own d take idle g listed kind other service reason quiet k awaited =
      call_ends own d take idle g awaited reason (λ same here. quiet (record {
        listed = listed;
        kind = kind;
        other = other;
        service = service ∙ sym same;
        from = eq_true p d.ident.source here;
        awaited = ap (λ (b : Bool). is_awaited g.allocator.raft_server g.allocator.times d.ident.source b d.id) same ∙ awaited;
      })) k

  response_comes : (d : Delivery) (g : StepState) → d.ident.kind ≡ Response → IsQuiet d g → Opens g → Shows (answered number d g)
  response_comes d g kind quiet k =
      either Shows (nat_eq d.ident.number 1) (reads (hears_info d) (node_info_of d.payload) g) _
      (λ e. read (hears_info d) (node_info_of d.payload) g k (λ info. k))
      (λ other. either Shows (nat_eq d.ident.number 30) (reads (takes_append_answer number d) (append_answer_of d.payload) g)
      (reads (takes_vote_answer number d) (vote_answer_of d.payload) g)
      (λ service. read (takes_append_answer number d) (append_answer_of d.payload) g k (λ says.
      either Opens (is_listed d g.allocator) (ends_append_call number d says g) g
      (λ listed. either Opens (is_awaited g.allocator.raft_server g.allocator.times d.ident.source true d.id) _ g
      (answer_comes true d (append_answered d says) (λ call times now. tt) g listed kind other service
      (λ call server times now e own f. record { asked = call; pending = e; service = own; other = f }) quiet k) (λ e. k)) (λ e. k)))
      (λ service. read (takes_vote_answer number d) (vote_answer_of d.payload) g k (λ says.
      either Opens (is_listed d g.allocator) (ends_vote_call number d says g) g
      (λ listed. either Opens (is_awaited g.allocator.raft_server g.allocator.times d.ident.source false d.id) _ g
      (answer_comes false d (vote_answered d says) (λ call times now. tt) g listed kind other service
      (λ call server times now e own f. record { asked = call; pending = e; service = own; other = f }) quiet k) (λ e. k)) (λ e. k))))

  comes_by : (d : Delivery) (kind : Kind) (g : StepState) → d.ident.kind ≡ kind → IsQuiet d g → Opens g → Shows (by_kind number d kind g)
  comes_by d Anonymous g e quiet k = read (hears_allocation number) (allocation_of d.payload) g k
      (λ message. request_heard (answer g.allocator.accepted message g.allocator.now (may_follow g.allocator)) (with_request message g) k)
  comes_by d Broadcast g e quiet k = message_heard d g k
  comes_by d RequestKind g e quiet k = request_comes d g k
  comes_by d Response g e quiet k = response_comes d g e quiet k

  delivers : (d : Delivery) (g : StepState) → IsQuiet d g → Opens g → Shows (delivery_phase number d g)
  unfolding delivery_phase
  delivers d g quiet k = comes_by d d.ident.kind g refl quiet k

  by_answer : (answer : Received) (g : StepState) → ((d : Delivery) → answer ≡ Gives d → IsQuiet d g) → Opens g → Shows (with_answer number answer g)
  by_answer (Gives d) g quiet k = delivers d g (quiet d refl) k
  by_answer Continues g quiet k = k
  by_answer (Drops why) g quiet k = k

  -- what an event delivers
  abbrev pub IsQuietAt : Event → StepState → Type 0
  IsQuietAt (Tick now word) g = ⊤
  IsQuietAt (Rx arrival) g = (d : Delivery)
      → received (setting_for g.allocator.me) g.allocator.sessions (at_step g.allocator arrival) ≡ Gives d → IsQuiet d g

  happens : (event : Event) (g : StepState) → IsQuietAt event g → Opens g → Shows (event_phase number event g)
  happens (Tick now word) g quiet k = ticks word g k
  happens (Rx arrival) g quiet k = by_answer _ (with_sessions arrival g) quiet k

  -- ---- the end, but for calls

  commits : (g : StepState) → Opens g → Opens (commit_phase number g)
  commits g k =
      either (λ (moves : List Move). Opens (with_moves number (given_at g.allocator.now) moves g)) (is_leader g.allocator.raft_server.memory.role)
      (duty.commit_moves (commit_index (members_of g.allocator) g.allocator.me g.allocator.raft_server)) []
      (λ e. go (commit_index (members_of g.allocator) g.allocator.me g.allocator.raft_server)) (λ e. k)
    where
      go : (index : Option ℕ) → Opens (with_moves number (given_at g.allocator.now) (duty.commit_moves index) g)
      go None = k
      go (Some index) = one_move (CommitTo index) g tt k

  tells : (g : StepState) → Opens g → Opens (tell_phase number g)
  tells g k =
      either Opens (has_to_tell g.allocator.raft_server) (tells_next number g) g
      (λ e. either Opens (is_zero (next_entry g.allocator.raft_server).uid) _ _ (λ z. one_move TellNothing g tt k)
      (λ z. gives TellPair g.allocator.raft_server.memory.told g (λ server times now. tt) k)) (λ e. k)

  -- ---- calls

  -- the offer is a call in question that fitted
  pub record IsCall (offer : Offer) : Type 0 where
    pub what : offer.what ≡ carrier append
    pub to : offer.to ≡ p
    pub fitted : offer.fitted ≡ true

  -- one of them was made
  abbrev pub IsMade : List Offer → Type 0
  IsMade offers = (offer : Offer) × (In offer offers) × IsCall offer

  -- since a call so many were made before this step, and so many with those of the step
  pub record Counted (id M b : ℕ) (m : Memory) (times : Times) (ids : Ids) (now : ℕ) (offers : List Offer) : Type 0 where
    pub more : ℕ
    pub since : Since append p P id M more m times ids now
    pub made : (more ≡ b) ⊎ IsMade offers

  pub record Called (m : Memory) (times : Times) (ids : Ids) (now : ℕ) (offers : List Offer) : Type 0 where
    pub wait : times.since ≤ now
    pub awake : IsAwake opening m times now
    pub room : p < length (ids_to append ids)
    pub past : (id M b : ℕ) → Past id M b → Counted id M b m times ids now offers
    pub waits : (offer : Offer) → In offer offers → IsCall offer → is_some (m.pending p) ≡ true
    pub over : (offer : Offer) → In offer offers → IsCall offer → opening + 2000 ≤ now
    pub far : (id M b : ℕ) → Past id M b → (offer : Offer) → In offer offers → IsCall offer → offer.id ≡ id → M + width ≤ now
    pub own : (offer : Offer) → In offer offers → IsCall offer → Since append p P offer.id now 0 m times ids now

  abbrev pub Calls : StepState → Type 0
  Calls g = Called g.allocator.raft_server.memory g.allocator.times g.allocator.ids g.allocator.now g.offers

  -- an offer that is none of them
  one_more : (offers : List Offer) (new : Offer) → (IsCall new → ⊥) → (offer : Offer) → In offer (offers ++ new ∷ []) → IsCall offer → In offer offers
  one_more offers new none offer i call = elim (in_append offer offers (new ∷ []) i) [
    | inl j ↦ j
    | inr (inl e) ↦ absurd (none (subst IsCall e call))
    | inr (inr j) ↦ absurd j
  ]

  one_made : (offers : List Offer) (new : Offer) → IsMade offers → IsMade (offers ++ new ∷ [])
  one_made offers new is_made = (is_made.0, in_front is_made.0 offers (new ∷ []) is_made.1, is_made.2)

  same_but : (m : Memory) (times : Times) (ids then_ : Ids) (now : ℕ) (offers : List Offer) (new : Offer) → (IsCall new → ⊥)
      → length (ids_to append then_) ≡ length (ids_to append ids) → slice_index (ids_to append then_) p ≡ slice_index (ids_to append ids) p
      → Called m times ids now offers → Called m times then_ now (offers ++ new ∷ [])
  same_but m times ids then_ now offers new none long next k = record {
    wait = k.wait;
    awake = k.awake;
    room = omega (arith, k.room, long);
    past = λ id M b i. let c = k.past id M b i in
        record { more = c.more; since = same_ids id M c.more m times ids then_ now next c.since; made = still c.made };
    waits = λ offer j call. k.waits offer (one_more offers new none offer j call) call;
    over = λ offer j call. k.over offer (one_more offers new none offer j call) call;
    far = λ id M b i offer j call same. k.far id M b i offer (one_more offers new none offer j call) call same;
    own = λ offer j call. same_ids offer.id now 0 m times ids then_ now next (k.own offer (one_more offers new none offer j call) call);
  }
    where
      still : {more b : ℕ} → (more ≡ b) ⊎ IsMade offers → (more ≡ b) ⊎ IsMade (offers ++ new ∷ [])
      still (inl none_) = inl none_
      still (inr is_made) = inr (one_made offers new is_made)

  -- the move leaves no less waiting for node p
  abbrev StaysWaiting : RaftServer → Move → List ℕ → ℕ → Type 0
  StaysWaiting server move members me = is_some (server.memory.pending p) ≡ true → is_some ((memory_after members me number server move).pending p) ≡ true

  after_move : (server : RaftServer) (times : Times) (ids : Ids) (now : ℕ) (offers : List Offer) (members : List ℕ) (me : ℕ) (given : HandedIn) → given.now ≡ now → (move : Move)
      → IsReason append p server times now move → StaysWaiting server move members me → Called server.memory times ids now offers
      → Called (memory_after members me number server move) (times_after members me given server move times) ids now offers
  after_move server times ids now offers members me given e move reason stays k = record {
    wait = moved_since members me number now given e server times k.wait move;
    awake = awake_after opening members me number now given e server times k.wait move (waited_by append p server times now move reason) k.awake;
    room = k.room;
    past = λ id M b i. let c = k.past id M b i in
        record { more = c.more; since = since_moved server times ids now members me given e move id M c.more (λ some. reason) c.since; made = c.made };
    waits = λ offer j call. stays (k.waits offer j call);
    over = k.over;
    far = k.far;
    own = λ offer i call. since_moved server times ids now members me given e move offer.id now 0 (λ some. reason) (k.own offer i call);
  }

  -- a call of the other service, or to another node
  abbrev IsElsewhere : What → ℕ → Type 0
  IsElsewhere what peer = ((what ≡ carrier append → ⊥) × ((to : ℕ) (ids : Ids) → ids_to append (ids_after what to ids) ≡ ids_to append ids))
      ⊎ ((what ≡ carrier append) × (p ≢ peer))

  calls_other : (what : What) (peer : ℕ) (move : Move) (call : Request) (payload : List ℕ) (g : StepState) → IsElsewhere what peer
      → IsReason append p g.allocator.raft_server g.allocator.times g.allocator.now move
      → StaysWaiting g.allocator.raft_server move (members_of g.allocator) g.allocator.me → Calls g → Calls (calls_by number what peer move call payload g)
  calls_other what peer move call payload g other reason stays k =
      either Calls (has_room g.allocator.queue payload) _ _
      (λ e. after_move g.allocator.raft_server g.allocator.times (then_ids (has_room g.allocator.queue payload)) g.allocator.now
      (g.offers ++ sent what peer payload (Some (Requests call)) g ∷ []) (members_of g.allocator) g.allocator.me
      (given_call g.allocator.now (id_of g.allocator.ids what peer)) refl move reason stays offered) (λ e. offered)
    where
      then_ids : Bool → Ids
      then_ids fitted = counted_if fitted what peer g.allocator.ids

      none : IsElsewhere what peer → IsCall (sent what peer payload (Some (Requests call)) g) → ⊥
      none (inl differs) is_call = differs.0 is_call.what
      none (inr elsewhere) is_call = elsewhere.1 (sym is_call.to)

      long : IsElsewhere what peer → (fitted : Bool) → length (ids_to append (then_ids fitted)) ≡ length (ids_to append g.allocator.ids)
      long where_ false = refl
      long (inl differs) true = ap length (differs.1 peer g.allocator.ids)
      long (inr elsewhere) true = ap length (own_after append what peer g.allocator.ids elsewhere.0)
          ∙ length-set (ids_to append g.allocator.ids) peer (id_after (slice_index (ids_to append g.allocator.ids) peer))

      next : IsElsewhere what peer → (fitted : Bool) → slice_index (ids_to append (then_ids fitted)) p ≡ slice_index (ids_to append g.allocator.ids) p
      next where_ false = refl
      next (inl differs) true = ap (λ (l : List ℕ). slice_index l p) (differs.1 peer g.allocator.ids)
      next (inr elsewhere) true = ap (λ (l : List ℕ). slice_index l p) (own_after append what peer g.allocator.ids elsewhere.0)
          ∙ get_or-set_other (ids_to append g.allocator.ids) peer p (id_after (slice_index (ids_to append g.allocator.ids) peer)) 0 elsewhere.1

      offered : Calls (with_transfer number what peer payload (Some (Requests call)) g)
      offered = same_but g.allocator.raft_server.memory g.allocator.times g.allocator.ids (then_ids (has_room g.allocator.queue payload))
          g.allocator.now g.offers (sent what peer payload (Some (Requests call)) g) (none other)
          (long other (has_room g.allocator.queue payload)) (next other (has_room g.allocator.queue payload)) k

  -- a call in question
  calls_own : (what : What) → what ≡ carrier append → (move : Move) (call : Request) (payload : List ℕ) (g : StepState)
      → IsOwnCall append p g.allocator.raft_server.memory move → Calls g → Calls (calls_by number what p move call payload g)
  calls_own what carried move call payload g own k = by (has_room g.allocator.queue payload) refl where
    server : RaftServer
    server = g.allocator.raft_server

    ids : Ids
    ids = g.allocator.ids

    now : ℕ
    now = g.allocator.now

    new : Offer
    new = sent what p payload (Some (Requests call)) g

    given : HandedIn
    given = given_call now (id_of ids what p)

    m_after : Memory
    m_after = memory_after (members_of g.allocator) g.allocator.me number server move

    times_then : Times
    times_then = times_after (members_of g.allocator) g.allocator.me given server move g.allocator.times

    next_id : slice_index (ids_to append (ids_after what p ids)) p ≡ id_after (slice_index (ids_to append ids) p)
    next_id = ap (λ (l : List ℕ). slice_index l p) (own_after append what p ids carried)
        ∙ get_or-set_same (ids_to append ids) p (id_after (slice_index (ids_to append ids) p)) 0 k.room

    one_further : (id more n : ℕ) → n ≡ (id + 1 + more) % 32 → id_after n ≡ (id + 1 + suc more) % 32
    one_further id more n e = omega (arith, e)

    further : (id M b : ℕ) → Since append p P id M b server.memory g.allocator.times ids now → Since append p P id M (suc b) m_after times_then (ids_after what p ids) now
    further id M b c = record { spaced = spaced b c.spaced; next = next_id ∙ one_further id b (slice_index (ids_to append ids) p) c.next } where
      spaced : (b : ℕ) → Behind P M b server.memory g.allocator.times now → Behind P M (suc b) m_after times_then now
      spaced zero before = (now, before, is.begins server g.allocator.times now k.wait (members_of g.allocator) g.allocator.me number given refl move own)
      spaced (suc b) before = (
        before.0,
        before.1,
        is.calls before.0 b server g.allocator.times now before.2 (members_of g.allocator) g.allocator.me number given refl move own,
      )

    round : (id more : ℕ) → id ≡ (id + 1 + more) % 32 → 31 ≤ more
    round id more e = omega (arith, e)

    new_id : new.id ≡ slice_index (ids_to append ids) p
    new_id = own_next append what p ids carried

    own_free : (a : Bool) (move : Move) → IsOwnCall a p server.memory move → server.memory.pending p ≡ None
    own_free true (CallToAppend q previous with_entry) own_ = ap server.memory.pending (sym own_.2) ∙ own_.1
    own_free false (CallForVote q) own_ = ap server.memory.pending (sym own_.2) ∙ own_.1
    own_free a move own_ = absurd own_

    itself : (q : ℕ) → q ≡ p → (p == q) ≡ true
    itself q e = elim (eqb_tells p q) [ inl s ↦ s.0 | inr apart ↦ absurd (apart.1 (sym e)) ]

    own_waits : (a : Bool) (members : List ℕ) (me : ℕ) (move : Move) → IsOwnCall a p server.memory move
        → is_some ((memory_after members me number server move).pending p) ≡ true
    own_waits true members me (CallToAppend q previous with_entry) own_ =
        ap (λ (b : Bool). is_some (if b then Some (append_request me number server.store q previous with_entry) else server.memory.pending p)) (itself q own_.2)
    own_waits false members me (CallForVote q) own_ =
        ap (λ (b : Bool). is_some (if b then Some (vote_request me number server.store q) else server.memory.pending p)) (itself q own_.2)
    own_waits a members me move own_ = absurd own_

    -- where the transfer ID came round, so much time has passed
    far_behind : (M b : ℕ) → Behind P M b server.memory g.allocator.times now → 31 ≤ b → M + width ≤ now
    far_behind M zero before many = absurd (omega (arith, many))
    far_behind M (suc b) before many = omega (
      arith,
      before.1,
      is.far before.0 b server.memory g.allocator.times now before.2 move own (omega (arith, many)),
    )

    -- none was made in this step before
    first_one : (offer : Offer) → In offer g.offers → IsCall offer → ⊥
    first_one offer j is_call = never (ap (λ (o : Option Request). is_some o) (sym (own_free append move own)) ∙ k.waits offer j is_call)

    the_new : (offer : Offer) → In offer (g.offers ++ new ∷ []) → IsCall offer → offer ≡ new
    the_new offer j is_call = elim (in_append offer g.offers (new ∷ []) j) [
      | inl earlier ↦ absurd (first_one offer earlier is_call)
      | inr (inl e) ↦ e
      | inr (inr l) ↦ absurd l
    ]

    is_new : IsCall new → IsMade (g.offers ++ new ∷ [])
    is_new is_call = (new, in_back new g.offers (new ∷ []) (inl refl), is_call)

    fits : has_room g.allocator.queue payload ≡ true → Called m_after times_then (ids_after what p ids) now (g.offers ++ new ∷ [])
    fits room = record {
      wait = moved_since (members_of g.allocator) g.allocator.me number now given refl server g.allocator.times k.wait move;
      awake = awake_after opening (members_of g.allocator) g.allocator.me number now given refl server g.allocator.times k.wait move
          (waited_to_call append p server.memory g.allocator.times now move own) k.awake;
      room = subst (λ (l : List ℕ). p < length l) (sym (own_after append what p ids carried))
          (omega (arith, k.room, length-set (ids_to append ids) p (id_after (slice_index (ids_to append ids) p))));
      past = λ id M b i. let c = k.past id M b i in record {
        more = suc c.more;
        since = further id M c.more c.since;
        made = inr (is_new (record { what = carried; to = refl; fitted = room }));
      };
      waits = λ offer j is_call. own_waits append (members_of g.allocator) g.allocator.me move own;
      over = λ offer j is_call. over_at_call append p opening server.memory g.allocator.times now move own k.awake;
      far = λ id M b i offer j is_call same. let c = k.past id M b i in
          far_behind M c.more c.since.spaced (round id c.more (sym same ∙ (ap (λ (o : Offer). o.id) (the_new offer j is_call) ∙ (new_id ∙ c.since.next))));
      own = λ offer j is_call. record {
        spaced = omega arith;
        next = next_id ∙ ap (λ (n : ℕ). (n + 1) % 32) (sym new_id ∙ ap (λ (o : Offer). o.id) (sym (the_new offer j is_call))) ∙ omega arith;
      };
    }

    by : (fitted : Bool) → has_room g.allocator.queue payload ≡ fitted → Calls (calls_by number what p move call payload g)
    by true room = subst (λ (b : Bool). Calls (with_move_if b number given move (with_transfer number what p payload (Some (Requests call)) g)))
        (sym room) (subst (λ (b : Bool). Called m_after times_then (counted_if b what p ids) now (g.offers ++ new ∷ [])) (sym room) (fits room))
    by false full = subst (λ (b : Bool). Calls (with_move_if b number given move (with_transfer number what p payload (Some (Requests call)) g)))
        (sym full) (subst (λ (b : Bool). Called server.memory g.allocator.times (counted_if b what p ids) now (g.offers ++ new ∷ [])) (sym full)
        (same_but server.memory g.allocator.times ids ids now g.offers new (λ is_call. never (sym full ∙ is_call.fitted)) refl refl k))

  -- a call to another node, or of the other service, leaves no less waiting
  one_waits : (peer : ℕ) (call : Request) (waiting : Option Request) → is_some waiting ≡ true → is_some (if p == peer then Some call else waiting) ≡ true
  one_waits peer call waiting some = by (p == peer) where
    by : (b : Bool) → is_some (if b then Some call else waiting) ≡ true
    by true = refl
    by false = some

  votes_apart : append ≡ true → (VoteQ ≡ carrier append → ⊥) × ((to : ℕ) (ids : Ids) → ids_to append (ids_after VoteQ to ids) ≡ ids_to append ids)
  votes_apart e = (
    λ same. absurd (omega (arith, ap rank (same ∙ ap carrier e))),
    λ to ids. subst (λ (a : Bool). ids_to a (ids_after VoteQ to ids) ≡ ids_to a ids) (sym e) refl,
  )

  appends_apart : append ≡ false → (AppQ ≡ carrier append → ⊥) × ((to : ℕ) (ids : Ids) → ids_to append (ids_after AppQ to ids) ≡ ids_to append ids)
  appends_apart e = (
    λ same. absurd (omega (arith, ap rank (same ∙ ap carrier e))),
    λ to ids. subst (λ (a : Bool). ids_to a (ids_after AppQ to ids) ≡ ids_to a ids) (sym e) refl,
  )

  asks_vote_of : (peer q : ℕ) (g : StepState) → IsOwed g.allocator.raft_server peer (Some (CallForVote q)) → Calls g
      → Calls (calls_owed number (Some (CallForVote q)) g)
  asks_vote_of peer q g owed_it k = elim (tell append) [
    | inl e ↦ calls_other VoteQ q (CallForVote q) call (vote_call_bytes call) g (inl (votes_apart e)) (owed_it.0, λ f. never (sym f ∙ e)) (one_waits q call _) k
    | inr e ↦ elim (eqb_tells p q) [
      | inl s ↦ subst (λ (n : ℕ). Calls (calls_owed number (Some (CallForVote n)) g)) s.1 (calls_own VoteQ (sym (ap carrier e)) (CallForVote p)
          (vote_request g.allocator.me number g.allocator.raft_server.store p) (vote_call_bytes (vote_request g.allocator.me number g.allocator.raft_server.store p)) g
          (subst (λ (a : Bool). IsOwnCall a p g.allocator.raft_server.memory (CallForVote p)) (sym e)
          (owed_it.0, ap g.allocator.raft_server.memory.pending (s.1 ∙ owed_it.2) ∙ owed_it.1, refl)) k)
      | inr apart ↦ calls_other VoteQ q (CallForVote q) call (vote_call_bytes call) g (inr (sym (ap carrier e), apart.1)) (owed_it.0, λ f. apart.0) (one_waits q call _) k
    ]
  ]
    where
      call : Request
      call = vote_request g.allocator.me number g.allocator.raft_server.store q

  asks_append_of : (peer q previous : ℕ) (with_entry : Bool) (g : StepState) → IsOwed g.allocator.raft_server peer (Some (CallToAppend q previous with_entry)) → Calls g
      → Calls (calls_owed number (Some (CallToAppend q previous with_entry)) g)
  asks_append_of peer q previous with_entry g owed_it k = elim (tell append) [
    | inr e ↦ calls_other AppQ q (CallToAppend q previous with_entry) (call q) (append_call_bytes (call q)) g (inl (appends_apart e)) (owed_it.0, λ f. never (sym e ∙ f)) (one_waits q (call q) _) k
    | inl e ↦ elim (eqb_tells p q) [
      | inl s ↦ subst (λ (n : ℕ). Calls (calls_owed number (Some (CallToAppend n previous with_entry)) g)) s.1
          (calls_own AppQ (sym (ap carrier e)) (CallToAppend p previous with_entry) (call p) (append_call_bytes (call p)) g
          (subst (λ (a : Bool). IsOwnCall a p g.allocator.raft_server.memory (CallToAppend p previous with_entry)) (sym e)
          (owed_it.0, ap g.allocator.raft_server.memory.pending (s.1 ∙ owed_it.2) ∙ owed_it.1, refl)) k)
      | inr apart ↦ calls_other AppQ q (CallToAppend q previous with_entry) (call q) (append_call_bytes (call q)) g (inr (sym (ap carrier e), apart.1))
          (owed_it.0, λ f. apart.0) (one_waits q (call q) _) k
    ]
  ]
    where
      call : ℕ → Request
      call node = append_request g.allocator.me number g.allocator.raft_server.store node previous with_entry

  some_call : (peer : ℕ) (call : Option Move) (g : StepState) → IsOwed g.allocator.raft_server peer call → Calls g → Calls (calls_owed number call g)
  some_call peer None g owed_it k = k
  some_call peer (Some (CallForVote q)) g owed_it k = asks_vote_of peer q g owed_it k
  some_call peer (Some (CallToAppend q previous with_entry)) g owed_it k = asks_append_of peer q previous with_entry g owed_it k
  some_call peer (Some move) g owed_it k = k

  all_calls : (peers : List ℕ) (g : StepState) → Calls g → Calls (calls_all number peers g)
  all_calls [] g k = k
  all_calls (peer ∷ peers) g k = all_calls peers (calls_peer number peer g)
      (some_call peer (owed g.allocator.raft_server g.allocator.times peer g.allocator.now) g (owes g.allocator.raft_server g.allocator.times peer g.allocator.now) k)

  -- ---- the whole step

  older : (t : AllocatorState) (moment : ℕ) → Open t.raft_server.memory t.times t.ids t.now → Opens (initial_state (at_moment moment t))
  older t moment k = record {
    wait = grind (arith, k.wait);
    awake = awake_later opening t.raft_server.memory t.times t.now (max t.now moment) (grind arith) k.awake;
    room = k.room;
    past = λ id M b i. let c = k.past id M b i in record { spaced = behind M b c.spaced; next = c.next };
  }
    where
      behind : (M b : ℕ) → Behind P M b t.raft_server.memory t.times t.now → Behind P M b t.raft_server.memory t.times (max t.now moment)
      behind M zero before = grind (arith, before)
      behind M (suc b) before = (before.0, before.1, is.later before.0 b t.raft_server.memory t.times t.now (max t.now moment) (grind arith) before.2)

  pub calls_of_a_step : (t : AllocatorState) (event : Event) → Open t.raft_server.memory t.times t.ids t.now
      → IsQuietAt event (begin_phase number (moment_of event) t) → Calls (step t number event).step_state
  unfolding step
  calls_of_a_step t event k quiet =
      all_calls (drop 1 (members_of told.allocator)) told (record {
        wait = all_told.wait;
        awake = all_told.awake;
        room = all_told.room;
        past = λ id M b i. record { more = b; since = all_told.past id M b i; made = inl refl };
        waits = λ offer j is_call. absurd (no_call offer j is_call);
        over = λ offer j is_call. absurd (no_call offer j is_call);
        far = λ id M b i offer j is_call. absurd (no_call offer j is_call);
        own = λ offer j is_call. absurd (no_call offer j is_call);
      })
    where
      begun : StepState
      begun = begin_phase number (moment_of event) t

      seen : StepState
      seen = (event_phase number event begun).step_state

      committed : StepState
      committed = commit_phase number seen

      told : StepState
      told = tell_phase number committed

      all_told : Opens told
      all_told = tells committed (commits seen (happens event begun quiet (expired (initial_state (at_moment (moment_of event) t)) (older t (moment_of event) k))))

      a_call : (a : Bool) → 8 ≤ rank (carrier a)
      a_call true = omega arith
      a_call false = omega arith

      no_call : (offer : Offer) → In offer told.offers → IsCall offer → ⊥
      no_call offer j is_call = absurd (omega (
        arith,
        (told_offers number committed (event_offers number event begun refl)).each offer j,
        ap rank is_call.what,
        a_call append,
      ))
