-- What a frame leaves by which a member comes to lead in its term: it has just won, and nothing else is done.
use Rattle.std.proofs.Common.{◌≡◌, ◌≢◌, ℕ, ◌+◌, Bool, true, false, List, [], ◌∷◌, refl, drop, Option, Some, None, sym, ap, subst, inl, inr, arith, ◌≤◌, ◌<◌, ◌∙◌}
use Rattle.std.specs.Prelude.{◌&&◌, ◌||◌, ◌-◌, length, nat_eq, nat_le, nat_lt, not, slice_index_or, ◌⊎◌, if◌then◌else◌, max}
use Rattle.alloc_exchange.specs.declared.heard.Heard.{Heard}
use Rattle.alloc_exchange.specs.declared.heard.Heard.TheVariants.{Denied, FollowUp, Ignored, Whole}
use Rattle.can_frame.specs.declared.identifier.Kind.{Kind}
use Rattle.can_frame.specs.declared.identifier.Kind.TheVariants.{Anonymous, Message, Request as RequestKind, Response}
use Rattle.can_frame.specs.declared.entry.Entry.{Entry}
use Rattle.can_frame.specs.declared.step.What.TheVariants.{Alloc, AppQ, VoteQ}
use Rattle.can_frame.specs.Log.{blank}
use Rattle.dsdl_codec.specs.Allocation.{allocation_of}
use Rattle.dsdl_codec.specs.AppendAnswer.{append_answer_of}
use Rattle.dsdl_codec.specs.Discovery.{discovery_of}
use Rattle.dsdl_codec.specs.NodeInfo.{node_info_of}
use Rattle.dsdl_codec.specs.NodeStatus.{node_status_of}
use Rattle.dsdl_codec.specs.VoteAnswer.{vote_answer_of}
use Rattle.id_selector.specs.Choice.{chosen}
use Rattle.node_discovery.specs.Watch.{some_unknown}
use Rattle.raft_core.specs.Calls.{due, due_unless}
use Rattle.raft_core.specs.Handled.{answer_of, append_request_of, vote_request_of, is_moment}
use Rattle.raft_core.specs.Times.{given_at, given_call, is_awaited, is_silent, overdue}
use Rattle.raft_model.specs.Decisions.{commit_index, grants, verdict_on, can_commit}
use Rattle.raft_model.specs.Duty.{commit_moves, is_heard, takes_blank}
use Rattle.raft_model.specs.Messages.{Request, Answer}
use Rattle.raft_model.specs.Messages.Message.{Requests}
use Rattle.raft_model.specs.Moves.{Move}
use Rattle.raft_model.specs.Moves.Elections.{is_leader, with_term, counting_memory, counts, has_quorum, memory_without_call, stepped_down, term_puts, votes_with, win_memory, with_vote}
use Rattle.raft_model.specs.Moves.Leading.{append_request, vote_request, has_matched}
use Rattle.raft_model.specs.Moves.Move.{AnswerAgain, CallForVote, CallToAppend, TakeAppendAnswer, TakeVoteAnswer, TakeVoteRequest}
use Rattle.raft_model.specs.Server.{RaftServer, Role, Memory, Store, put_all, quorum}
use Rattle.raft_model.specs.Server.Role.{Candidate, Follower, Leader}
use Rattle.transfer_rx.specs.Reassembly.{Answer as Received, Arrival, Continues, Delivery, Drops, Gives, answer}
use Rattle.alloc_spec.specs.Accepted.{setting_for}
use Rattle.alloc_spec.specs.AllocatorState.{AllocatorState, is_zero, known, may_propose, members_of, recorded_at, start_of, taken}
use Rattle.alloc_spec.specs.Delivered.{StepResult, asks_info, by_kind, delivery_phase, hears_discovery, hears_status, reads}
use Rattle.alloc_spec.specs.Ending.{append_call_bytes, calls_all, calls_owed, calls_peer, commit_phase, end_phase, has_to_tell, tell_phase, tells_next, vote_call_bytes}
use Rattle.alloc_spec.specs.Exchange.{allocation_payload, answers_or_records, answers_request, gives_entry, gives_pair, hears_allocation, may_follow, records_at, with_request}
use Rattle.alloc_spec.specs.Services.{answers_append_request, answers_call, answers_vote_request, append_answered, ends_append_call, ends_vote_call, hears_info, is_listed, takes_append_answer, takes_append_request, takes_vote_answer, takes_vote_request, vote_answered}
use Rattle.alloc_spec.specs.Step.{Event, step, with_answer, all_nodes, at_moment}
use Rattle.alloc_spec.specs.StepState.{StepState, with_moves, with_transfer}
use Rattle.alloc_spec.specs.Transfers.{has_room, id_of}
use Rattle.alloc_spec.proofs.Blanks.{move_with_blank}
use Rattle.alloc_spec_laws.proofs.Choices.{and_left, either, and_right, le_true, lt_tells, lt_true}
use Rattle.alloc_spec_laws.proofs.Proposals.{leader_of}
use Rattle.service_steps.specs.Requests.{moment_at}
use Rattle.service_steps.proofs.FollowUps.{when_come}
use Rattle.raft_model.specs.Lists.{how_many}
use Rattle.raft_model.specs.Members.{HasNoneTwice}
use Rattle.raft_model.specs.Moves.Appending.{Verdict, acknowledges, append_memory, matched_memory}
use Rattle.raft_model.specs.Moves.Appending.Verdict.{Added, Held, Outdated, Refused}
use Rattle.raft_model.specs.Server.Put.{PutTerm, PutVote}
use Rattle.service_steps.proofs.Begins.{IsAsBefore, expired}
use Rattle.service_device.proofs.SettledRaft.{greatest_passes}
use Rattle.service_device.proofs.SettledRows.{begins_waiting}
use Rattle.service_cluster.proofs.Others.{at_most_one, knows_none}
use Rattle.alloc_spec_laws.proofs.Peers.{members_list}
use Rattle.alloc_exchange.specs.Exchange as exchange
use Rattle.dsdl_codec.specs.AppendRequest as append_codec
use Rattle.dsdl_codec.specs.VoteRequest as vote_codec

-- ---- a server that does not lead, or has just won

module _ (log : List Entry) (commit : ℕ) where
  -- it does not lead, with this log, and has committed so much
  abbrev pub Not : RaftServer → Type 0
  Not s = (s.memory.role ≢ Leader) × (s.store.log ≡ log) × (s.store.commit ≡ commit)

  -- it has just won
  abbrev pub Wins : RaftServer → Type 0
  Wins s = (s.memory.role ≡ Leader) × (s.store.log ≡ log) × (s.store.commit ≡ commit) × (s.memory.told ≡ commit)
      × ((m : ℕ) → s.memory.matched m ≡ 0) × ((m : ℕ) → s.memory.next m ≡ length log + 1)

  -- it does not lead, or has just won
  abbrev pub Done : StepState → Type 0
  Done g = (g.allocator.raft_server.memory.role ≢ Leader) ⊎ (Wins g.allocator.raft_server × (2 ≤ length (members_of g.allocator)))

  -- what holds as the frame comes
  pub record Comes (g : StepState) : Type 0 where
    pub it_does_not : Not g.allocator.raft_server
    pub waits : g.allocator.times.waits ≡ true
    pub two : 2 ≤ length (members_of g.allocator)

  -- no list has a member twice
  once_in : (t : AllocatorState) → HasNoneTwice (members_of t)
  once_in t = (members_list (start_of t) t.heard).once

  -- one member alone is no quorum of these
  too_few : (members : List ℕ) (me count : ℕ) (s : RaftServer) → HasNoneTwice members → 2 ≤ length members → 1 ≤ count → ((m : ℕ) → s.memory.matched m ≡ 0)
      → has_quorum members (has_matched me s count) ≡ true → ⊥
  too_few members me count s once two some none e =
      let few = at_most_one (has_matched me s count) me (knows_none me s count some none) members once in
      let many = le_true (quorum members) (how_many (has_matched me s count) members) e in absurd (omega (arith, few, many, two))

  module _ (number : ℕ) where
    -- ---- as a step ends

    module _ (members : List ℕ) (once : HasNoneTwice members) (two : 2 ≤ length members) where
      -- it commits nothing
      none_committed : (me : ℕ) (s : RaftServer) → Wins s → (index : ℕ) → commit_index members me s ≡ Some index → ⊥
      none_committed me s h index e =
          let can : can_commit members me s index ≡ true = greatest_passes (length s.store.log) (can_commit members me s) index e in
          let low : s.store.commit < index = lt_true s.store.commit index (and_left (nat_lt s.store.commit index) _ can) in
          let inner = and_right (nat_le index (length s.store.log)) _ (and_right (nat_lt s.store.commit index) _ can) in
          too_few members me index s once two (omega (arith, low)) h.4 (and_right _ (has_quorum members (has_matched me s index)) inner)

    committed : (g : StepState) → Done g → Done (commit_phase number g)
    committed g (inl none) = either (λ (moves : List Move). Done (with_moves number (given_at g.allocator.now) moves g)) (is_leader g.allocator.raft_server.memory.role)
        (commit_moves (commit_index (members_of g.allocator) g.allocator.me g.allocator.raft_server)) []
        (λ e. absurd (none (leader_of g.allocator.raft_server.memory.role e))) (λ e. inl none)
    committed g (inr h) = either (λ (moves : List Move). Done (with_moves number (given_at g.allocator.now) moves g)) (is_leader g.allocator.raft_server.memory.role)
        (commit_moves (commit_index (members_of g.allocator) g.allocator.me g.allocator.raft_server)) []
        (λ e. by (commit_index (members_of g.allocator) g.allocator.me g.allocator.raft_server) refl) (λ e. inr h)
      where
        by : (index : Option ℕ) → commit_index (members_of g.allocator) g.allocator.me g.allocator.raft_server ≡ index
            → Done (with_moves number (given_at g.allocator.now) (commit_moves index) g)
        by None e = inr h
        by (Some index) e = absurd (none_committed (members_of g.allocator) (once_in g.allocator) h.1 g.allocator.me g.allocator.raft_server h.0 index e)

    -- nor tells anything
    told : (g : StepState) → Done g → Done (tell_phase number g)
    told g h = either Done (has_to_tell g.allocator.raft_server) (tells_next number g) g (λ e. absurd (none_told h e)) (λ e. h)
      where
        none_told : Done g → has_to_tell g.allocator.raft_server ≡ true → ⊥
        none_told (inl none) e = none (leader_of g.allocator.raft_server.memory.role (and_left (is_leader g.allocator.raft_server.memory.role) _ e))
        none_told (inr w) e =
            let low = lt_true g.allocator.raft_server.memory.told g.allocator.raft_server.store.commit
            (and_right (is_leader g.allocator.raft_server.memory.role) _ e) in
            let a = w.0.2 in let b = w.0.3 in omega (arith, low, a, b)

    -- the call that is owed to a peer
    by_role : (q : ℕ) (g : StepState) (pending : Option Request) (role : Role) → g.allocator.raft_server.memory.role ≡ role → Done g
        → Done (calls_owed number (due_unless pending (due role g.allocator.raft_server g.allocator.times q g.allocator.now)) g)
    by_role q g (Some request) role r h = h
    by_role q g None Follower r h = h
    by_role q g None Candidate r h =
        let asked : Request = vote_request g.allocator.me number g.allocator.raft_server.store q in
        let offered : StepState = with_transfer number VoteQ q (vote_call_bytes asked) (Some (Requests asked)) g in
        either (λ (call : Option Move). Done (calls_owed number call g)) (g.allocator.times.answered q) None (Some (CallForVote q)) (λ a. h)
        (λ a. either Done (has_room g.allocator.queue (vote_call_bytes asked))
        (with_moves number (given_call g.allocator.now (id_of g.allocator.ids VoteQ q)) (CallForVote q ∷ []) offered) offered (λ f. h) (λ f. h))
    by_role q g None Leader r h =
        let previous : ℕ = g.allocator.raft_server.memory.next q - 1 in
        let asked : Request = append_request g.allocator.me number g.allocator.raft_server.store q previous true in
        let offered : StepState = with_transfer number AppQ q (append_call_bytes asked) (Some (Requests asked)) g in
        either (λ (call : Option Move). Done (calls_owed number call g))
        (nat_le (g.allocator.raft_server.memory.next q) (length g.allocator.raft_server.store.log) || is_silent (g.allocator.times.appended q) g.allocator.now)
        (Some (CallToAppend q previous true)) None
        (λ a. either Done (has_room g.allocator.queue (append_call_bytes asked))
        (with_moves number (given_call g.allocator.now (id_of g.allocator.ids AppQ q)) (CallToAppend q previous true ∷ []) offered) offered (λ f. h) (λ f. h)) (λ a. h)

    -- the calls to all peers
    all_called : (peers : List ℕ) (g : StepState) → Done g → Done (calls_all number peers g)
    all_called [] g h = h
    all_called (q ∷ peers) g h = all_called peers (calls_peer number q g)
        (by_role q g (g.allocator.raft_server.memory.pending q) g.allocator.raft_server.memory.role refl h)

    -- the end of a step
    at_end : (g : StepState) → Done g → Done (end_phase number g)
    at_end g h = all_called (drop 1 (members_of (tell_phase number (commit_phase number g)).allocator)) (tell_phase number (commit_phase number g))
        (told (commit_phase number g) (committed g h))

    -- ---- a request of the exchange

    given : (entry : Entry) (place : ℕ) (g : StepState) → g.allocator.raft_server.memory.role ≢ Leader → Done (gives_entry number (AnswerAgain place) entry g)
    given entry place g none =
        let payload : List ℕ = allocation_payload entry.node entry.uid in
        either Done (has_room g.allocator.queue payload)
        (with_moves number (given_at g.allocator.now) (AnswerAgain place ∷ []) (with_transfer number Alloc 0 payload None g))
        (with_transfer number Alloc 0 payload None g) (λ r. inl none) (λ r. inl none)

    -- who does not lead records nothing
    found : (uid : List ℕ) (preference : ℕ) (place : Option ℕ) (g : StepState) → g.allocator.raft_server.memory.role ≢ Leader
        → Done (answers_or_records number uid preference place g)
    found uid preference None g none =
        either Done (may_propose g.allocator && not (some_unknown g.allocator.watch (known g.allocator) g.allocator.now))
        (records_at number uid (chosen (taken g.allocator) preference) g) g
        (λ e. absurd (none (leader_of g.allocator.raft_server.memory.role (and_left (is_leader g.allocator.raft_server.memory.role) _ (and_left (may_propose g.allocator) _ e)))))
        (λ e. inl none)
    found uid preference (Some place) g none =
        either Done (nat_lt place g.allocator.raft_server.store.commit) (gives_pair number (AnswerAgain place) place g) g
        (λ e. given (slice_index_or g.allocator.raft_server.store.log place (blank 0)) place g none) (λ e. inl none)

    heard_it : (heard : Heard) (g : StepState) → g.allocator.raft_server.memory.role ≢ Leader → Done (answers_request number heard g)
    heard_it (FollowUp bytes) g none = inl none
    heard_it (Whole uid preference) g none =
        either Done (is_zero uid) g (answers_or_records number uid preference (recorded_at g.allocator.raft_server.store.log uid) g) (λ e. inl none)
        (λ e. found uid preference (recorded_at g.allocator.raft_server.store.log uid) g none)
    heard_it (Ignored why) g none = inl none
    heard_it Denied g none = inl none

    -- ---- what is delivered

    module _ (d : Delivery) (g : StepState) (comes : Comes g) where
      abbrev s : RaftServer
      s = g.allocator.raft_server

      abbrev members : List ℕ
      members = members_of g.allocator

      abbrev None_leads : StepState → Type 0
      None_leads x = x.allocator.raft_server.memory.role ≢ Leader

      none : None_leads g
      none = comes.it_does_not.0

      abbrev DoneAt : StepResult → Type 0
      DoneAt r = Done r.step_state

      -- a follower does not lead
      follower_not : (role : Role) → role ≡ Follower → role ≢ Leader
      follower_not role e f = cc (sym e ∙ f)

      -- a vote request leaves it so
      vote_asked : (asked : Request) → let granted = grants (with_term s.store asked.term) asked in
          None_leads (with_moves number (given_at g.allocator.now) (TakeVoteRequest asked granted ∷ []) g)
      vote_asked asked = either (λ (m : Memory). m.role ≢ Leader) (nat_lt s.store.term asked.term) (record s.memory { role = Follower }) s.memory
          (λ e. follower_not Follower refl) (λ e. none)

      -- so does an append request
      append_asked : (asked : Request) (v : Verdict) → (append_memory s asked v).role ≢ Leader
      append_asked asked Outdated = none
      append_asked asked Refused = follower_not Follower refl
      append_asked asked Held = follower_not Follower refl
      append_asked asked (Added entry) = follower_not Follower refl

      -- and the answer to one
      append_answer : (got : Answer) → None_leads (with_moves number (given_at g.allocator.now) (TakeAppendAnswer got ∷ []) g)
      append_answer got = either (λ (m : Memory). m.role ≢ Leader) (nat_lt s.store.term got.term) (stepped_down s.memory got.from)
          (if acknowledges s got then matched_memory s.memory got else memory_without_call s.memory got.from) (λ e. follower_not Follower refl)
          (λ e. either (λ (m : Memory). m.role ≢ Leader) (acknowledges s got) (matched_memory s.memory got) (memory_without_call s.memory got.from) (λ f. none) (λ f. none))

      -- an answer that brings no higher term leaves what is stored
      stored_too : (term : ℕ) → nat_lt s.store.term term ≡ false → put_all s.store (term_puts s.store term) ≡ s.store
      stored_too term e = ap (λ (b : Bool). put_all s.store (if b then PutTerm term ∷ PutVote None ∷ [] else [])) e

      abbrev Leaves : Store → Memory → Type 0
      Leaves store m = (m.role ≢ Leader) ⊎ (Wins (record { store = store; memory = m }) × (2 ≤ length members))

      -- a vote wins, or leaves it so
      vote_answer : (got : Answer) → Done (with_moves number (given_at g.allocator.now) (TakeVoteAnswer got ∷ []) g)
      vote_answer got = elim (lt_tells s.store.term got.term) [
        | inl z ↦ subst (λ (b : Bool). Leaves (put_all s.store (term_puts s.store got.term)) (if b then stepped_down s.memory got.from
            else (if counts s got then counting_memory members s got else memory_without_call s.memory got.from))) (sym z.0) (inl (follower_not Follower refl))
        | inr z ↦ subst (λ (b : Bool). Leaves (put_all s.store (term_puts s.store got.term)) (if b then stepped_down s.memory got.from
            else (if counts s got then counting_memory members s got else memory_without_call s.memory got.from))) (sym z.0)
            (subst (λ (store : Store). Leaves store (if counts s got then counting_memory members s got else memory_without_call s.memory got.from))
            (sym (stored_too got.term z.0))
            (either (Leaves s.store) (counts s got) (counting_memory members s got) (memory_without_call s.memory got.from)
            (λ c. either (Leaves s.store) (has_quorum members (votes_with s.memory got)) (win_memory s.store (with_vote s.memory got)) (with_vote s.memory got)
            (λ q. inr ((refl, comes.it_does_not.1, comes.it_does_not.2, comes.it_does_not.2, λ m. refl, λ m. ap (λ (l : List Entry). length l + 1) comes.it_does_not.1), comes.two))
            (λ q. inl none))
            (λ c. inl none)))
      ]

      -- no blank comes behind the move
      no_blank : (moved : StepState) → Done moved → moved.allocator.raft_server.memory.role ≡ Leader → takes_blank moved.allocator.raft_server.store ≡ true
          → is_moment members g.allocator.me g.allocator.times s moved.allocator.raft_server ≡ true → ⊥
      no_blank moved (inl not_then) leads takes moment = not_then leads
      no_blank moved (inr w) leads takes moment =
          let after = moved.allocator.raft_server in
          let heard : is_heard members g.allocator.me after ≡ true
          = sym (ap (λ (b : Bool). if b then is_heard members g.allocator.me after else not (is_leader s.memory.role)) comes.waits) ∙ moment in
          let low : after.store.commit < length after.store.log = lt_true after.store.commit (length after.store.log) (and_left (nat_lt after.store.commit (length after.store.log)) _ takes) in
          too_few members g.allocator.me (length after.store.log) after (once_in g.allocator) comes.two (omega (arith, low)) w.0.4
          (and_right _ (has_quorum members (has_matched g.allocator.me after (length after.store.log))) heard)

      called : (move : Request → Move) (pending : Option Request) → ((asked : Request) → Done (with_moves number (given_at g.allocator.now) (move asked ∷ []) g))
          → Done (answers_call number move pending g)
      called move None takes = inl none
      called move (Some asked) takes = move_with_blank Done number (given_at g.allocator.now) (move asked) g (takes asked)
          (λ moment. absurd (no_blank (with_moves number (given_at g.allocator.now) (move asked ∷ []) g) (takes asked) moment.leads moment.takes moment.moment))

      -- what reads as no value changes nothing
      read_it : {A : Type 0} (hears : A → StepState → StepState) (value : Option A) → ((a : A) → Done (hears a g)) → Done (reads hears value g).step_state
      read_it hears None each = inl none
      read_it hears (Some value) each = each value

      info : (bytes : List ℕ) → Done (asks_info number d bytes g).step_state
      info [] = inl none
      info (byte ∷ bytes) = inl none

      answers_append : DoneAt (reads (takes_append_answer number d) (append_answer_of d.payload) g)
      answers_append = read_it (takes_append_answer number d) (append_answer_of d.payload)
          (λ m. either Done (is_listed d g.allocator) (ends_append_call number d m g) g
          (λ l. either Done (is_awaited s g.allocator.times d.ident.source true d.id)
          (answers_call number (append_answered d m) (s.memory.pending d.ident.source) g) g
          (λ a. called (append_answered d m) (s.memory.pending d.ident.source)
          (λ asked. inl (append_answer (answer_of d.mark.step d.ident.source asked m.term m.success))))
          (λ a. inl none)) (λ l. inl none))

      answers_vote : DoneAt (reads (takes_vote_answer number d) (vote_answer_of d.payload) g)
      answers_vote = read_it (takes_vote_answer number d) (vote_answer_of d.payload)
          (λ m. either Done (is_listed d g.allocator) (ends_vote_call number d m g) g
          (λ l. either Done (is_awaited s g.allocator.times d.ident.source false d.id)
          (answers_call number (vote_answered d m) (s.memory.pending d.ident.source) g) g
          (λ a. called (vote_answered d m) (s.memory.pending d.ident.source)
          (λ asked. vote_answer (answer_of d.mark.step d.ident.source asked m.term m.granted)))
          (λ a. inl none)) (λ l. inl none))

      -- what is delivered, by its kind
      kinds : (kind : Kind) → DoneAt (by_kind number d kind g)
      kinds Anonymous = read_it (hears_allocation number) (allocation_of d.payload)
          (λ m. heard_it (exchange.answer g.allocator.accepted m g.allocator.now (may_follow g.allocator)) (with_request m g) none)
      kinds Message = either DoneAt (nat_eq d.ident.number 341) _ _
          (λ e. read_it (λ status. hears_status d) (node_status_of d.payload) (λ m. inl none))
          (λ e. read_it (hears_discovery d) (discovery_of d.payload) (λ m. inl none))
      kinds RequestKind = either DoneAt (nat_eq d.ident.number 1) _ _ (λ e. info d.payload)
          (λ e. either DoneAt (nat_eq d.ident.number 30) _ _
          (λ f. read_it (takes_append_request number d) (append_codec.append_request_of d.payload)
          (λ m. either Done (is_listed d g.allocator) (answers_append_request number d m g) g
          (λ l. inl (append_asked (append_request_of m d.mark.step d.ident.source g.allocator.me)
          (verdict_on s (append_request_of m d.mark.step d.ident.source g.allocator.me)))) (λ l. inl none)))
          (λ f. read_it (takes_vote_request number d) (vote_codec.vote_request_of d.payload)
          (λ m. either Done (is_listed d g.allocator) (answers_vote_request number d m g) g
          (λ l. inl (vote_asked (vote_request_of m d.mark.step d.ident.source g.allocator.me))) (λ l. inl none))))
      kinds Response = either DoneAt (nat_eq d.ident.number 1) _ _ (λ e. read_it (hears_info d) (node_info_of d.payload) (λ m. inl none))
          (λ e. either DoneAt (nat_eq d.ident.number 30) _ _ (λ f. answers_append) (λ f. answers_vote))

      pub delivered : DoneAt (delivery_phase number d g)
      unfolding delivery_phase
      delivered = kinds d.ident.kind

    -- what the receiver makes of the frame
    by_answer : (got : Received) (g : StepState) → Comes g → Done (with_answer number got g).step_state
    by_answer (Gives d) g comes = delivered d g comes
    by_answer Continues g comes = inl comes.it_does_not.0
    by_answer (Drops why) g comes = inl comes.it_does_not.0

    -- so it is when the step is over
    pub at_frame : (t : AllocatorState) (arrival : Arrival) → Comes (when_come t number arrival) → Done (step t number (Event.Rx arrival)).step_state
    unfolding step
    at_frame t arrival comes =
        at_end (with_answer number (answer (setting_for t.me) t.sessions (record arrival { moment = moment_at t arrival })) (when_come t number arrival)).step_state
        (by_answer (answer (setting_for t.me) t.sessions (record arrival { moment = moment_at t arrival })) (when_come t number arrival) comes)

-- A frame by which a member comes to lead leaves it so. It knows of two members or more, and waits with its blank.
pub frame_wins : (t : AllocatorState) (number : ℕ) (arrival : Arrival) → t.raft_server.memory.role ≢ Leader → t.times.waits ≡ true → 2 ≤ length (members_of t)
    → let after = (step t number (Event.Rx arrival)).step_state.allocator in after.raft_server.memory.role ≡ Leader
    → Wins t.raft_server.store.log t.raft_server.store.commit after.raft_server
frame_wins t number arrival none waits two leads = elim (at_frame t.raft_server.store.log t.raft_server.store.commit number t arrival comes) [
  | inl not_then ↦ absurd (not_then leads)
  | inr w ↦ w.0
]
  where
    nodes : List ℕ
    nodes = overdue t.times (max t.now arrival.moment) all_nodes

    before : IsAsBefore t.raft_server (when_come t number arrival).allocator.raft_server
    before = expired (members_of (at_moment arrival.moment t)) t.me number nodes t.raft_server

    comes : Comes t.raft_server.store.log t.raft_server.store.commit (when_come t number arrival)
    comes = record {
      it_does_not = (λ e. none (sym before.role ∙ e), ap (λ (x : Store). x.log) before.store, ap (λ (x : Store). x.commit) before.store);
      waits = begins_waiting (members_of (at_moment arrival.moment t)) t.me number (given_at (max t.now arrival.moment)) nodes t.raft_server t.times ∙ waits;
      two = two;
    }
