-- The moves of each phase may come, and what it sends is what they offer.
use Rattle.std.proofs.Common.{◌≡◌, ◌≢◌, ℕ, ◌<◌, ◌≤◌, Bool, true, false, List, [], ◌∷◌, length, ◌⊎◌, inl, inr, refl, sym, ◌∙◌, ap, subst, arith, Option, Some, None, drop}
use Rattle.std.specs.Prelude.{⊤, ◌-◌, ◌&&◌, ◌||◌, ◌==◌, not, nat_le, nat_eq, nat_lt, is_some, slice_index_or}
use Rattle.alloc_exchange.specs.declared.heard.Heard.{Heard as Answered}
use Rattle.alloc_exchange.specs.declared.heard.Heard.TheVariants.{Denied, FollowUp, Ignored, Whole}
use Rattle.alloc_exchange.specs.Exchange.{answer}
use Rattle.can_frame.specs.declared.entry.Entry.{Entry}
use Rattle.can_frame.specs.declared.identifier.Kind.{Kind}
use Rattle.can_frame.specs.declared.identifier.Kind.TheVariants.{Anonymous, Message as Broadcast, Request as RequestKind, Response}
use Rattle.can_frame.specs.declared.step.What.{What}
use Rattle.can_frame.specs.declared.step.What.TheVariants.{Alloc, Disc, Stat, InfoQ, Info, VoteQ, Vote, AppQ, App}
use Rattle.can_frame.specs.Log.{HasNodeId, IsBlank, IsInjective, blank}
use Rattle.can_frame.specs.Zeros.{zeros}
use Rattle.cluster_discovery.specs.Members.{is_due}
use Rattle.dsdl_codec.specs.declared.append_answer.AppendAnswer.{AppendAnswer}
use Rattle.dsdl_codec.specs.declared.discovery.Discovery.{Discovery}
use Rattle.dsdl_codec.specs.declared.vote_answer.VoteAnswer.{VoteAnswer}
use Rattle.dsdl_codec.specs.Allocation.{allocation_of}
use Rattle.dsdl_codec.specs.AppendAnswer.{append_answer_bytes, append_answer_of}
use Rattle.dsdl_codec.specs.AppendRequest.{append_request_of}
use Rattle.dsdl_codec.specs.Discovery.{discovery_bytes, discovery_of}
use Rattle.dsdl_codec.specs.NodeInfo.{node_info_bytes, node_info_of}
use Rattle.dsdl_codec.specs.NodeStatus.{node_status_bytes, node_status_of}
use Rattle.dsdl_codec.specs.VoteAnswer.{vote_answer_bytes, vote_answer_of}
use Rattle.dsdl_codec.specs.VoteRequest.{vote_request_of}
use Rattle.id_selector.specs.Choice.{chosen}
use Rattle.node_discovery.specs.History.{identity}
use Rattle.node_discovery.specs.Watch.{history, next_query, some_unknown}
use Rattle.raft_core.specs.Handled as handled
use Rattle.raft_core.specs.Taken.{proposal}
use Rattle.raft_core.specs.Calls.{due, due_unless, owed}
use Rattle.raft_core.specs.Times.{HandedIn, Sending, awaits, given_at, given_call, given_proposal, given_tick, has_waited, is_awaited, is_silent, overdue}
use Rattle.raft_model.specs.Fit.{IsFit}
use Rattle.raft_model.specs.Decisions.{commit_index, grants, verdict_on}
use Rattle.raft_model.specs.Duty as duty
use Rattle.raft_model.specs.Moves.{next_entry, IsEnabled, IsHeard, Move, offers}
use Rattle.raft_model.specs.Handlers.{calls_of_all, server_after_all}
use Rattle.raft_model.specs.Lists.{In}
use Rattle.raft_model.specs.Members.{HasNoneTwice, IsAll}
use Rattle.raft_model.specs.Messages.{Message, Request}
use Rattle.raft_model.specs.Messages.Message.{Answers, Pairs, Requests}
use Rattle.raft_model.specs.Moves.Appending.{Verdict, is_accepted}
use Rattle.raft_model.specs.Moves.Elections.{is_leader, term_limit, term_puts, with_term}
use Rattle.raft_model.specs.Moves.Leading.{MayCall, MayPropose, answer_to, append_request, vote_request}
use Rattle.raft_model.specs.Moves.Move.{AnswerAgain, CallForVote, CallToAppend, ProposeEntry, TakeAppendRequest, TakeVoteRequest, TellNothing, TellPair, TimeOut}
use Rattle.raft_model.specs.Server.{Put, RaftServer, Role, Store, put_all}
use Rattle.raft_model.specs.Server.Role.{Candidate, Follower, Leader}
use Rattle.raft_model.specs.Stops.{AllEnabled, LocalState, state_after_moves}
use Rattle.transfer_rx.specs.Reassembly.{Delivery}
use Rattle.alloc_spec.specs.Ending.{append_call_bytes, call_phase, calls_all, calls_by, calls_owed, calls_peer, commit_phase, end_phase, has_to_tell, tell_phase, tells_next, vote_call_bytes}
use Rattle.alloc_spec.specs.Delivered.{StepResult, asks_info, by_kind, delivery_phase, hears_discovery, hears_status, reads, request, response}
use Rattle.alloc_spec.specs.Delivered as delivered
use Rattle.alloc_spec.specs.Exchange.{allocation_payload, answers_or_records, answers_request, gives_entry, gives_pair, hears_allocation, hears_whole, may_follow, records, records_at, with_request}
use Rattle.alloc_spec.specs.StepState.{StepState, with_response_to, with_transfer, with_moves}
use Rattle.alloc_spec.specs.Services.{answers_append, answers_call, answers_vote, append_answered, ends_append_call, ends_vote_call, hears_info, info_of, is_listed, takes_append_answer, takes_append_request, takes_vote_answer, takes_vote_request, vote_answered}
use Rattle.alloc_spec.specs.Step.{all_nodes, expiry_phase}
use Rattle.alloc_spec.specs.Tick.{asks, candidate, discovery_of as own_discovery, discovery_phase, election_phase, new_uid, proposes, query_phase, record_phase, records_as, records_node, status_phase, tells_members, tells_status, clock_phase, with_query}
use Rattle.alloc_spec.specs.AllocatorState.{is_zero, known, knows_all, may_propose, members_of, recorded_at, start_of, status_of, taken}
use Rattle.alloc_spec.specs.Transfers.{GivenPair, pair_in, has_room, id_of, message_by, pair_message}
use Rattle.alloc_spec.proofs.Blanks.{IsMomentOf, move_with_blank, moves_and_blank, tick_with_blank}
use Rattle.alloc_spec_laws.specs.Coming.{AnswersFrom, RequestsFrom, SaysFrom}
use Rattle.alloc_spec_laws.specs.LawsBelow.{Laws}
use Rattle.alloc_spec_laws.proofs.CalledPeers.{AreQuiet, IsQuiet, commit_quiet, expire_quiet, quiet_calls, quiet_proposals, tick_quiet}
use Rattle.alloc_spec_laws.proofs.Choices.{and_left, and_right, either, eq_false, eq_true, lt_true, not_true, tell}
use Rattle.alloc_spec_laws.proofs.GivenPairs.{allocation_gives, gives_it}
use Rattle.alloc_spec_laws.proofs.DistinctTransfers.{sent}
use Rattle.alloc_spec_laws.proofs.Lists.{in_drop, in_front}
use Rattle.alloc_spec_laws.proofs.Peers.{ArePeers, covers, list_peers, members_list}
use Rattle.alloc_spec_laws.proofs.Logs.{are_zeros, no_zeros, not_told, told_at}
use Rattle.alloc_spec_laws.proofs.Proposals.{IsNewEntry, candidate_is, chosen_new, leader_of, may_add_blank, may_record, new_is}
use Rattle.alloc_spec_laws.proofs.MachineSteps.{Steady, offers_steady, takes_steady}

-- ---- what an Allocation says

pub pair_says : (step me : ℕ) (given : Option GivenPair) (message : Message) → pair_message step me given ≡ Some message
    → (pair : GivenPair) × (given ≡ Some pair) × (message ≡ Pairs (record { step = step; from = me; uid = pair.0; node = pair.1 }))
pair_says step me None message e = absurd (cc (e))
pair_says step me (Some pair) message e =
    let same : Pairs (record { step = step; from = me; uid = pair.0; node = pair.1 }) ≡ message = cc (e) in (pair, refl, sym same)

-- an Allocation says the pair of its entry, if anything
entry_says : (step me node : ℕ) (uid : List ℕ) (message : Message) → pair_message step me (pair_in Alloc (allocation_payload node uid)) ≡ Some message
    → (1 ≤ node) × (message ≡ Pairs (record { step = step; from = me; uid = uid; node = node }))
entry_says step me node uid message e =
    let p = pair_says step me (pair_in Alloc (allocation_payload node uid)) message e in
    let g = allocation_gives node uid p.0 (gives_it Alloc (allocation_payload node uid) p.0 p.1) in
    (g.0, p.2 ∙ ap (λ (q : GivenPair). Pairs (record { step = step; from = me; uid = q.0; node = q.1 })) g.1)

-- ---- calls that are given up

expire_comes : (list : List ℕ) (me number : ℕ) (bag : List Message) (nodes : List ℕ) (s : LocalState)
    → AllEnabled list me number bag s (handled.moves_of_expire nodes)
expire_comes list me number bag [] s = tt
expire_comes list me number bag (node ∷ nodes) s = (tt, expire_comes list me number bag nodes _)

expire_stays : (nodes : List ℕ) → In TimeOut (handled.moves_of_expire nodes) → ⊥
expire_stays [] i = i
expire_stays (node ∷ nodes) (inl e) = absurd (cc (e))
expire_stays (node ∷ nodes) (inr i) = expire_stays nodes i

pub expire_log : (list : List ℕ) (me number : ℕ) (nodes : List ℕ) (raft_server : RaftServer)
    → (server_after_all list me number raft_server (handled.moves_of_expire nodes)).store ≡ raft_server.store
expire_log list me number [] raft_server = refl
expire_log list me number (node ∷ nodes) raft_server = expire_log list me number nodes _

tick_stays : (complete late : Bool) (server : RaftServer) → complete ≡ false → In TimeOut (duty.tick_phase (complete && late) server) → ⊥
tick_stays true late server e i = absurd (cc (e))
tick_stays false late server e i = i

-- a higher term leaves the log
term_log : (store : Store) (term : ℕ) → (put_all store (term_puts store term)).log ≡ store.log
term_log store term = either (λ (ps : List Put). (put_all store ps).log ≡ store.log) (nat_lt store.term term) _ [] (λ e. refl) (λ e. refl)

commit_stays : (list : List ℕ) (me : ℕ) (server : RaftServer) → In TimeOut (duty.commit_phase list me server) → ⊥
commit_stays list me server =
    either (λ (moves : List Move). In TimeOut moves → ⊥) (is_leader server.memory.role) (duty.commit_moves (commit_index list me server)) []
    (λ e. go (commit_index list me server)) (λ e i. i)
  where
    go : (index : Option ℕ) → In TimeOut (duty.commit_moves index) → ⊥
    go None i = i
    go (Some index) (inl e) = absurd (cc (e))
    go (Some index) (inr i) = i

-- ---- the phases

abbrev Anyone : ℕ → Type 0
Anyone peer = ⊤

module _ (laws : Laws) (members : List ℕ) (number : ℕ) (bag : List Message) (local_state : LocalState) where
  abbrev Sure : StepState → Type 0
  Sure g = Steady members number bag local_state Anyone g

  abbrev offered : StepState → List Message
  offered g = (state_after_moves members g.allocator.me number local_state g.moves).offered

  -- moves that call nobody, and stand for nothing
  quietly : (given : HandedIn) (moves : List Move) (g : StepState) → Sure g → (In TimeOut moves → ⊥) → AreQuiet moves
      → ((s : LocalState) → s.raft_server ≡ g.allocator.raft_server → AllEnabled (members_of g.allocator) g.allocator.me number bag s moves) → Sure (with_moves number given moves g)
  quietly given moves g h stays quiet comes =
      takes_steady members number bag local_state laws Anyone Anyone given moves g h (inl stays) (λ s e free. comes s e)
      (λ peer l. (tt, quiet_calls moves quiet peer)) (λ entry i. absurd (quiet_proposals moves quiet entry i))

  -- one move
  one_move : (given : HandedIn) (move : Move) (g : StepState) → Sure g → move ≢ TimeOut → IsQuiet move
      → ((called : List ℕ) → IsEnabled (members_of g.allocator) g.allocator.me bag called g.allocator.raft_server move) → Sure (with_moves number given (move ∷ []) g)
  one_move given move g h other quiet comes =
      quietly given (move ∷ []) g h (λ i. elim i [ inl e ↦ other (sym e) | inr j ↦ j ]) (quiet, tt)
      (λ s e. (subst (λ (p : RaftServer). IsEnabled (members_of g.allocator) g.allocator.me bag s.called p move) (sym e) (comes s.called), tt))

  -- a transfer that says nothing
  silently : (what : What) (to : ℕ) (payload : List ℕ) (says : Option Message) (g : StepState) → Sure g
      → ((message : Message) → message_by number g.allocator.me what payload says ≡ Some message → In message (offered g))
      → Sure (with_transfer number what to payload says g)
  silently what to payload says g h is =
      (offers_steady members number bag local_state Anyone g.allocator.me g.allocator.raft_server g.moves g.puts g.offers (sent what to payload says g) h.0 (λ fits. is), h.1)

  responding : (what : What) (d : Delivery) (payload : List ℕ) (says : Option Message) (g : StepState) → Sure g
      → ((message : Message) → message_by number g.allocator.me what payload says ≡ Some message → In message (offered g))
      → Sure (with_response_to number what d payload says g)
  responding what d payload says g h is = (
    offers_steady members number bag local_state Anyone g.allocator.me g.allocator.raft_server g.moves g.puts g.offers
        (record {
          what = what;
          to = d.ident.source;
          id = d.id;
          payload = payload;
          re = d.mark.step;
          says = says;
          fitted = has_room g.allocator.queue payload;
        }) h.0 (λ fits. is),
    h.1,
  )

  pub gives_up_sure : (g : StepState) → Sure g → Sure (expiry_phase number g)
  gives_up_sure g h =
      quietly (given_at g.allocator.now) (handled.moves_of_expire (overdue g.allocator.times g.allocator.now all_nodes)) g h
      (expire_stays (overdue g.allocator.times g.allocator.now all_nodes)) (expire_quiet (overdue g.allocator.times g.allocator.now all_nodes))
      (λ s e. expire_comes (members_of g.allocator) g.allocator.me number bag (overdue g.allocator.times g.allocator.now all_nodes) s)

  -- ---- a tick

  -- before it stands, the whole list is known to be whole, and the log is injective
  pub record Ticks (g : StepState) : Type 0 where
    pub sure : Sure g
    pub all : knows_all g.allocator ≡ true → IsAll (members_of g.allocator) members
    pub once : IsInjective g.allocator.raft_server.store.log

  discovery_sure : (g : StepState) → Ticks g → Ticks (discovery_phase number g)
  discovery_sure g h =
      either Ticks (is_due (start_of g.allocator) g.allocator.heard g.allocator.now) (tells_members number g) g
      (λ e. record {
        sure = sent_one (silently Disc 0 (discovery_bytes (own_discovery g.allocator)) None g h.sure (λ message is. absurd (cc (is))));
        all = h.all;
        once = h.once;
      }) (λ e. h)
    where
      -- a server's own Discovery teaches it nothing
      sent_one : Sure (with_transfer number Disc 0 (discovery_bytes (own_discovery g.allocator)) None g) → Sure (tells_members number g)
      sent_one s = (s.0, λ counts. let w = s.1 counts in record { complete = w.complete; all = w.all })

  status_sure : (g : StepState) → Ticks g → Ticks (status_phase number g)
  status_sure g h =
      either Ticks (nat_le 1000 (g.allocator.now - g.allocator.status_at)) (tells_status number g) g
      (λ e. record {
        sure = silently Stat 0 (node_status_bytes (status_of g.allocator)) None g h.sure (λ message is. absurd (cc (is)));
        all = h.all;
        once = h.once;
      }) (λ e. h)

  -- when the election is over
  pub record Recorded (g : StepState) : Type 0 where
    pub sure : Sure g
    pub once : IsInjective g.allocator.raft_server.store.log

  stood_once : (list : List ℕ) (me : ℕ) (waited : Bool) (raft_server : RaftServer) → IsInjective raft_server.store.log
      → IsInjective (server_after_all list me number raft_server (duty.tick_phase waited raft_server)).store.log
  stood_once list me waited raft_server once =
      either (λ (moves : List Move). IsInjective (server_after_all list me number raft_server moves).store.log)
      (waited && (not (is_leader raft_server.memory.role) && nat_lt raft_server.store.term term_limit)) (TimeOut ∷ []) [] (λ e. once) (λ e. once)

  -- a leader adds an entry of its own
  adds_sure : (given : HandedIn) (entry : Entry) (g : StepState) → Sure g → MayPropose g.allocator.raft_server entry → IsBlank entry ⊎ (In entry.node members → ⊥)
      → Sure (with_moves number given (ProposeEntry entry ∷ []) g)
  adds_sure given entry g h may outside =
      takes_steady members number bag local_state laws Anyone Anyone given (ProposeEntry entry ∷ []) g h
      (inl (λ i. elim i [ inl e ↦ absurd (cc (e)) | inr j ↦ j ]))
      (λ s e free. (subst (λ (p : RaftServer). IsEnabled (members_of g.allocator) g.allocator.me bag s.called p (ProposeEntry entry)) (sym e) may, tt))
      (λ peer l. (tt, λ i. i))
      (λ other i. elim i [
        | inl e ↦ let same : other ≡ entry = cc (e) in subst (λ (x : Entry). IsBlank x ⊎ (In x.node members → ⊥)) (sym same) outside
        | inr j ↦ absurd j
      ])

  may_add : (g moved : StepState) → IsInjective moved.allocator.raft_server.store.log → IsMomentOf g moved
      → MayPropose moved.allocator.raft_server (blank moved.allocator.raft_server.store.term)
  may_add g moved once moment =
      may_add_blank laws.blank_keeps laws.reservation_keeps laws.pair_keeps moved.allocator.raft_server moment.leads moment.takes once

  -- a move that calls nobody and leaves the log, and a blank behind it
  blank_sure : (given : HandedIn) (move : Move) (g : StepState) → Sure g → IsInjective g.allocator.raft_server.store.log → move ≢ TimeOut → IsQuiet move
      → ((called : List ℕ) → IsEnabled (members_of g.allocator) g.allocator.me bag called g.allocator.raft_server move)
      → (with_moves number given (move ∷ []) g).allocator.raft_server.store.log ≡ g.allocator.raft_server.store.log
      → Sure (moves_and_blank number given (move ∷ []) g)
  blank_sure given move g h once other quiet comes same =
      let moved : StepState = with_moves number given (move ∷ []) g in
      let sure : Sure moved = one_move given move g h other quiet comes in
      move_with_blank Sure number given move g sure (λ moment. adds_sure given (blank moved.allocator.raft_server.store.term) moved sure
      (may_add g moved (subst (λ (log : List Entry). IsInjective log) (sym same) once) moment) (inl (refl, refl)))

  election_sure : (word : ℕ) (g : StepState) → Ticks g → Recorded (election_phase number word g)
  election_sure word g h = tick_with_blank Recorded number word g stood (λ moment. record {
    sure = adds_sure given (blank ticked.allocator.raft_server.store.term) ticked stood.sure (may_add g ticked stood.once moment) (inl (refl, refl));
    once = (may_add g ticked stood.once moment).injective;
  })
    where
      given : HandedIn
      given = given_tick g.allocator.now word

      waited : Bool
      waited = knows_all g.allocator && has_waited g.allocator.times g.allocator.now

      ticked : StepState
      ticked = with_moves number given (duty.tick_phase waited g.allocator.raft_server) g

      stood : Recorded ticked
      stood = record {
        sure = takes_steady members number bag local_state laws Anyone Anyone given (duty.tick_phase waited g.allocator.raft_server) g h.sure
            (elim (tell (knows_all g.allocator)) [
              | inl e ↦ inr (record { complete = e; all = h.all e })
              | inr e ↦ inl (tick_stays (knows_all g.allocator) (has_waited g.allocator.times g.allocator.now) g.allocator.raft_server e)
            ])
            (λ s e free. subst (λ (p : RaftServer). AllEnabled (members_of g.allocator) g.allocator.me number bag s (duty.tick_phase waited p)) e
            (laws.tick_comes (members_of g.allocator) g.allocator.me number bag waited s))
            (λ peer l. (tt, quiet_calls (duty.tick_phase waited g.allocator.raft_server) (tick_quiet waited g.allocator.raft_server) peer))
            (λ entry i. absurd (quiet_proposals (duty.tick_phase waited g.allocator.raft_server) (tick_quiet waited g.allocator.raft_server) entry i));
        once = stood_once (members_of g.allocator) g.allocator.me waited g.allocator.raft_server h.once;
      }

  proposes_sure : (origin : ℕ) (uid : List ℕ) (node : ℕ) (g : StepState) → Sure g → IsInjective g.allocator.raft_server.store.log → may_propose g.allocator ≡ true
      → IsNewEntry (members_of g.allocator) g.allocator.raft_server.store.log uid node → Sure (proposes number origin uid node g)
  proposes_sure origin uid node g h once may new =
      adds_sure (given_proposal g.allocator.now origin) (proposal g.allocator.raft_server.store.term uid node) g h
      (may_record laws.blank_keeps laws.reservation_keeps laws.pair_keeps (members_of g.allocator) g.allocator.raft_server uid node leads
      (lt_true (length g.allocator.raft_server.store.log) 127 (and_right (is_leader g.allocator.raft_server.memory.role) (nat_lt (length g.allocator.raft_server.store.log) 127) may))
      once new) (inr not_member)
    where
      leads : g.allocator.raft_server.memory.role ≡ Leader
      leads = leader_of g.allocator.raft_server.memory.role (and_left (is_leader g.allocator.raft_server.memory.role) (nat_lt (length g.allocator.raft_server.store.log) 127) may)

      -- a leader knows all members
      not_member : In node members → ⊥
      not_member i = new.outside (covers laws.same_count (members_of g.allocator) members (h.1 (λ follows. absurd (cc (leads, follows)))).all node i)

  record_sure : (g : StepState) → Recorded g → Sure (record_phase number g)
  record_sure g h =
      either Sure (may_propose g.allocator) (records_node number (candidate g.allocator) g) g (λ may. go may (candidate g.allocator) refl) (λ e. h.sure)
    where
      recorded : may_propose g.allocator ≡ true → (node : ℕ)
          → (1 ≤ node) × (node ≤ 125) × (HasNodeId g.allocator.raft_server.store.log node → ⊥) × (In node (members_of g.allocator) → ⊥)
          → (uid : Option (List ℕ)) → new_uid g.allocator node ≡ uid → Sure (records_as number node uid g)
      recorded may node new None e = proposes_sure 3 zeros node g h.sure h.once may
          (record { least = new.0; most = new.1; given = new.2; outside = new.3; told = inl refl })
      recorded may node new (Some uid) e = proposes_sure 2 uid node g h.sure h.once may
          (record { least = new.0; most = new.1; given = new.2; outside = new.3; told = inr (new_is g.allocator.raft_server.store.log (identity (history node g.allocator.watch) g.allocator.now) uid e) })

      go : may_propose g.allocator ≡ true → (node : Option ℕ) → candidate g.allocator ≡ node → Sure (records_node number node g)
      go may None e = h.sure
      go may (Some node) e = recorded may node (candidate_is g.allocator node e) (new_uid g.allocator node) refl

  query_sure : (g : StepState) → Sure g → Sure (query_phase number g)
  query_sure g h =
      either Sure (is_leader g.allocator.raft_server.memory.role) (asks number (next_query g.allocator.watch (known g.allocator) g.allocator.now) g) g
      (λ e. go (next_query g.allocator.watch (known g.allocator) g.allocator.now)) (λ e. h)
    where
      go : (node : Option ℕ) → Sure (asks number node g)
      go None = h
      go (Some node) =
          let s = silently InfoQ node [] None g h (λ message is. absurd (cc (is))) in
          either Sure (has_room g.allocator.queue []) (with_query node (id_of g.allocator.ids InfoQ node) (with_transfer number InfoQ node [] None g))
          (with_transfer number InfoQ node [] None g) (λ e. s) (λ e. s)

  pub ticks_sure : (word : ℕ) (g : StepState) → Ticks g → Sure (clock_phase number word g)
  ticks_sure word g h =
      query_sure (record_phase number (election_phase number word (status_phase number (discovery_phase number g))))
      (record_sure (election_phase number word (status_phase number (discovery_phase number g)))
      (election_sure word (status_phase number (discovery_phase number g))
      (status_sure (discovery_phase number g) (discovery_sure g h))))

  -- ---- an Allocation

  -- a transfer that does not fit says nothing
  unfitted : (what : What) (to : ℕ) (payload : List ℕ) (says : Option Message) (g : StepState) → Sure g → has_room g.allocator.queue payload ≡ false
      → Sure (with_transfer number what to payload says g)
  unfitted what to payload says g h full = (
    offers_steady members number bag local_state Anyone g.allocator.me g.allocator.raft_server g.moves g.puts g.offers (sent what to payload says g) h.0
        (λ fits message is. absurd (cc (full, fits))),
    h.1,
  )

  -- the entry goes out with a move that offers its pair
  gives_sure : (move : Move) (entry : Entry) (g : StepState) → Sure g → Sure (with_moves number (given_at g.allocator.now) (move ∷ []) g)
      → In (Pairs (record { step = number; from = g.allocator.me; uid = entry.uid; node = entry.node }))
      (offered (with_moves number (given_at g.allocator.now) (move ∷ []) g))
      → Sure (gives_entry number move entry g)
  gives_sure move entry g h moved says =
      either Sure (has_room g.allocator.queue (allocation_payload entry.node entry.uid)) _ _
      (λ e. silently Alloc 0 (allocation_payload entry.node entry.uid) None (with_moves number (given_at g.allocator.now) (move ∷ []) g) moved
      (λ message is. subst (λ (m : Message). In m (offered (with_moves number (given_at g.allocator.now) (move ∷ []) g)))
      (sym (entry_says number g.allocator.me entry.node entry.uid message is).1) says)) (λ e. unfitted Alloc 0 (allocation_payload entry.node entry.uid) None g h e)

  offered_by : (given : HandedIn) (move : Move) (g : StepState) → (state_after_moves members g.allocator.me number local_state g.moves).raft_server ≡ g.allocator.raft_server → (message : Message)
      → In message (offers g.allocator.me number g.allocator.raft_server move) → In message (offered (with_moves number given (move ∷ []) g))
  offered_by given move g leave message i =
      subst (λ (s : LocalState). In message s.offered) (sym (laws.joined_moves members g.allocator.me number g.moves (move ∷ []) local_state))
      (in_front message (offers g.allocator.me number (state_after_moves members g.allocator.me number local_state g.moves).raft_server move) (state_after_moves members g.allocator.me number local_state g.moves).offered
      (subst (λ (p : RaftServer). In message (offers g.allocator.me number p move)) (sym leave) i))

  again_sure : (place : ℕ) (uid : List ℕ) (g : StepState) → Sure g → is_zero uid ≡ false → recorded_at g.allocator.raft_server.store.log uid ≡ Some place
      → place < g.allocator.raft_server.store.commit → Sure (gives_pair number (AnswerAgain place) place g)
  again_sure place uid g h some at_place committed =
      gives_sure (AnswerAgain place) (slice_index_or g.allocator.raft_server.store.log place (blank 0)) g h
      (one_move (given_at g.allocator.now) (AnswerAgain place) g h (λ e. cc) tt
      (λ called. (committed, λ z. no_zeros uid some (sym (told_at g.allocator.raft_server.store.log uid place at_place) ∙ z))))
      (offered_by (given_at g.allocator.now) (AnswerAgain place) g h.0.leave _ (inl refl))

  records_sure : (uid : List ℕ) (preferred : ℕ) (g : StepState) → Sure g → IsInjective g.allocator.raft_server.store.log → is_zero uid ≡ false
      → recorded_at g.allocator.raft_server.store.log uid ≡ None → Sure (records number uid preferred g)
  records_sure uid preferred g h once some new =
      either Sure (may_propose g.allocator && not (some_unknown g.allocator.watch (known g.allocator) g.allocator.now))
      (records_at number uid (chosen (taken g.allocator) preferred) g) g (λ may. go (and_left (may_propose g.allocator) _ may) (chosen (taken g.allocator) preferred) refl)
      (λ e. h)
    where
      go : may_propose g.allocator ≡ true → (node : Option ℕ) → chosen (taken g.allocator) preferred ≡ node → Sure (records_at number uid node g)
      go may None e = h
      go may (Some node) e =
          let c = chosen_new laws.chosen_is g.allocator preferred node e in
          proposes_sure 1 uid node g h once may (record {
            least = c.0;
            most = c.1;
            given = c.2;
            outside = c.3;
            told = inr (no_zeros uid some, not_told g.allocator.raft_server.store.log uid (ap is_some new));
          })

  whole_sure : (uid : List ℕ) (preferred : ℕ) (g : StepState) → Sure g → IsInjective g.allocator.raft_server.store.log → Sure (hears_whole number uid preferred g)
  whole_sure uid preferred g h once =
      either Sure (is_zero uid) g (answers_or_records number uid preferred (recorded_at g.allocator.raft_server.store.log uid) g) (λ e. h)
      (λ some. go some (recorded_at g.allocator.raft_server.store.log uid) refl)
    where
      go : is_zero uid ≡ false → (place : Option ℕ) → recorded_at g.allocator.raft_server.store.log uid ≡ place
          → Sure (answers_or_records number uid preferred place g)
      go some None e = records_sure uid preferred g h once some e
      go some (Some place) e =
          either Sure (nat_lt place g.allocator.raft_server.store.commit) (gives_pair number (AnswerAgain place) place g) g
          (λ b. again_sure place uid g h some e (lt_true place g.allocator.raft_server.store.commit b)) (λ b. h)

  heard_sure : (heard : Answered) (g : StepState) → Sure g → IsInjective g.allocator.raft_server.store.log → Sure (answers_request number heard g)
  heard_sure (FollowUp bytes) g h once = silently Alloc 0 (allocation_payload 0 bytes.items) None g h
      (λ message is. absurd (let n = (entry_says number g.allocator.me 0 bytes.items message is).0 in omega (arith, n)))
  heard_sure (Whole uid preferred) g h once = whole_sure uid preferred g h once
  heard_sure (Ignored why) g h once = h
  heard_sure Denied g h once = h

  -- ---- services

  vote_sure : (d : Delivery) (request : Request) (g : StepState) → Sure g → In (Requests request) bag → request.to ≡ g.allocator.me
      → request.append ≡ false → Sure (answers_vote number d request g)
  vote_sure d request g h here to vote =
      let grant : Bool = grants (with_term g.allocator.raft_server.store request.term) request in
      responding Vote d
      (vote_answer_bytes (record { term = (with_term g.allocator.raft_server.store request.term).term; granted = grant }) 0)
      (Some (Answers (answer_to g.allocator.me number (with_term g.allocator.raft_server.store request.term) request grant)))
      (with_moves number (given_at g.allocator.now) (TakeVoteRequest request grant ∷ []) g)
      (one_move (given_at g.allocator.now) (TakeVoteRequest request grant) g h (λ e. cc) tt
      (λ called. (here, to, vote, laws.granted (with_term g.allocator.raft_server.store request.term) request)))
      (λ message is. offered_by (given_at g.allocator.now) (TakeVoteRequest request grant) g h.0.leave message (inl (sym (cc (is)))))

  append_sure : (d : Delivery) (request : Request) (g : StepState) → Sure g → In (Requests request) bag → request.to ≡ g.allocator.me
      → request.append ≡ true → Sure (answers_append number d request g)
  append_sure d request g h here to append =
      let verdict : Verdict = verdict_on g.allocator.raft_server request in
      responding App d
      (append_answer_bytes (record { term = (with_term g.allocator.raft_server.store request.term).term; success = is_accepted verdict }) 0)
      (Some (Answers (answer_to g.allocator.me number (with_term g.allocator.raft_server.store request.term) request (is_accepted verdict))))
      (with_moves number (given_at g.allocator.now) (TakeAppendRequest request verdict ∷ []) g)
      (one_move (given_at g.allocator.now) (TakeAppendRequest request verdict) g h (λ e. cc) tt
      (λ called. (here, to, append, laws.judged g.allocator.raft_server request)))
      (λ message is. offered_by (given_at g.allocator.now) (TakeAppendRequest request verdict) g h.0.leave message (inl (sym (cc (is)))))

  -- the pending call is of this service
  of_service : (append : Bool) (request : Request) (sending : Option Sending) (id : ℕ) → awaits (Some request) sending append id ≡ true
      → request.append ≡ append
  of_service append request None id e = absurd (cc (e))
  of_service true request (Some call) id e = and_left request.append (call.id == id) e
  of_service false request (Some call) id e = not_true request.append (and_left (not request.append) (call.id == id) e)

  awaited : (append : Bool) (d : Delivery) (g : StepState) (request : Request) → g.allocator.raft_server.memory.pending d.ident.source ≡ Some request
      → is_awaited g.allocator.raft_server g.allocator.times d.ident.source append d.id ≡ true → request.append ≡ append
  awaited append d g request e is = of_service append request (g.allocator.times.sending d.ident.source) d.id
      (subst (λ (o : Option Request). awaits o (g.allocator.times.sending d.ident.source) append d.id ≡ true) e is)

  vote_answer_sure : (d : Delivery) (says : VoteAnswer) (g : StepState) → Sure g → IsInjective g.allocator.raft_server.store.log
      → ((call : Request) → g.allocator.raft_server.memory.pending d.ident.source ≡ Some call
      → IsHeard bag g.allocator.raft_server.store (handled.answer_of d.mark.step d.ident.source call says.term says.granted))
      → is_awaited g.allocator.raft_server g.allocator.times d.ident.source false d.id ≡ true
      → Sure (answers_call number (vote_answered d says) (g.allocator.raft_server.memory.pending d.ident.source) g)
  vote_answer_sure d says g h once here is = go (g.allocator.raft_server.memory.pending d.ident.source) refl
    where
      go : (call : Option Request) → g.allocator.raft_server.memory.pending d.ident.source ≡ call → Sure (answers_call number (vote_answered d says) call g)
      go None e = h
      go (Some request) e = blank_sure (given_at g.allocator.now) (vote_answered d says request) g h once (λ s. cc) tt
          (λ called. (here request e, h.0.own d.ident.source request e, awaited false d g request e is, e))
          (term_log g.allocator.raft_server.store says.term)

  append_answer_sure : (d : Delivery) (says : AppendAnswer) (g : StepState) → Sure g → IsInjective g.allocator.raft_server.store.log
      → ((call : Request) → g.allocator.raft_server.memory.pending d.ident.source ≡ Some call
      → IsHeard bag g.allocator.raft_server.store (handled.answer_of d.mark.step d.ident.source call says.term says.success))
      → is_awaited g.allocator.raft_server g.allocator.times d.ident.source true d.id ≡ true
      → Sure (answers_call number (append_answered d says) (g.allocator.raft_server.memory.pending d.ident.source) g)
  append_answer_sure d says g h once here is = go (g.allocator.raft_server.memory.pending d.ident.source) refl
    where
      go : (call : Option Request) → g.allocator.raft_server.memory.pending d.ident.source ≡ call → Sure (answers_call number (append_answered d says) call g)
      go None e = h
      go (Some request) e = blank_sure (given_at g.allocator.now) (append_answered d says request) g h once (λ s. cc) tt
          (λ called. (here request e, h.0.own d.ident.source request e, awaited true d g request e is, e))
          (term_log g.allocator.raft_server.store says.term)

  -- ---- by its data type

  reads_sure : {A : Type 0} (does : A → StepState → StepState) (value : Option A) (g : StepState) → Sure g
      → ((found : A) → value ≡ Some found → Sure (does found g)) → Sure (reads does value g).step_state
  reads_sure does None g h f = h
  reads_sure does (Some found) g h f = f found refl

  asks_sure : (d : Delivery) (bytes : List ℕ) (g : StepState) → Sure g → Sure (asks_info number d bytes g).step_state
  asks_sure d [] g h = responding Info d (node_info_bytes (info_of g.allocator)) None g h (λ message is. absurd (cc (is)))
  asks_sure d (byte ∷ bytes) g h = h

  -- a complete list hears nothing new
  discovery_heard : (d : Delivery) (message : Discovery) (g : StepState) → Sure g → Sure (hears_discovery d message g)
  discovery_heard d message g h = (
    h.0,
    λ counts.
        let w = h.1 counts in
        let same = laws.complete_stays (start_of g.allocator) g.allocator.heard d.ident.source message w.complete in record {
          complete = subst (λ (l : List ℕ). nat_eq (length l) g.allocator.size ≡ true) (sym same) w.complete;
          all = subst (λ (l : List ℕ). IsAll l members) (sym same) w.all;
        },
  )

  message_sure : (d : Delivery) (g : StepState) → Sure g → Sure (delivered.message d g).step_state
  message_sure d g h =
      either (λ (s : StepResult). Sure s.step_state) (nat_eq d.ident.number 341) (reads (λ status. hears_status d) (node_status_of d.payload) g)
      (reads (hears_discovery d) (discovery_of d.payload) g)
      (λ e. reads_sure (λ status. hears_status d) (node_status_of d.payload) g h (λ status is. h))
      (λ e. reads_sure (hears_discovery d) (discovery_of d.payload) g h (λ message is. discovery_heard d message g h))

  request_sure : (d : Delivery) (g : StepState) → Sure g → (is_listed d g.allocator ≡ true → RequestsFrom bag g.allocator.me d)
      → Sure (request number d g).step_state
  request_sure d g h from =
      either (λ (s : StepResult). Sure s.step_state) (nat_eq d.ident.number 1) (asks_info number d d.payload g) _ (λ e. asks_sure d d.payload g h)
      (λ other. either (λ (s : StepResult). Sure s.step_state) (nat_eq d.ident.number 30) (reads (takes_append_request number d) (append_request_of d.payload) g)
      (reads (takes_vote_request number d) (vote_request_of d.payload) g)
      (λ service. reads_sure (takes_append_request number d) (append_request_of d.payload) g h (λ asked is.
      either Sure (is_listed d g.allocator) _ g
      (λ listed. append_sure d (handled.append_request_of asked d.mark.step d.ident.source g.allocator.me) g h ((from listed).appends (eq_true d.ident.number 30 service) asked is) refl refl)
      (λ e. h)))
      (λ service. reads_sure (takes_vote_request number d) (vote_request_of d.payload) g h (λ asked is.
      either Sure (is_listed d g.allocator) _ g
      (λ listed. vote_sure d (handled.vote_request_of asked d.mark.step d.ident.source g.allocator.me) g h ((from listed).votes (eq_false d.ident.number 1 other) (eq_false d.ident.number 30 service) asked is) refl refl)
      (λ e. h))))

  response_sure : (d : Delivery) (g : StepState) → Sure g → IsInjective g.allocator.raft_server.store.log
      → (is_listed d g.allocator ≡ true → (call : Request) → g.allocator.raft_server.memory.pending d.ident.source ≡ Some call
      → AnswersFrom bag g.allocator.raft_server g.allocator.times d call)
      → Sure (response number d g).step_state
  response_sure d g h once from =
      either (λ (s : StepResult). Sure s.step_state) (nat_eq d.ident.number 1) (reads (hears_info d) (node_info_of d.payload) g) _
      (λ e. reads_sure (hears_info d) (node_info_of d.payload) g h (λ info is. h))
      (λ other. either (λ (s : StepResult). Sure s.step_state) (nat_eq d.ident.number 30) (reads (takes_append_answer number d) (append_answer_of d.payload) g)
      (reads (takes_vote_answer number d) (vote_answer_of d.payload) g)
      (λ service. reads_sure (takes_append_answer number d) (append_answer_of d.payload) g h (λ says is.
      either Sure (is_listed d g.allocator) (ends_append_call number d says g) g
      (λ listed. either Sure (is_awaited g.allocator.raft_server g.allocator.times d.ident.source true d.id) _ g
      (λ waits. append_answer_sure d says g h once (λ call pending. (from listed call pending).appends (eq_true d.ident.number 30 service) says is waits) waits) (λ e. h)) (λ e. h)))
      (λ service. reads_sure (takes_vote_answer number d) (vote_answer_of d.payload) g h (λ says is.
      either Sure (is_listed d g.allocator) (ends_vote_call number d says g) g
      (λ listed. either Sure (is_awaited g.allocator.raft_server g.allocator.times d.ident.source false d.id) _ g
      (λ waits. vote_answer_sure d says g h once (λ call pending. (from listed call pending).votes (eq_false d.ident.number 1 other) (eq_false d.ident.number 30 service) says is waits) waits) (λ e. h)) (λ e. h))))

  kind_sure : (d : Delivery) (kind : Kind) (g : StepState) → Sure g → IsInjective g.allocator.raft_server.store.log → SaysFrom bag g.allocator d kind
      → Sure (by_kind number d kind g).step_state
  kind_sure d Anonymous g h once from = reads_sure (hears_allocation number) (allocation_of d.payload) g h
      (λ message is. heard_sure (answer g.allocator.accepted message g.allocator.now (may_follow g.allocator)) (with_request message g) h once)
  kind_sure d Broadcast g h once from = message_sure d g h
  kind_sure d RequestKind g h once from = request_sure d g h from
  kind_sure d Response g h once from = response_sure d g h once from

  pub delivers_sure : (d : Delivery) (g : StepState) → Sure g → IsInjective g.allocator.raft_server.store.log → SaysFrom bag g.allocator d d.ident.kind
      → Sure (delivery_phase number d g).step_state
  unfolding delivery_phase
  delivers_sure d g h once from = kind_sure d d.ident.kind g h once from

  -- ---- the end

  commit_sure : (g : StepState) → Sure g → Sure (commit_phase number g)
  commit_sure g h =
      quietly (given_at g.allocator.now) (duty.commit_phase (members_of g.allocator) g.allocator.me g.allocator.raft_server) g h
      (commit_stays (members_of g.allocator) g.allocator.me g.allocator.raft_server) (commit_quiet (members_of g.allocator) g.allocator.me g.allocator.raft_server)
      (λ s e. subst (λ (p : RaftServer). AllEnabled (members_of g.allocator) g.allocator.me number bag s (duty.commit_phase (members_of g.allocator) g.allocator.me p)) e
      (laws.commit_comes (members_of g.allocator) g.allocator.me number bag s))

  tell_sure : (g : StepState) → Sure g → Sure (tell_phase number g)
  tell_sure g h = either Sure (has_to_tell g.allocator.raft_server) (tells_next number g) g told (λ e. h)
    where
      told : has_to_tell g.allocator.raft_server ≡ true → Sure (tells_next number g)
      told e =
          either Sure (is_zero (next_entry g.allocator.raft_server).uid) _ _
          (λ z. one_move (given_at g.allocator.now) TellNothing g h (λ s. cc) tt (λ called. (leads, below, are_zeros (next_entry g.allocator.raft_server).uid z)))
          (λ z. gives_sure TellPair (slice_index_or g.allocator.raft_server.store.log g.allocator.raft_server.memory.told (blank 0)) g h
          (one_move (given_at g.allocator.now) TellPair g h (λ s. cc) tt (λ called. (leads, below, no_zeros (next_entry g.allocator.raft_server).uid z)))
          (offered_by (given_at g.allocator.now) TellPair g h.0.leave _ (inl refl)))
        where
          leads : g.allocator.raft_server.memory.role ≡ Leader
          leads = leader_of g.allocator.raft_server.memory.role
              (and_left (is_leader g.allocator.raft_server.memory.role) (nat_lt g.allocator.raft_server.memory.told g.allocator.raft_server.store.commit) e)

          below : g.allocator.raft_server.memory.told < g.allocator.raft_server.store.commit
          below = lt_true g.allocator.raft_server.memory.told g.allocator.raft_server.store.commit
              (and_right (is_leader g.allocator.raft_server.memory.role) (nat_lt g.allocator.raft_server.memory.told g.allocator.raft_server.store.commit) e)

  -- these peers were not called yet; they are other members
  abbrev Calling : List ℕ → StepState → Type 0
  Calling peers g = Steady members number bag local_state (λ p. In p peers) g × ((p : ℕ) → In p peers → (p ≢ g.allocator.me) × In p (members_of g.allocator))

  sends_calling : (what : What) (peer : ℕ) (rest : List ℕ) (payload : List ℕ) (says : Option Message) (g : StepState) → Calling rest g
      → (has_room g.allocator.queue payload ≡ true → (message : Message) → message_by number g.allocator.me what payload says ≡ Some message → In message (offered g))
      → Calling rest (with_transfer number what peer payload says g)
  sends_calling what peer rest payload says g h is =
      ((offers_steady members number bag local_state (λ p. In p rest) g.allocator.me g.allocator.raft_server g.moves g.puts g.offers (sent what peer payload says g) h.0.0 is, h.0.1), h.1)

  fewer : (peer : ℕ) (rest : List ℕ) (g : StepState) → Calling (peer ∷ rest) g → Calling rest g
  fewer peer rest g h = (
    (
      record {
        made = h.0.0.made;
        come = h.0.0.come;
        leave = h.0.0.leave;
        say = h.0.0.say;
        called = λ p i. h.0.0.called p (inr i);
        fit = h.0.0.fit;
        own = h.0.0.own;
        outside = h.0.0.outside;
      },
      h.0.1,
    ),
    λ p i. h.1 p (inr i),
  )

  calls_sure : (what : What) (peer : ℕ) (rest : List ℕ) (move : Move) (request : Request) (payload : List ℕ) (g : StepState) → Calling (peer ∷ rest) g
      → (In peer rest → ⊥) → move ≢ TimeOut → calls_of_all (move ∷ []) ≡ peer ∷ []
      → ((called : List ℕ) → (In peer called → ⊥) → IsEnabled (members_of g.allocator) g.allocator.me bag called g.allocator.raft_server move)
      → In (Requests request) (offers g.allocator.me number g.allocator.raft_server move)
      → ((message : Message) → message_by number g.allocator.me what payload (Some (Requests request)) ≡ Some message → message ≡ Requests request)
      → Calling rest (calls_by number what peer move request payload g)
  calls_sure what peer rest move request payload g h once other calls comes says means =
      either (Calling rest) (has_room g.allocator.queue payload) _ _
      (λ e. sends_calling what peer rest payload (Some (Requests request)) (with_moves number (given_call g.allocator.now (id_of g.allocator.ids what peer)) (move ∷ []) g) moved
      (λ fits message is. subst (λ (m : Message). In m (offered (with_moves number (given_call g.allocator.now (id_of g.allocator.ids what peer)) (move ∷ []) g))) (sym (means message is))
      (offered_by (given_call g.allocator.now (id_of g.allocator.ids what peer)) move g h.0.0.leave (Requests request) says)))
      (λ e. sends_calling what peer rest payload (Some (Requests request)) g (fewer peer rest g h) (λ fits message is. absurd (cc (e, fits))))
    where
      no_proposal : (entry : Entry) → move ≡ ProposeEntry entry → ⊥
      no_proposal entry e = absurd (cc (sym (ap (λ (m : Move). calls_of_all (m ∷ [])) e) ∙ calls))

      not_again : (p : ℕ) → In p rest → In p (calls_of_all (move ∷ [])) → ⊥
      not_again p i c = elim (subst (λ (l : List ℕ). In p l) calls c) [ inl e ↦ once (subst (λ (n : ℕ). In n rest) e i) | inr j ↦ j ]

      moved : Calling rest (with_moves number (given_call g.allocator.now (id_of g.allocator.ids what peer)) (move ∷ []) g)
      moved = (
        takes_steady members number bag local_state laws (λ p. In p (peer ∷ rest)) (λ p. In p rest) (given_call g.allocator.now (id_of g.allocator.ids what peer)) (move ∷ []) g h.0
            (inl (λ i. elim i [ inl e ↦ other (sym e) | inr j ↦ j ]))
            (λ s e free. (
              subst (λ (p : RaftServer). IsEnabled (members_of g.allocator) g.allocator.me bag s.called p move) (sym e)
                  (comes s.called (free peer (inl refl))),
              tt,
            ))
            (λ p i. (inr i, not_again p i))
            (λ entry i. elim i [ inl e ↦ absurd (no_proposal entry (sym e)) | inr j ↦ absurd j ]),
        λ p i. h.1 p (inr i),
      )

  -- what a call that is owed asks for
  abbrev IsOwed : StepState → ℕ → Option Move → Type 0
  IsOwed g peer None = ⊤
  IsOwed g peer (Some (CallForVote node)) = (node ≡ peer) × (g.allocator.raft_server.memory.role ≡ Candidate) × (g.allocator.raft_server.memory.pending peer ≡ None)
  IsOwed g peer (Some (CallToAppend node previous with_entry)) = (node ≡ peer) × (g.allocator.raft_server.memory.role ≡ Leader)
      × (g.allocator.raft_server.memory.pending peer ≡ None) × (previous ≤ length g.allocator.raft_server.store.log)
  IsOwed g peer (Some move) = ⊤

  is_owed : (g : StepState) (peer : ℕ) → IsFit g.allocator.me g.allocator.raft_server → IsOwed g peer (owed g.allocator.raft_server g.allocator.times peer g.allocator.now)
  is_owed g peer fit = by_pending (g.allocator.raft_server.memory.pending peer) refl
    where
      by_role : g.allocator.raft_server.memory.pending peer ≡ None → (role : Role) → g.allocator.raft_server.memory.role ≡ role
          → IsOwed g peer (due role g.allocator.raft_server g.allocator.times peer g.allocator.now)
      by_role free Follower e = tt
      by_role free Candidate e =
          either (λ (call : Option Move). IsOwed g peer call) (g.allocator.times.answered peer) None (Some (CallForVote peer)) (λ b. tt) (λ b. (refl, e, free))
      by_role free Leader e =
          either (λ (call : Option Move). IsOwed g peer call)
          (nat_le (g.allocator.raft_server.memory.next peer) (length g.allocator.raft_server.store.log) || is_silent (g.allocator.times.appended peer) g.allocator.now)
          (Some (CallToAppend peer (g.allocator.raft_server.memory.next peer - 1) true)) None
          (λ b. (refl, e, free, omega (arith, (fit.peers e peer).most))) (λ b. tt)

      by_pending : (pending : Option Request) → g.allocator.raft_server.memory.pending peer ≡ pending
          → IsOwed g peer (due_unless pending (due g.allocator.raft_server.memory.role g.allocator.raft_server g.allocator.times peer g.allocator.now))
      by_pending None e = by_role e g.allocator.raft_server.memory.role refl
      by_pending (Some request) e = tt

  may_call : (peer : ℕ) (rest : List ℕ) (g : StepState) → Calling (peer ∷ rest) g → g.allocator.raft_server.memory.pending peer ≡ None → (called : List ℕ)
      → (In peer called → ⊥) → MayCall (members_of g.allocator) g.allocator.me called g.allocator.raft_server peer
  may_call peer rest g h free called first = record
      { other = (h.1 peer (inl refl)).0; listed = (h.1 peer (inl refl)).1; free = free; first = first }

  owed_sure : (peer : ℕ) (rest : List ℕ) (call : Option Move) (g : StepState) → IsOwed g peer call → Calling (peer ∷ rest) g → (In peer rest → ⊥)
      → Calling rest (calls_owed number call g)
  owed_sure peer rest None g is h once = fewer peer rest g h
  owed_sure peer rest (Some (CallForVote node)) g is h once =
      subst (λ (n : ℕ). Calling rest (calls_owed number (Some (CallForVote n)) g)) (sym is.0)
      (calls_sure VoteQ peer rest (CallForVote peer) (vote_request g.allocator.me number g.allocator.raft_server.store peer)
      (vote_call_bytes (vote_request g.allocator.me number g.allocator.raft_server.store peer)) g h once (λ e. cc) refl
      (λ called first. (is.1, may_call peer rest g h is.2 called first)) (inl refl) (λ message e. sym (cc (e))))
  owed_sure peer rest (Some (CallToAppend node previous with_entry)) g is h once =
      subst (λ (n : ℕ). Calling rest (calls_owed number (Some (CallToAppend n previous with_entry)) g)) (sym is.0)
      (calls_sure AppQ peer rest (CallToAppend peer previous with_entry)
      (append_request g.allocator.me number g.allocator.raft_server.store peer previous with_entry)
      (append_call_bytes (append_request g.allocator.me number g.allocator.raft_server.store peer previous with_entry)) g h once (λ e. cc) refl
      (λ called first. (is.1, is.3, may_call peer rest g h is.2 called first)) (inl refl) (λ message e. sym (cc (e))))
  owed_sure peer rest (Some move) g is h once = fewer peer rest g h

  all_called : (peers : List ℕ) (g : StepState) → HasNoneTwice peers → Calling peers g → Calling [] (calls_all number peers g)
  all_called [] g once h = h
  all_called (peer ∷ peers) g once h = all_called peers (calls_peer number peer g) once.1
      (owed_sure peer peers (owed g.allocator.raft_server g.allocator.times peer g.allocator.now) g (is_owed g peer h.0.0.fit) h once.0)

  call_phase_sure : (g : StepState) → Sure g → Calling [] (call_phase number g)
  call_phase_sure g h = all_called (drop 1 (members_of g.allocator)) g peers.once (
    (
      record {
        made = h.0.made;
        come = h.0.come;
        leave = h.0.leave;
        say = h.0.say;
        called = λ p i. h.0.called p tt;
        fit = h.0.fit;
        own = h.0.own;
        outside = h.0.outside;
      },
      h.1,
    ),
    λ p i. (peers.others p i, in_drop p (members_of g.allocator) i),
  )
    where
      peers : ArePeers g.allocator.me (drop 1 (members_of g.allocator))
      peers = list_peers (start_of g.allocator).size (start_of g.allocator).me (members_of g.allocator) (members_list (start_of g.allocator) g.allocator.heard)

  pub ends_sure : (g : StepState) → Sure g → Calling [] (end_phase number g)
  ends_sure g h = call_phase_sure (tell_phase number (commit_phase number g)) (tell_sure (commit_phase number g) (commit_sure g h))
