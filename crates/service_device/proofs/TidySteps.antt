-- What all changes of a step keep, the whole step keeps.
use Rattle.std.proofs.Common.{◌≡◌, ◌≢◌, ℕ, false, List, [], ◌∷◌, drop, max, refl, sym, ◌∙◌, Option, None, Some}
use Rattle.std.specs.Prelude.{◌-◌, ◌&&◌, not, nat_eq, nat_le, nat_lt, slice_index_or}
use Rattle.alloc_exchange.specs.declared.heard.Heard.{Heard}
use Rattle.alloc_exchange.specs.declared.heard.Heard.TheVariants.{Denied, FollowUp, Ignored, Whole}
use Rattle.alloc_exchange.specs.Exchange.{answer}
use Rattle.can_frame.specs.declared.entry.Entry.{Entry}
use Rattle.can_frame.specs.declared.identifier.Kind.TheVariants.{Anonymous, Message as Broadcast}
use Rattle.can_frame.specs.declared.step.What.{What}
use Rattle.can_frame.specs.declared.step.What.TheVariants.{Alloc, AppQ, Disc, InfoQ, Stat, VoteQ}
use Rattle.can_frame.specs.Log.{blank}
use Rattle.can_frame.specs.Timing.{status_interval}
use Rattle.can_frame.specs.Zeros.{zeros}
use Rattle.cluster_discovery.specs.Members.{is_due}
use Rattle.dsdl_codec.specs.declared.allocation.Allocation.{Allocation}
use Rattle.dsdl_codec.specs.declared.discovery.Discovery.{Discovery}
use Rattle.dsdl_codec.specs.declared.node_info.NodeInfo.{NodeInfo}
use Rattle.dsdl_codec.specs.Allocation.{allocation_of}
use Rattle.dsdl_codec.specs.Discovery.{discovery_of}
use Rattle.dsdl_codec.specs.NodeStatus.{node_status_bytes}
use Rattle.id_selector.specs.Choice.{chosen}
use Rattle.node_discovery.specs.Watch.{next_query, some_unknown}
use Rattle.raft_core.specs.Calls.{owed}
use Rattle.raft_core.specs.Handled as handled
use Rattle.raft_core.specs.Taken.{proposal}
use Rattle.raft_core.specs.Times.{HandedIn, given_at, given_call, given_proposal, given_tick, overdue}
use Rattle.raft_model.specs.Duty as duty
use Rattle.raft_model.specs.Messages.{Message, Request}
use Rattle.raft_model.specs.Messages.Message.{Requests}
use Rattle.raft_model.specs.Moves.{Move, next_entry}
use Rattle.raft_model.specs.Moves.Elections.{is_leader}
use Rattle.raft_model.specs.Moves.Leading.{append_request, vote_request}
use Rattle.raft_model.specs.Moves.Move.{AnswerAgain, CallForVote, CallToAppend, ProposeEntry, TellNothing, TellPair}
use Rattle.transfer_rx.specs.Reassembly.{Answer, Continues, Delivery, Drops, Gives, Arrival}
use Rattle.transfer_rx.specs.Sessions.{Session}
use Rattle.alloc_spec.specs.AllocatorState.{AllocatorState, is_zero, known, may_propose, members_of, recorded_at, start_of, status_of, taken}
use Rattle.alloc_spec.specs.Delivered.{StepResult, delivery_phase, hears_discovery, hears_status}
use Rattle.alloc_spec.specs.Ending.{append_call_bytes, calls_all, calls_owed, calls_peer, commit_phase, end_phase, has_to_tell, tell_phase, tells_next, vote_call_bytes}
use Rattle.alloc_spec.specs.Exchange.{allocation_payload, answers_or_records, answers_request, gives_entry, gives_pair, hears_allocation, hears_whole, may_follow, records, records_at, with_request}
use Rattle.alloc_spec.specs.Services.{hears_info}
use Rattle.alloc_spec.specs.Step.{Event, all_nodes, at_moment, at_sessions, begin_phase, event_phase, moment_of, step, with_answer, with_sessions}
use Rattle.alloc_spec.specs.Step.Event.{Rx, Tick}
use Rattle.alloc_spec.specs.StepState.{StepState, initial_state, with_moves, with_response_to, with_transfer}
use Rattle.alloc_spec.specs.Tick.{asks, candidate, clock_phase, discovery_phase, election_moves, election_phase, new_uid, proposes, record_phase, records_as, records_node, status_phase, tells_members, tells_status, with_query, with_status}
use Rattle.alloc_spec.specs.Transfers.{has_room, id_of}
use Rattle.alloc_spec_laws.proofs.Choices.{either}
use Rattle.service_device.proofs.AllocationsOffered.{comes_to, delivery_passes}

-- Each change of a step keeps it, but for the hearing of messages and of requests of devices.
pub record IsPassed (number : ℕ) (Keeps : StepState → Type 0) : Type 0 where
  pub discovers : (g : StepState) → Keeps g → Keeps (discovery_phase number g)
  pub moves : (given : HandedIn) (moves : List Move) (g : StepState) → Keeps g → Keeps (with_moves number given moves g)
  pub sends : (what : What) (to : ℕ) (payload : List ℕ) (says : Option Message) (g : StepState) → what ≢ Disc → Keeps g
      → Keeps (with_transfer number what to payload says g)
  pub responds : (what : What) (d : Delivery) (payload : List ℕ) (says : Option Message) (g : StepState) → what ≢ Disc → Keeps g
      → Keeps (with_response_to number what d payload says g)
  pub states : (g : StepState) → Keeps g → Keeps (with_status g)
  pub queries : (node id : ℕ) (g : StepState) → Keeps g → Keeps (with_query node id g)
  pub sessions : (sessions : List Session) (g : StepState) → Keeps g → Keeps (at_sessions sessions g)
  pub infos : (d : Delivery) (info : NodeInfo) (g : StepState) → Keeps g → Keeps (hears_info d info g)

-- where what is delivered is a request of a device, a NodeStatus or a Discovery, its hearing keeps it
pub record IsHarmless (Keeps : StepState → Type 0) (d : Delivery) : Type 0 where
  pub request : d.ident.kind ≡ Anonymous → (message : Allocation) → allocation_of d.payload ≡ Some message → (g : StepState) → Keeps g → Keeps (with_request message g)
  pub status : d.ident.kind ≡ Broadcast → (g : StepState) → Keeps g → Keeps (hears_status d g)
  pub discovery : d.ident.kind ≡ Broadcast → nat_eq d.ident.number 341 ≡ false → (message : Discovery) → discovery_of d.payload ≡ Some message → (g : StepState) → Keeps g → Keeps (hears_discovery d message g)

-- so it is with a Discovery, where none is due
pub none_sent : (number : ℕ) (Keeps : StepState → Type 0) (g : StepState) → is_due (start_of g.allocator) g.allocator.heard g.allocator.now ≡ false → Keeps g → Keeps (discovery_phase number g)
none_sent number Keeps g none h = either Keeps (is_due (start_of g.allocator) g.allocator.heard g.allocator.now) (tells_members number g) g (λ e. absurd (cc (sym e ∙ none))) (λ e. h)

module _ (number : ℕ) (Keeps : StepState → Type 0) (k : IsPassed number Keeps) where
  abbrev KeepsResult : StepResult → Type 0
  KeepsResult r = Keeps r.step_state

  -- ---- an entry that is recorded, and an Allocation

  proposed : (origin : ℕ) (uid : List ℕ) (node : ℕ) (g : StepState) → Keeps g → Keeps (proposes number origin uid node g)
  proposed origin uid node g h =
      k.moves (given_proposal g.allocator.now origin) (ProposeEntry (proposal g.allocator.raft_server.store.term uid node) ∷ []) g h

  giving : (move : Move) (entry : Entry) (g : StepState) → Keeps g → Keeps (gives_entry number move entry g)
  giving move entry g h =
      let payload : List ℕ = allocation_payload entry.node entry.uid in
      let s : Keeps (with_transfer number Alloc 0 payload None g) = k.sends Alloc 0 payload None g (λ e. cc (e)) h in
      either Keeps (has_room g.allocator.queue payload)
      (with_moves number (given_at g.allocator.now) (move ∷ []) (with_transfer number Alloc 0 payload None g))
      (with_transfer number Alloc 0 payload None g)
      (λ e. k.moves (given_at g.allocator.now) (move ∷ []) (with_transfer number Alloc 0 payload None g) s) (λ e. s)

  -- ---- the end

  tells : (g : StepState) → Keeps g → Keeps (tell_phase number g)
  tells g h = either Keeps (has_to_tell g.allocator.raft_server) (tells_next number g) g
      (λ e. either Keeps (is_zero (next_entry g.allocator.raft_server).uid)
      (with_moves number (given_at g.allocator.now) (TellNothing ∷ []) g) (gives_pair number TellPair g.allocator.raft_server.memory.told g)
      (λ z. k.moves (given_at g.allocator.now) (TellNothing ∷ []) g h)
      (λ z. giving TellPair (next_entry g.allocator.raft_server) g h)) (λ e. h)

  calls : (call : Option Move) (g : StepState) → Keeps g → Keeps (calls_owed number call g)
  calls None g h = h
  calls (Some (CallForVote peer)) g h =
      let request_ : Request = vote_request g.allocator.me number g.allocator.raft_server.store peer in
      let s = k.sends VoteQ peer (vote_call_bytes request_) (Some (Requests request_)) g (λ e. cc (e)) h in
      either Keeps (has_room g.allocator.queue (vote_call_bytes request_)) _ _
      (λ e. k.moves (given_call g.allocator.now (id_of g.allocator.ids VoteQ peer)) (CallForVote peer ∷ []) _ s) (λ e. s)
  calls (Some (CallToAppend peer previous with_entry)) g h =
      let request_ : Request = append_request g.allocator.me number g.allocator.raft_server.store peer previous with_entry in
      let s = k.sends AppQ peer (append_call_bytes request_) (Some (Requests request_)) g (λ e. cc (e)) h in
      either Keeps (has_room g.allocator.queue (append_call_bytes request_)) _ _
      (λ e. k.moves (given_call g.allocator.now (id_of g.allocator.ids AppQ peer)) (CallToAppend peer previous with_entry ∷ []) _ s) (λ e. s)
  calls (Some move) g h = h

  calls_peers : (peers : List ℕ) (g : StepState) → Keeps g → Keeps (calls_all number peers g)
  calls_peers [] g h = h
  calls_peers (peer ∷ peers) g h = calls_peers peers (calls_peer number peer g)
      (calls (owed g.allocator.raft_server g.allocator.times peer g.allocator.now) g h)

  ends : (g : StepState) → Keeps g → Keeps (end_phase number g)
  ends g h =
      let committed : StepState = commit_phase number g in
      let told : StepState = tell_phase number committed in
      calls_peers (drop 1 (members_of told.allocator)) told
      (tells committed (k.moves (given_at g.allocator.now) (duty.commit_phase (members_of g.allocator) g.allocator.me g.allocator.raft_server) g h))

  -- ---- a tick

  states : (g : StepState) → Keeps g → Keeps (status_phase number g)
  states g h = either Keeps (nat_le status_interval (g.allocator.now - g.allocator.status_at)) (tells_status number g) g
      (λ e. k.states (with_transfer number Stat 0 (node_status_bytes (status_of g.allocator)) None g)
      (k.sends Stat 0 (node_status_bytes (status_of g.allocator)) None g (λ f. cc (f)) h)) (λ e. h)

  notes : (node : Option ℕ) (g : StepState) → Keeps g → Keeps (records_node number node g)
  notes None g h = h
  notes (Some node) g h = by (new_uid g.allocator node)
    where
      by : (uid : Option (List ℕ)) → Keeps (records_as number node uid g)
      by None = proposed 3 zeros node g h
      by (Some uid) = proposed 2 uid node g h

  asks_node : (node : Option ℕ) (g : StepState) → Keeps g → Keeps (asks number node g)
  asks_node None g h = h
  asks_node (Some node) g h =
      let s : Keeps (with_transfer number InfoQ node [] None g) = k.sends InfoQ node [] None g (λ e. cc (e)) h in
      either Keeps (has_room g.allocator.queue [])
      (with_query node (id_of g.allocator.ids InfoQ node) (with_transfer number InfoQ node [] None g)) (with_transfer number InfoQ node [] None g)
      (λ e. k.queries node (id_of g.allocator.ids InfoQ node) (with_transfer number InfoQ node [] None g) s) (λ e. s)

  ticks : (word : ℕ) (g : StepState) → Keeps g → Keeps (clock_phase number word g)
  ticks word g h =
      let stated : StepState = status_phase number (discovery_phase number g) in
      let elected : StepState = election_phase number word stated in
      let noted : StepState = record_phase number elected in
      let a : Keeps elected = k.moves (given_tick stated.allocator.now word) (election_moves number stated.allocator) stated
      (states (discovery_phase number g) (k.discovers g h)) in
      let b : Keeps noted = either Keeps (may_propose elected.allocator) (records_node number (candidate elected.allocator) elected) elected
      (λ e. notes (candidate elected.allocator) elected a) (λ e. a) in
      either Keeps (is_leader noted.allocator.raft_server.memory.role) (asks number (next_query noted.allocator.watch (known noted.allocator) noted.allocator.now) noted) noted
      (λ e. asks_node (next_query noted.allocator.watch (known noted.allocator) noted.allocator.now) noted b) (λ e. b)

  -- ---- a request of a device

  records_it : (uid : List ℕ) (preference : ℕ) (g : StepState) → Keeps g → Keeps (records number uid preference g)
  records_it uid preference g h =
      either Keeps (may_propose g.allocator && not (some_unknown g.allocator.watch (known g.allocator) g.allocator.now))
      (records_at number uid (chosen (taken g.allocator) preference) g) g
      (λ e. by (chosen (taken g.allocator) preference)) (λ e. h)
    where
      by : (node : Option ℕ) → Keeps (records_at number uid node g)
      by None = h
      by (Some node) = proposed 1 uid node g h

  hears_it_whole : (uid : List ℕ) (preference : ℕ) (g : StepState) → Keeps g → Keeps (hears_whole number uid preference g)
  hears_it_whole uid preference g h =
      either Keeps (is_zero uid) g (answers_or_records number uid preference (recorded_at g.allocator.raft_server.store.log uid) g)
      (λ e. h) (λ e. by (recorded_at g.allocator.raft_server.store.log uid))
    where
      by : (place : Option ℕ) → Keeps (answers_or_records number uid preference place g)
      by None = records_it uid preference g h
      by (Some place) =
          either Keeps (nat_lt place g.allocator.raft_server.store.commit) (gives_pair number (AnswerAgain place) place g) g
          (λ e. giving (AnswerAgain place) (slice_index_or g.allocator.raft_server.store.log place (blank 0)) g h) (λ e. h)

  answers_it : (heard : Heard) (g : StepState) → Keeps g → Keeps (answers_request number heard g)
  answers_it (FollowUp bytes) g h = k.sends Alloc 0 (allocation_payload 0 bytes.items) None g (λ e. cc (e)) h
  answers_it (Whole uid preference) g h = hears_it_whole uid preference g h
  answers_it (Ignored why) g h = h
  answers_it Denied g h = h

  hears_request : (message : Allocation) (g : StepState) → Keeps (with_request message g) → Keeps (hears_allocation number message g)
  hears_request message g h = answers_it (answer g.allocator.accepted message g.allocator.now (may_follow g.allocator)) (with_request message g) h

  -- ---- what is delivered

  delivery_comes : (d : Delivery) → IsHarmless Keeps d → (g : StepState) → Keeps g → KeepsResult (delivery_phase number d g)
  delivery_comes d harmless g h = delivery_passes number Keeps
      (record { moves = k.moves; responds = λ what d payload says g other more h. k.responds what d payload says g other h; infos = k.infos })
      d harmless.status harmless.discovery g h (λ kind message says. hears_request message g (harmless.request kind message says g h))

  -- ---- the step

  module _ (t : AllocatorState) where
    begun : (now : ℕ) → Keeps (initial_state (at_moment now t)) → Keeps (begin_phase number now t)
    begun now h = k.moves (given_at (max t.now now)) (handled.moves_of_expire (overdue t.times (max t.now now) all_nodes)) (initial_state (at_moment now t)) h

    answered : (arrival : Arrival) (a : Answer) → ((d : Delivery) → a ≡ Gives d → IsHarmless Keeps d) → (g : StepState) → Keeps g
        → KeepsResult (with_answer number a g)
    answered arrival (Gives d) harmless g h = delivery_comes d (harmless d refl) g h
    answered arrival Continues harmless g h = h
    answered arrival (Drops why) harmless g h = h

    seen : (event : Event) → ((arrival : Arrival) → event ≡ Rx arrival → (d : Delivery) → comes_to t arrival ≡ Gives d → IsHarmless Keeps d)
        → Keeps (initial_state (at_moment (moment_of event) t)) → KeepsResult (event_phase number event (begin_phase number (moment_of event) t))
    seen (Tick now word) harmless h = ticks word (begin_phase number now t) (begun now h)
    seen (Rx arrival) harmless h = answered arrival (comes_to t arrival) (harmless arrival refl) (with_sessions arrival (begin_phase number arrival.moment t))
        (k.sessions _ (begin_phase number arrival.moment t) (begun arrival.moment h))

    -- where nothing comes that is not harmless, the step keeps it
    pub step_passes : (event : Event) → ((arrival : Arrival) → event ≡ Rx arrival → (d : Delivery) → comes_to t arrival ≡ Gives d → IsHarmless Keeps d)
        → Keeps (initial_state (at_moment (moment_of event) t)) → Keeps (step t number event).step_state
    unfolding step
    step_passes event harmless h = ends (event_phase number event (begin_phase number (moment_of event) t)).step_state (seen event harmless h)
