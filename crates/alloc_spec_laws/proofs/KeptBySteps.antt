-- What all changes of a step keep, the whole step keeps.
use Rattle.std.proofs.Common.{length, ◌≡◌, ◌≢◌, ◌∙◌, ℕ, ◌≤◌, Bool, true, false, List, [], ◌∷◌, inl, inr, refl, sym, subst, arith, Option, Some, None, drop, ap, ◌<◌}
use Rattle.std.specs.Prelude.{◌-◌, ◌&&◌, not, nat_le, nat_eq, nat_lt, slice_index_or}
use Rattle.alloc_exchange.specs.declared.heard.Heard.{Heard}
use Rattle.alloc_exchange.specs.declared.heard.Heard.TheVariants.{Denied, FollowUp, Ignored, Whole}
use Rattle.alloc_exchange.specs.Exchange.{answer}
use Rattle.can_frame.specs.declared.entry.Entry.{Entry}
use Rattle.can_frame.specs.declared.identifier.Kind.{Kind}
use Rattle.can_frame.specs.declared.identifier.Kind.TheVariants.{Anonymous, Message as Broadcast, Request as RequestKind, Response}
use Rattle.can_frame.specs.Log.{blank}
use Rattle.can_frame.specs.Zeros.{zeros}
use Rattle.can_frame.specs.declared.step.What.{What}
use Rattle.can_frame.specs.declared.step.What.TheVariants.{Alloc, Disc, Stat, InfoQ, Info, VoteQ, Vote, AppQ, App}
use Rattle.cluster_discovery.specs.Members.{is_due}
use Rattle.dsdl_codec.specs.declared.append_request.AppendRequest.{AppendRequest}
use Rattle.dsdl_codec.specs.declared.vote_request.VoteRequest.{VoteRequest}
use Rattle.dsdl_codec.specs.Allocation.{allocation_of}
use Rattle.dsdl_codec.specs.AppendAnswer.{append_answer_bytes, append_answer_of}
use Rattle.dsdl_codec.specs.AppendRequest.{append_request_of}
use Rattle.dsdl_codec.specs.Discovery.{discovery_of}
use Rattle.dsdl_codec.specs.NodeInfo.{node_info_of}
use Rattle.dsdl_codec.specs.NodeStatus.{node_status_of}
use Rattle.dsdl_codec.specs.VoteAnswer.{vote_answer_bytes, vote_answer_of}
use Rattle.dsdl_codec.specs.VoteRequest.{vote_request_of}
use Rattle.id_selector.specs.Choice.{chosen}
use Rattle.node_discovery.specs.History.{Asked, Status, Taken, identity}
use Rattle.node_discovery.specs.History as nodes
use Rattle.node_discovery.specs.Watch.{history, Watched, devices, is_due as is_node_due, next_query, some_unknown}
use Rattle.raft_core.specs.Calls.{owed}
use Rattle.raft_core.specs.Handled as handled
use Rattle.raft_core.specs.Times.{HandedIn, given_at, given_proposal, given_tick, has_waited, is_awaited, overdue}
use Rattle.raft_model.specs.Decisions.{grants, verdict_on}
use Rattle.raft_model.specs.Duty.{tick_phase}
use Rattle.raft_model.specs.Moves.{next_entry, Move}
use Rattle.raft_model.specs.Lists.{In}
use Rattle.raft_model.specs.Messages.{Answer, Request}
use Rattle.raft_model.specs.Messages.Message.{Answers, Requests}
use Rattle.raft_model.specs.Moves.Appending.{Verdict, is_accepted}
use Rattle.raft_model.specs.Moves.Elections.{is_leader, with_term}
use Rattle.raft_model.specs.Moves.Leading.{answer_to, append_request, vote_request}
use Rattle.raft_model.specs.Moves.Move.{AnswerAgain, CallForVote, CallToAppend, TakeAppendRequest, TakeVoteRequest, TellNothing, TellPair}
use Rattle.transfer_rx.specs.Reassembly.{Answer as Received, Arrival, Delivery, Setting}
use Rattle.transfer_rx.specs.Reassembly.Answer.{Continues, Drops, Gives}
use Rattle.transfer_rx.specs.Reassembly as rx
use Rattle.alloc_spec.specs.Delivered.{StepResult, asks_info, by_kind, delivery_phase, hears_discovery, hears_status, reads, request, response}
use Rattle.alloc_spec.specs.Delivered as delivered
use Rattle.alloc_spec.specs.Ending.{append_call_bytes, calls_all, calls_by, calls_owed, calls_peer, call_phase, commit_phase, end_phase, has_to_tell, tell_phase, tells_next, vote_call_bytes}
use Rattle.alloc_spec.specs.Exchange.{allocation_payload, answers_or_records, answers_request, gives_entry, gives_pair, hears_allocation, hears_whole, may_follow, records, records_at, with_request}
use Rattle.alloc_spec.specs.StepState.{StepState, with_transfer, initial_state, with_moves, with_allocator}
use Rattle.alloc_spec.specs.Services.{answers_append_request, answers_call, answers_vote_request, append_answered, ends_append_call, ends_vote_call, hears_info, is_listed, takes_append_answer, takes_append_request, takes_vote_answer, takes_vote_request, vote_answered}
use Rattle.alloc_spec.specs.Accepted.{setting_for}
use Rattle.alloc_spec.specs.Step.{Event, all_nodes, at_step, at_moment, begin_phase, event_phase, expiry_phase, moment_of, step, with_answer, with_sessions}
use Rattle.alloc_spec.specs.Step.Event.{Rx, Tick}
use Rattle.alloc_spec.specs.Tick.{asks, candidate, discovery_phase, election_phase, new_uid, query_phase, record_phase, records_as, records_node, status_phase, tells_members, tells_status, clock_phase, with_query}
use Rattle.alloc_spec.specs.AllocatorState.{AllocatorState, is_zero, known, knows_all, may_propose, members_of, recorded_at, start_of, taken}
use Rattle.raft_model.specs.Server.{RaftServer}
use Rattle.alloc_spec.specs.Transfers.{GivenPair, has_room, id_of, kind_of}
use Rattle.alloc_spec.proofs.Blanks.{adds_blank, move_with_blank, tick_with_blank}
use Rattle.alloc_spec_laws.specs.Saying.{IsSaid}
use Rattle.alloc_spec_laws.proofs.CalledPeers.{CallsPeer, IsQuiet, commit_quiet, expire_quiet, owes_peer, tick_quiet}
use Rattle.alloc_spec_laws.proofs.Choices.{and_right, either, eq_false, eq_true, lt_true}
use Rattle.alloc_spec_laws.proofs.GivenPairs.{allocation_gives, follow_up_gives, message_gives}
use Rattle.alloc_spec_laws.proofs.LogGrowth.{IsDecided, commit_decided, expire_decided, tick_decided}
use Rattle.alloc_spec_laws.proofs.KeptByChanges.{IsSentTo, IsServed, IsTick, Keeping, MakesCall}
use Rattle.alloc_spec_laws.proofs.Lists.{found, in_range}
use Rattle.alloc_spec_laws.proofs.Logs.{no_zeros, told_at}
use Rattle.alloc_spec_laws.proofs.Peers.{list_peers, members_list}
use Rattle.alloc_spec_laws.proofs.Uids.{IsWholeOf, answers_whole, info_has_uid, told_is}

asked_device : (events : List Watched) (known : List Bool) (now node : ℕ) → next_query events known now ≡ Some node → (1 ≤ node) × (node ≤ 125)
unfolding next_query
asked_device events known now node e =
    let i = in_range 1 125 node (found (λ n. is_node_due events known n now) devices node e).1 in (i.0, omega (arith, i.1))

module _ (number : ℕ) (event : Event) (Keeps : StepState → Type 0) (IsEnabled : Delivery → Type 0) (k : Keeping number event Keeps IsEnabled) where
  -- a blank is an entry with a unique ID of zeros
  blank_keeps : (given : HandedIn) (g : StepState) → Keeps g → Keeps (adds_blank number given g)
  blank_keeps given g h = k.proposes_keep given zeros 0 g (inr (inr refl)) h

  -- ---- a tick

  discovery_keeps : (g : StepState) → IsTick event → Keeps g → Keeps (discovery_phase number g)
  discovery_keeps g tick h =
      either Keeps (is_due (start_of g.allocator) g.allocator.heard g.allocator.now) (tells_members number g) g
      (λ e. k.tells_keep _ (k.sends_keep Disc 0 _ None g (record { destination = refl; said = (refl, refl); told = λ e. (tick, refl); gives = λ given e. absurd (cc (e.kind)) }) h)) (λ e. h)

  status_keeps : (g : StepState) → Keeps g → Keeps (status_phase number g)
  status_keeps g h =
      either Keeps (nat_le 1000 (g.allocator.now - g.allocator.status_at)) (tells_status number g) g
      (λ e. k.changes_keep _ _ (record { start = refl; raft_server = refl; times = refl; now = refl; queue = refl; ids = refl; heard = refl; watch = refl; counting = refl }) (k.sends_keep Stat 0 _ None g (record { destination = refl; said = (refl, refl); told = λ e. absurd (cc (e)); gives = λ given e. absurd (cc (e.kind)) }) h)) (λ e. h)

  record_keeps : (g : StepState) → Keeps g → Keeps (record_phase number g)
  record_keeps g h =
      either Keeps (may_propose g.allocator) (records_node number (candidate g.allocator) g) g (λ e. go (candidate g.allocator)) (λ e. h)
    where
      recorded : (node : ℕ) (uid : Option (List ℕ)) → new_uid g.allocator node ≡ uid → Keeps (records_as number node uid g)
      recorded node None e = k.proposes_keep (given_proposal g.allocator.now 3) zeros node g (inr (inr refl)) h
      recorded node (Some uid) e = k.proposes_keep (given_proposal g.allocator.now 2) uid node g (inr (inl (node, told_is g.allocator.raft_server.store.log (identity (history node g.allocator.watch) g.allocator.now) uid e))) h

      go : (node : Option ℕ) → Keeps (records_node number node g)
      go None = h
      go (Some node) = recorded node (new_uid g.allocator node) refl

  asks_keeps_one : (node : Option ℕ) (g : StepState) → ((n : ℕ) → node ≡ Some n → (1 ≤ n) × (n ≤ 125)) → Keeps g → Keeps (asks number node g)
  asks_keeps_one None g device h = h
  asks_keeps_one (Some node) g device h =
      let d = device node refl in
      let s = k.sends_keep InfoQ node [] None g
      (record { destination = (d.0, omega (arith, d.1)); said = (refl, refl); told = λ e. absurd (cc (e)); gives = λ given e. absurd (cc (e.kind)) }) h in
      either Keeps (has_room g.allocator.queue []) (with_query node (id_of g.allocator.ids InfoQ node) (with_transfer number InfoQ node [] None g))
      (with_transfer number InfoQ node [] None g) (λ e. k.watches_keep node (Asked (id_of g.allocator.ids InfoQ node) g.allocator.now) (with_transfer number InfoQ node [] None g) tt s) (λ e. s)

  query_keeps : (g : StepState) → Keeps g → Keeps (query_phase number g)
  query_keeps g h =
      either Keeps (is_leader g.allocator.raft_server.memory.role) (asks number (next_query g.allocator.watch (known g.allocator) g.allocator.now) g) g
      (λ e. asks_keeps_one (next_query g.allocator.watch (known g.allocator) g.allocator.now) g (asked_device g.allocator.watch (known g.allocator) g.allocator.now) h) (λ e. h)

  election_keeps : (word : ℕ) (g : StepState) → Keeps g → Keeps (election_phase number word g)
  election_keeps word g h =
      let waited : Bool = knows_all g.allocator && has_waited g.allocator.times g.allocator.now in
      let given : HandedIn = given_tick g.allocator.now word in
      let ticked : StepState = with_moves number given (tick_phase waited g.allocator.raft_server) g in
      let keeps : Keeps ticked = k.takes_keep given (tick_phase waited g.allocator.raft_server) g (tick_quiet waited g.allocator.raft_server)
      (tick_decided (members_of g.allocator) g.allocator.me number waited g.allocator.raft_server) h in
      tick_with_blank Keeps number word g keeps (λ moment. blank_keeps given ticked keeps)

  ticks_keep : (word : ℕ) (g : StepState) → IsTick event → Keeps g → Keeps (clock_phase number word g)
  ticks_keep word g tick h =
      query_keeps (record_phase number (election_phase number word (status_phase number (discovery_phase number g))))
      (record_keeps (election_phase number word (status_phase number (discovery_phase number g)))
      (election_keeps word (status_phase number (discovery_phase number g))
      (status_keeps (discovery_phase number g) (discovery_keeps g tick h))))

  -- ---- a delivered transfer

  -- a pair that is given, of a committed place
  abbrev IsGiving : Move → Type 0
  IsGiving move = IsQuiet move × ((members : List ℕ) (me : ℕ) (server : RaftServer) → IsDecided members me server move)

  gives_keeps : (move : Move) (place : ℕ) (g : StepState) → IsGiving move → place < g.allocator.raft_server.store.commit
      → (slice_index_or g.allocator.raft_server.store.log place (blank 0)).uid ≢ zeros → Keeps g
      → Keeps (gives_entry number move (slice_index_or g.allocator.raft_server.store.log place (blank 0)) g)
  gives_keeps move place g giving low some h =
      let entry : Entry = slice_index_or g.allocator.raft_server.store.log place (blank 0) in
      let s = k.sends_keep Alloc 0 (allocation_payload entry.node entry.uid) None g
      (record {
        destination = refl;
        said = (refl, refl);
        told = λ e. absurd (cc (e));
        gives = λ given e. let is = (allocation_gives entry.node entry.uid given e).1 in record {
          place = place;
          below = low;
          uid = ap (λ (pair : GivenPair). pair.0) (sym is);
          node = ap (λ (pair : GivenPair). pair.1) (sym is);
          device = λ none. some (ap (λ (pair : GivenPair). pair.0) (sym is) ∙ none);
        };
      }) h in
      either Keeps (has_room g.allocator.queue (allocation_payload entry.node entry.uid)) _ _
      (λ e. k.takes_keep _ _ _ (giving.0, tt) (giving.1 (members_of g.allocator) g.allocator.me g.allocator.raft_server, tt) s) (λ e. s)

  records_keeps : (uid : List ℕ) (preference : ℕ) (g : StepState) → length uid ≡ 16 → Keeps g → Keeps (records number uid preference g)
  records_keeps uid preference g whole h =
      either Keeps (may_propose g.allocator && not (some_unknown g.allocator.watch (known g.allocator) g.allocator.now)) (records_at number uid (chosen (taken g.allocator) preference) g) g
      (λ e. go (chosen (taken g.allocator) preference)) (λ e. h)
    where
      go : (node : Option ℕ) → Keeps (records_at number uid node g)
      go None = h
      go (Some node) = k.proposes_keep (given_proposal g.allocator.now 1) uid node g (inl whole) h

  whole_keeps : (uid : List ℕ) (preference : ℕ) (g : StepState) → length uid ≡ 16 → Keeps g → Keeps (hears_whole number uid preference g)
  whole_keeps uid preference g whole h =
      either Keeps (is_zero uid) g (answers_or_records number uid preference (recorded_at g.allocator.raft_server.store.log uid) g)
      (λ e. h) (λ some. go some (recorded_at g.allocator.raft_server.store.log uid) refl)
    where
      go : is_zero uid ≡ false → (place : Option ℕ) → recorded_at g.allocator.raft_server.store.log uid ≡ place
          → Keeps (answers_or_records number uid preference place g)
      go some None at_place = records_keeps uid preference g whole h
      go some (Some place) at_place =
          either Keeps (nat_lt place g.allocator.raft_server.store.commit) (gives_pair number (AnswerAgain place) place g) g
          (λ e. gives_keeps (AnswerAgain place) place g (tt, λ members me server. tt) (lt_true place g.allocator.raft_server.store.commit e)
          (λ none. no_zeros uid some (sym (told_at g.allocator.raft_server.store.log uid place at_place) ∙ none)) h) (λ e. h)

  heard_keeps : (heard : Heard) (g : StepState) → IsWholeOf heard → Keeps g → Keeps (answers_request number heard g)
  heard_keeps (FollowUp bytes) g whole h =
      k.sends_keep Alloc 0 (allocation_payload 0 bytes.items) None g
      (record { destination = refl; said = (refl, refl); told = λ e. absurd (cc (e)); gives = λ given e. absurd (follow_up_gives bytes.items given e) }) h
  heard_keeps (Whole uid preference) g whole h = whole_keeps uid preference g whole h
  heard_keeps (Ignored why) g whole h = h
  heard_keeps Denied g whole h = h

  call_keeps : (move : Request → Move) (call : Option Request) (g : StepState) → ((request : Request) → IsGiving (move request)) → Keeps g
      → Keeps (answers_call number move call g)
  call_keeps move None g giving h = h
  call_keeps move (Some request) g giving h =
      let given : HandedIn = given_at g.allocator.now in
      let ended : StepState = with_moves number given (move request ∷ []) g in
      let keeps : Keeps ended = k.takes_keep given (move request ∷ []) g ((giving request).0, tt)
      ((giving request).1 (members_of g.allocator) g.allocator.me g.allocator.raft_server, tt) h in
      move_with_blank Keeps number given (move request) g keeps (λ moment. blank_keeps given ended keeps)

  reads_keeps : {A : Type 0} (does : A → StepState → StepState) (value : Option A) (g : StepState) → Keeps g → ((found : A) → value ≡ Some found → Keeps (does found g))
      → Keeps (reads does value g).step_state
  reads_keeps does None g h f = h
  reads_keeps does (Some value) g h f = f value refl

  asks_keeps : (d : Delivery) (bytes : List ℕ) (g : StepState) → d.ident.kind ≡ RequestKind → d.ident.number ≡ 1 → IsEnabled d → Keeps g
      → Keeps (asks_info number d bytes g).step_state
  asks_keeps d [] g is one comes h =
      k.responds_keep Info d _ None g comes (record { is = refl; kind = is; service = one; said = refl; asked = tt }) h
  asks_keeps d (byte ∷ bytes) g is one comes h = h

  message_keeps : (d : Delivery) (g : StepState) → d.ident.kind ≡ Broadcast → IsEnabled d → Keeps g → Keeps (delivered.message d g).step_state
  message_keeps d g is comes h =
      either (λ (s : StepResult). Keeps s.step_state) (nat_eq d.ident.number 341) (reads (λ status. hears_status d) (node_status_of d.payload) g)
      (reads (hears_discovery d) (discovery_of d.payload) g)
      (λ e. reads_keeps (λ status. hears_status d) (node_status_of d.payload) g h
      (λ status read. either (λ (events : List Watched). Keeps (with_allocator (record g.allocator { watch = events }) g)) (nat_le 1 d.ident.source && nat_le d.ident.source 125)
      _ _ (λ e. k.watches_keep d.ident.source (Status g.allocator.now) g tt h) (λ e. h)))
      (λ e. reads_keeps (hears_discovery d) (discovery_of d.payload) g h (λ message read. k.hears_keep d message g comes is e read h))

  vote_keeps : (d : Delivery) (asked : VoteRequest) (g : StepState) → d.ident.kind ≡ RequestKind → IsServed Vote d.ident.number → IsEnabled d
      → vote_request_of d.payload ≡ Some asked → is_listed d g.allocator ≡ true → Keeps g → Keeps (answers_vote_request number d asked g)
  vote_keeps d asked g is served comes read listed h =
      let request = handled.vote_request_of asked d.mark.step d.ident.source g.allocator.me in
      let store = with_term g.allocator.raft_server.store request.term in
      let granted : Bool = grants store request in
      let answer : Answer = answer_to g.allocator.me number store request granted in
      k.responds_keep Vote d (vote_answer_bytes (record { term = store.term; granted = granted }) 0) (Some (Answers answer))
      (with_moves number (given_at g.allocator.now) (TakeVoteRequest request granted ∷ []) g) comes
      (record {
        is = refl;
        kind = is;
        service = served;
        said = record { answer = answer; is = refl; step = refl; from = refl; receiver = refl; answers = refl; asked = refl; service = refl; written = refl };
        asked = record { listed = listed; asked = asked; read = read; answer = answer; is = refl; request = refl };
      })
      (k.takes_keep (given_at g.allocator.now) (TakeVoteRequest request granted ∷ []) g (tt, tt) (tt, tt) h)

  append_keeps : (d : Delivery) (asked : AppendRequest) (g : StepState) → d.ident.kind ≡ RequestKind → IsServed App d.ident.number → IsEnabled d
      → append_request_of d.payload ≡ Some asked → is_listed d g.allocator ≡ true → Keeps g → Keeps (answers_append_request number d asked g)
  append_keeps d asked g is served comes read listed h =
      let request = handled.append_request_of asked d.mark.step d.ident.source g.allocator.me in
      let store = with_term g.allocator.raft_server.store request.term in
      let verdict : Verdict = verdict_on g.allocator.raft_server request in
      let answer : Answer = answer_to g.allocator.me number store request (is_accepted verdict) in
      k.responds_keep App d (append_answer_bytes (record { term = store.term; success = is_accepted verdict }) 0) (Some (Answers answer))
      (with_moves number (given_at g.allocator.now) (TakeAppendRequest request verdict ∷ []) g) comes
      (record {
        is = refl;
        kind = is;
        service = served;
        said = record { answer = answer; is = refl; step = refl; from = refl; receiver = refl; answers = refl; asked = refl; service = refl; written = refl };
        asked = record { listed = listed; asked = asked; read = read; answer = answer; is = refl; request = refl };
      })
      (k.takes_keep (given_at g.allocator.now) (TakeAppendRequest request verdict ∷ []) g (tt, tt) (refl, tt) h)

  request_keeps : (d : Delivery) (g : StepState) → d.ident.kind ≡ RequestKind → IsEnabled d → Keeps g → Keeps (request number d g).step_state
  request_keeps d g is comes h =
      either (λ (s : StepResult). Keeps s.step_state) (nat_eq d.ident.number 1) (asks_info number d d.payload g) _
      (λ one. asks_keeps d d.payload g is (eq_true d.ident.number 1 one) comes h)
      (λ one. either (λ (s : StepResult). Keeps s.step_state) (nat_eq d.ident.number 30) (reads (takes_append_request number d) (append_request_of d.payload) g)
      (reads (takes_vote_request number d) (vote_request_of d.payload) g)
      (λ thirty. reads_keeps (takes_append_request number d) (append_request_of d.payload) g h (λ asked read.
      either Keeps (is_listed d g.allocator) _ g (λ listed. append_keeps d asked g is (eq_true d.ident.number 30 thirty) comes read listed h) (λ e. h)))
      (λ thirty. reads_keeps (takes_vote_request number d) (vote_request_of d.payload) g h (λ asked read.
      either Keeps (is_listed d g.allocator) _ g
      (λ listed. vote_keeps d asked g is (eq_false d.ident.number 1 one, eq_false d.ident.number 30 thirty) comes read listed h) (λ e. h))))

  response_keeps : (d : Delivery) (g : StepState) → Keeps g → Keeps (response number d g).step_state
  response_keeps d g h =
      either (λ (s : StepResult). Keeps s.step_state) (nat_eq d.ident.number 1) (reads (hears_info d) (node_info_of d.payload) g) _
      (λ e. reads_keeps (hears_info d) (node_info_of d.payload) g h (λ info read. either (λ (events : List Watched). Keeps (with_allocator (record g.allocator { watch = events }) g))
      (nodes.takes (history d.ident.source g.allocator.watch) d.id g.allocator.now) _ _
      (λ e. k.watches_keep d.ident.source (Taken info.uid g.allocator.now) g (info_has_uid d.payload info read) h) (λ e. h)))
      (λ e. either (λ (s : StepResult). Keeps s.step_state) (nat_eq d.ident.number 30) (reads (takes_append_answer number d) (append_answer_of d.payload) g)
      (reads (takes_vote_answer number d) (vote_answer_of d.payload) g)
      (λ e. reads_keeps (takes_append_answer number d) (append_answer_of d.payload) g h (λ says read.
      either Keeps (is_listed d g.allocator) (ends_append_call number d says g) g
      (λ e. either Keeps (is_awaited g.allocator.raft_server g.allocator.times d.ident.source true d.id) _ g
      (λ e. call_keeps (append_answered d says) (g.allocator.raft_server.memory.pending d.ident.source) g (λ request. (tt, λ members me server. tt)) h) (λ e. h)) (λ e. h)))
      (λ e. reads_keeps (takes_vote_answer number d) (vote_answer_of d.payload) g h (λ says read.
      either Keeps (is_listed d g.allocator) (ends_vote_call number d says g) g
      (λ e. either Keeps (is_awaited g.allocator.raft_server g.allocator.times d.ident.source false d.id) _ g
      (λ e. call_keeps (vote_answered d says) (g.allocator.raft_server.memory.pending d.ident.source) g (λ request. (tt, λ members me server. tt)) h) (λ e. h)) (λ e. h))))

  kind_keeps : (d : Delivery) (kind : Kind) (g : StepState) → d.ident.kind ≡ kind → IsEnabled d → Keeps g → Keeps (by_kind number d kind g).step_state
  kind_keeps d Anonymous g is comes h = reads_keeps (hears_allocation number) (allocation_of d.payload) g h
      (λ message read. heard_keeps (answer g.allocator.accepted message g.allocator.now (may_follow g.allocator)) (with_request message g)
      (answers_whole g.allocator.accepted message g.allocator.now (may_follow g.allocator))
      (k.changes_keep _ g (record { start = refl; raft_server = refl; times = refl; now = refl; queue = refl; ids = refl; heard = refl; watch = refl; counting = refl }) h))
  kind_keeps d Broadcast g is comes h = message_keeps d g is comes h
  kind_keeps d RequestKind g is comes h = request_keeps d g is comes h
  kind_keeps d Response g is comes h = response_keeps d g h

  delivers_keeps : (d : Delivery) (g : StepState) → IsEnabled d → Keeps g → Keeps (delivery_phase number d g).step_state
  unfolding delivery_phase
  delivers_keeps d g comes h = kind_keeps d d.ident.kind g refl comes h

  -- ---- the end

  pub tell_keeps : (g : StepState) → Keeps g → Keeps (tell_phase number g)
  tell_keeps g h =
      either Keeps (has_to_tell g.allocator.raft_server) (tells_next number g) g
      (λ e. either Keeps (is_zero (next_entry g.allocator.raft_server).uid) _ _
      (λ z. k.takes_keep (given_at g.allocator.now) (TellNothing ∷ []) g (tt, tt) (tt, tt) h)
      (λ z. gives_keeps TellPair g.allocator.raft_server.memory.told g (tt, λ members me server. tt)
      (lt_true g.allocator.raft_server.memory.told g.allocator.raft_server.store.commit (and_right (is_leader g.allocator.raft_server.memory.role) _ e))
      (no_zeros (next_entry g.allocator.raft_server).uid z) h)) (λ e. h)

  by_call_keeps : (what : What) (peer : ℕ) (move : Move) (request : Request) (payload : List ℕ) (g : StepState) → kind_of what ≡ RequestKind
      → (1 ≤ peer) × (peer ≤ 125) → IsSaid number g.allocator.me what peer 0 payload (Some (Requests request))
      → MakesCall number g.allocator.me g.allocator what peer move request → Keeps g → Keeps (calls_by number what peer move request payload g)
  by_call_keeps what peer move request payload g is device said makes h =
      let s = k.sends_keep what peer payload (Some (Requests request)) g
      (record {
        destination = subst (λ (kind : Kind). IsSentTo kind peer) (sym is) (device.0, omega (arith, device.1));
        said = said;
        told = λ e. absurd (cc (is, e));
        gives = λ given e. absurd (cc (is, message_gives what payload given e));
      }) h in
      either Keeps (has_room g.allocator.queue payload) _ _ (λ fits. k.calls_keep what peer move request payload g makes fits s) (λ e. s)

  owed_keeps : (peer : ℕ) (call : Option Move) (g : StepState) → CallsPeer peer call → (1 ≤ peer) × (peer ≤ 125) → Keeps g
      → Keeps (calls_owed number call g)
  owed_keeps peer None g is device h = h
  owed_keeps peer (Some (CallForVote node)) g is device h =
      let request : Request = vote_request g.allocator.me number g.allocator.raft_server.store node in
      by_call_keeps VoteQ node (CallForVote node) request (vote_call_bytes request) g refl (subst (λ (n : ℕ). (1 ≤ n) × (n ≤ 125)) (sym is) device)
      (record { request = request; is = refl; step = refl; from = refl; receiver = refl; service = refl; written = refl }, refl)
      (record { carried = refl; step = refl; other = λ entry e. cc (e); nothing = λ members. refl; memory = λ members. refl; sending = λ members given times. refl }) h
  owed_keeps peer (Some (CallToAppend node previous with_entry)) g is device h =
      let request : Request = append_request g.allocator.me number g.allocator.raft_server.store node previous with_entry in
      by_call_keeps AppQ node (CallToAppend node previous with_entry) request (append_call_bytes request) g refl
      (subst (λ (n : ℕ). (1 ≤ n) × (n ≤ 125)) (sym is) device)
      (record { request = request; is = refl; step = refl; from = refl; receiver = refl; service = refl; written = refl }, refl)
      (record { carried = refl; step = refl; other = λ entry e. cc (e); nothing = λ members. refl; memory = λ members. refl; sending = λ members given times. refl }) h
  owed_keeps peer (Some move) g is device h = h

  calls_keep : (peers : List ℕ) (g : StepState) → ((peer : ℕ) → In peer peers → (1 ≤ peer) × (peer ≤ 125)) → Keeps g
      → Keeps (calls_all number peers g)
  calls_keep [] g low h = h
  calls_keep (peer ∷ peers) g low h = calls_keep peers (calls_peer number peer g) (λ p i. low p (inr i))
      (owed_keeps peer (owed g.allocator.raft_server g.allocator.times peer g.allocator.now) g (owes_peer g.allocator.raft_server g.allocator.times peer g.allocator.now)
      (low peer (inl refl)) h)

  call_phase_keeps : (g : StepState) → Keeps g → Keeps (call_phase number g)
  call_phase_keeps g h = calls_keep (drop 1 (members_of g.allocator)) g
      (list_peers (start_of g.allocator).size (start_of g.allocator).me (members_of g.allocator) (members_list (start_of g.allocator) g.allocator.heard)).devices h

  ends_keep : (g : StepState) → Keeps g → Keeps (end_phase number g)
  ends_keep g h = call_phase_keeps (tell_phase number (commit_phase number g)) (tell_keeps (commit_phase number g)
      (k.takes_keep _ _ g (commit_quiet (members_of g.allocator) g.allocator.me g.allocator.raft_server) (commit_decided (members_of g.allocator) g.allocator.me number g.allocator.raft_server) h))

  -- ---- the number

  pub gives_up_keeps : (g : StepState) → Keeps g → Keeps (expiry_phase number g)
  gives_up_keeps g h =
      k.takes_keep (given_at g.allocator.now) (handled.moves_of_expire (overdue g.allocator.times g.allocator.now all_nodes)) g
      (expire_quiet (overdue g.allocator.times g.allocator.now all_nodes))
      (expire_decided (members_of g.allocator) g.allocator.me number (overdue g.allocator.times g.allocator.now all_nodes) g.allocator.raft_server) h

  answer_keeps : (answer : Received) (g : StepState) → ((d : Delivery) → answer ≡ Gives d → IsEnabled d) → Keeps g
      → Keeps (with_answer number answer g).step_state
  answer_keeps (Gives d) g comes h = delivers_keeps d g (comes d refl) h
  answer_keeps Continues g comes h = h
  answer_keeps (Drops why) g comes h = h

  -- what the receiver gives of a frame comes
  abbrev pub ComesOf : StepState → Type 0
  ComesOf g = (arrival : Arrival) → event ≡ Rx arrival → (d : Delivery)
      → rx.answer (setting_for g.allocator.me) g.allocator.sessions (at_step g.allocator arrival) ≡ Gives d → IsEnabled d

  keeps_at : (e : Event) (g : StepState) → e ≡ event → ComesOf g → Keeps g → Keeps (event_phase number e g).step_state
  keeps_at (Tick now word) g same comes h = ticks_keep word g (subst IsTick same tt) h
  keeps_at (Rx arrival) g same comes h = answer_keeps _ (with_sessions arrival g) (comes arrival (sym same))
      (k.changes_keep _ g (record { start = refl; raft_server = refl; times = refl; now = refl; queue = refl; ids = refl; heard = refl; watch = refl; counting = refl }) h)

  pub event_keeps : (g : StepState) → ComesOf g → Keeps g → Keeps (event_phase number event g).step_state
  event_keeps g comes h = keeps_at event g refl comes h

  pub step_keeps : (t : AllocatorState) → ComesOf (begin_phase number (moment_of event) t) → Keeps (initial_state (at_moment (moment_of event) t))
      → Keeps (step t number event).step_state
  unfolding step
  step_keeps t comes h =
      ends_keep (event_phase number event (begin_phase number (moment_of event) t)).step_state
      (event_keeps (begin_phase number (moment_of event) t) comes (gives_up_keeps (initial_state (at_moment (moment_of event) t)) h))
