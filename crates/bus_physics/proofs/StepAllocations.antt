-- Each Allocation of a step has 17 bytes at the most, where the unique IDs of the log have 16 before it and after it; and
-- what is no Allocation, no request of Raft and no response of GetNodeInfo has 7 bytes at the most.
use Rattle.std.proofs.Common.{◌≡◌, ℕ, zero, suc, ◌+◌, ◌≤◌, Bool, true, false, List, [], ◌∷◌, ◌++◌, length, length-append, refl, sym, subst, ◌∙◌, arith, ◌⊎◌, inl, inr, Option, Some, None, drop}
use Rattle.std.specs.Prelude.{⊤, ◌-◌, ◌&&◌, max, not, nat_eq, nat_le, nat_lt, slice_index_or}
use Rattle.alloc_exchange.specs.declared.heard.Heard.{Heard}
use Rattle.alloc_exchange.specs.declared.heard.Heard.TheVariants.{Denied, FollowUp, Ignored, Whole}
use Rattle.alloc_exchange.specs.declared.stage.Stage.{Stage}
use Rattle.alloc_exchange.specs.declared.stage.Stage.TheVariants.{First, Second, Third}
use Rattle.alloc_exchange.specs.Exchange.{Accepted, answer, bytes_before, bytes_so_far, has_length, is_expected, is_whole, recent_requests, response, stage_length, stage_of, with_request as accepting}
use Rattle.can_frame.specs.declared.entry.Entry.{Entry}
use Rattle.can_frame.specs.declared.identifier.Kind.{Kind}
use Rattle.can_frame.specs.declared.identifier.Kind.TheVariants.{Anonymous, Message as Broadcast, Request as RequestKind, Response}
use Rattle.can_frame.specs.declared.step.What.{What}
use Rattle.can_frame.specs.declared.step.What.TheVariants.{Alloc, App, AppQ, Disc, Info, InfoQ, Stat, Vote, VoteQ}
use Rattle.can_frame.specs.Log.{blank}
use Rattle.cluster_discovery.specs.Members.{is_due}
use Rattle.dsdl_codec.specs.declared.allocation.Allocation.{Allocation}
use Rattle.dsdl_codec.specs.Allocation.{allocation_of}
use Rattle.dsdl_codec.specs.AppendAnswer.{append_answer_bytes, append_answer_of}
use Rattle.dsdl_codec.specs.AppendRequest.{append_request_of}
use Rattle.dsdl_codec.specs.Discovery.{discovery_bytes, discovery_of}
use Rattle.dsdl_codec.specs.NodeInfo.{node_info_bytes, node_info_of}
use Rattle.dsdl_codec.specs.NodeStatus.{node_status_bytes, node_status_of}
use Rattle.dsdl_codec.specs.VoteAnswer.{vote_answer_bytes, vote_answer_of}
use Rattle.dsdl_codec.specs.VoteRequest.{vote_request_of}
use Rattle.id_selector.specs.Choice.{chosen}
use Rattle.node_discovery.specs.Watch.{next_query, some_unknown}
use Rattle.raft_core.specs.Calls.{owed}
use Rattle.raft_core.specs.Handled.{append_request_of as asked_append, moves_of_expire, vote_request_of as asked_vote}
use Rattle.raft_core.specs.Times.{given_at, is_awaited, overdue}
use Rattle.raft_model.specs.Decisions.{grants, verdict_on}
use Rattle.raft_model.specs.Handlers.{server_after_all}
use Rattle.raft_model.specs.Lists.{In}
use Rattle.raft_model.specs.Messages.{Message, Request}
use Rattle.raft_model.specs.Messages.Message.{Answers, Requests}
use Rattle.raft_model.specs.Moves.{Move, next_entry}
use Rattle.raft_model.specs.Moves.Appending.{Verdict, is_accepted}
use Rattle.raft_model.specs.Moves.Elections.{is_leader, with_term}
use Rattle.raft_model.specs.Moves.Leading.{answer_to, append_request, vote_request}
use Rattle.raft_model.specs.Moves.Move.{AnswerAgain, CallForVote, CallToAppend, TakeAppendRequest, TakeVoteRequest, TellPair}
use Rattle.raft_model.specs.Server.{RaftServer, Store}
use Rattle.transfer_rx.specs.Reassembly.{Answer, Continues, Delivery, Drops, Gives}
use Rattle.alloc_spec.specs.Delivered.{StepResult, asks_info, by_kind, delivery_phase, hears_discovery, hears_status, reads, request, response as answered}
use Rattle.alloc_spec.specs.Delivered as delivered
use Rattle.alloc_spec.specs.Ending.{append_call_bytes, calls_all, calls_by, calls_owed, calls_peer, commit_phase, has_to_tell, tell_phase, tells_next, vote_call_bytes}
use Rattle.alloc_spec.specs.Exchange.{allocation_payload, answers_or_records, answers_request, gives_pair, hears_allocation, hears_whole, may_follow, records_at, with_request}
use Rattle.alloc_spec.specs.Services.{answers_append, answers_call, answers_vote, append_answered, ends_append_call, ends_vote_call, hears_info, info_of, is_listed, takes_append_answer, takes_append_request, takes_vote_answer, takes_vote_request, vote_answered}
use Rattle.alloc_spec.specs.Step.{Event, all_nodes, at_moment, begin_phase, event_phase, moment_of, step, with_answer, with_sessions}
use Rattle.alloc_spec.specs.Step.Event.{Rx, Tick}
use Rattle.alloc_spec.specs.StepState.{StepState, with_moves, with_response_to, with_transfer}
use Rattle.alloc_spec.specs.Tick.{asks, candidate, clock_phase, discovery_of as own_discovery, discovery_phase, election_phase, new_uid, query_phase, record_phase, records_as, records_node, status_phase, tells_members, tells_status, with_query}
use Rattle.alloc_spec.specs.AllocatorState.{AllocatorState, is_zero, known, may_propose, members_of, recorded_at, start_of, status_of, taken}
use Rattle.alloc_spec.specs.Transfers.{Offer, has_room, id_of}
use Rattle.alloc_spec_laws.proofs.Choices.{either, eq_true}
use Rattle.alloc_spec_laws.proofs.DistinctTransfers.{sent}
use Rattle.alloc_spec_laws.proofs.Lists.{in_append}
use Rattle.alloc_spec_laws.proofs.Peers.{members_list}
use Rattle.bus_agreement.proofs.Lists.{tell}

-- ---- unique IDs

-- each entry has a unique ID of 16 bytes
abbrev pub AreWhole : List Entry → Type 0
AreWhole log = (entry : Entry) → In entry log → length entry.uid ≡ 16

-- so has the entry at a place, which is a blank where there is none
uid_at : (log : List Entry) (place : ℕ) → AreWhole log → length (slice_index_or log place (blank 0)).uid ≡ 16
uid_at [] place whole = refl
uid_at (first ∷ rest) zero whole = whole first (inl refl)
uid_at (first ∷ rest) (suc place) whole = uid_at rest place (λ entry i. whole entry (inr i))

-- ---- follow-ups

abbrev IsShortFollowUp : Heard → Type 0
IsShortFollowUp (FollowUp bytes) = length bytes.items ≤ 16
IsShortFollowUp (Whole uid preference) = ⊤
IsShortFollowUp (Ignored why) = ⊤
IsShortFollowUp Denied = ⊤

stage_ends : (stage : Stage) → bytes_before stage + stage_length stage ≤ 16
stage_ends First = omega arith
stage_ends Second = omega arith
stage_ends Third = omega arith

collected : (accepted : List Accepted) (message : Allocation) (now : ℕ) → has_length message ≡ true → is_expected accepted message ≡ true
    → length (bytes_so_far (accepting accepted message now)) ≤ 16
collected accepted message now long expected = omega (
  arith,
  length-append (bytes_so_far accepted) message.uid.items,
  eq_true (length message.uid.items) (stage_length (stage_of message)) long,
  eq_true (length (bytes_so_far accepted)) (bytes_before (stage_of message)) expected,
  stage_ends (stage_of message),
)

responds_short : (accepted : List Accepted) (preferred : ℕ) (may : Bool) → length (bytes_so_far accepted) ≤ 16
    → IsShortFollowUp (response accepted preferred may)
responds_short accepted preferred may short =
    either IsShortFollowUp (is_whole accepted) _ _ (λ whole. tt) (λ e. either IsShortFollowUp may _ _ (λ f. short) (λ f. tt))

answers_short : (accepted : List Accepted) (message : Allocation) (now : ℕ) (may : Bool) → IsShortFollowUp (answer accepted message now may)
unfolding answer
answers_short accepted message now may = elim (tell (has_length message)) [
  | inr b ↦ rw b tt
  | inl b ↦ rw b (elim (tell (is_expected (recent_requests accepted now) message)) [
    | inr c ↦ rw c tt
    | inl c ↦ rw c (responds_short (accepting (recent_requests accepted now) message now) message.node may
        (collected (recent_requests accepted now) message now b c))
  ])
]

-- ---- offers

-- by its kind
abbrev pub IsShortAs : What → List ℕ → Type 0
IsShortAs Alloc payload = length payload ≤ 17
IsShortAs Disc payload = length payload ≤ 7
IsShortAs Stat payload = length payload ≤ 7
IsShortAs InfoQ payload = length payload ≤ 7
IsShortAs Vote payload = length payload ≤ 7
IsShortAs App payload = length payload ≤ 7
IsShortAs what payload = ⊤

abbrev pub IsShort : Offer → Type 0
IsShort offer = IsShortAs offer.what offer.payload

abbrev pub AreShort : StepState → Type 0
AreShort g = (offer : Offer) → In offer g.offers → IsShort offer

abbrev Shows : StepResult → Type 0
Shows step_result = AreShort step_result.step_state

one_more : (g later : StepState) (new : Offer) → later.offers ≡ g.offers ++ new ∷ [] → IsShort new → AreShort g → AreShort later
one_more g later new e short old offer i = elim (in_append offer g.offers (new ∷ []) (subst (λ (l : List Offer). In offer l) e i)) [
  | inl j ↦ old offer j
  | inr (inl s) ↦ subst IsShort (sym s) short
  | inr (inr j) ↦ absurd j
]

module _ (number : ℕ) where
  sends : (what : What) (to : ℕ) (payload : List ℕ) (says : Option Message) (g : StepState) → IsShortAs what payload → AreShort g
      → AreShort (with_transfer number what to payload says g)
  sends what to payload says g short old =
      one_more g (with_transfer number what to payload says g) (sent what to payload says g) refl short old

  allocates : (node : ℕ) (uid : List ℕ) (g : StepState) → length uid ≤ 16 → AreShort g
      → AreShort (with_transfer number Alloc 0 (allocation_payload node uid) None g)
  allocates node uid g short old = sends Alloc 0 (allocation_payload node uid) None g (omega (arith, short)) old

  gives : (move : Move) (place : ℕ) (g : StepState) → AreWhole g.allocator.raft_server.store.log → AreShort g → AreShort (gives_pair number move place g)
  gives move place g whole old =
      either AreShort (has_room g.allocator.queue (allocation_payload entry.node entry.uid)) _ _ (λ e. given) (λ e. given)
    where
      entry : Entry
      entry = slice_index_or g.allocator.raft_server.store.log place (blank 0)

      given : AreShort (with_transfer number Alloc 0 (allocation_payload entry.node entry.uid) None g)
      given = allocates entry.node entry.uid g (omega (arith, uid_at g.allocator.raft_server.store.log place whole)) old

  -- ---- what is delivered

  whole_heard : (uid : List ℕ) (preference : ℕ) (g : StepState) → AreWhole g.allocator.raft_server.store.log → AreShort g
      → AreShort (hears_whole number uid preference g)
  whole_heard uid preference g whole old =
      either AreShort (is_zero uid) g (answers_or_records number uid preference (recorded_at g.allocator.raft_server.store.log uid) g)
      (λ e. old) (λ e. go (recorded_at g.allocator.raft_server.store.log uid))
    where
      recorded : (node : Option ℕ) → AreShort (records_at number uid node g)
      recorded None = old
      recorded (Some node) = old

      go : (place : Option ℕ) → AreShort (answers_or_records number uid preference place g)
      go None =
          either AreShort (may_propose g.allocator && not (some_unknown g.allocator.watch (known g.allocator) g.allocator.now))
          (records_at number uid (chosen (taken g.allocator) preference) g) g (λ e. recorded (chosen (taken g.allocator) preference)) (λ e. old)
      go (Some place) =
          either AreShort (nat_lt place g.allocator.raft_server.store.commit) (gives_pair number (AnswerAgain place) place g) g
          (λ e. gives (AnswerAgain place) place g whole old) (λ e. old)

  request_heard : (heard : Heard) (g : StepState) → IsShortFollowUp heard → AreWhole g.allocator.raft_server.store.log → AreShort g
      → AreShort (answers_request number heard g)
  request_heard (FollowUp bytes) g short whole old = allocates 0 bytes.items g short old
  request_heard (Whole uid preference) g short whole old = whole_heard uid preference g whole old
  request_heard (Ignored why) g short whole old = old
  request_heard Denied g short whole old = old

  read : {A : Type 0} (does : A → StepState → StepState) (value : Option A) (g : StepState) → AreShort g → ((found : A) → AreShort (does found g))
      → AreShort (reads does value g).step_state
  read does None g old f = old
  read does (Some value) g old f = f value

  message_heard : (d : Delivery) (g : StepState) → AreShort g → Shows (delivered.message d g)
  message_heard d g old =
      either Shows (nat_eq d.ident.number 341) (reads (λ status. hears_status d) (node_status_of d.payload) g)
      (reads (hears_discovery d) (discovery_of d.payload) g)
      (λ e. read (λ status. hears_status d) (node_status_of d.payload) g old (λ status. old))
      (λ e. read (hears_discovery d) (discovery_of d.payload) g old (λ message. old))

  responds : (what : What) (d : Delivery) (payload : List ℕ) (says : Option Message) (g : StepState) → IsShortAs what payload → AreShort g
      → AreShort (with_response_to number what d payload says g)
  responds what d payload says g short old = one_more g (with_response_to number what d payload says g) (record {
    what = what;
    to = d.ident.source;
    id = d.id;
    payload = payload;
    re = d.mark.step;
    says = says;
    fitted = has_room g.allocator.queue payload;
  }) refl short old

  asked : (d : Delivery) (bytes : List ℕ) (g : StepState) → AreShort g → Shows (asks_info number d bytes g)
  asked d [] g old = responds Info d (node_info_bytes (info_of g.allocator)) None g tt old
  asked d (byte ∷ bytes) g old = old

  voted : (d : Delivery) (call : Request) (g : StepState) → AreShort g → AreShort (answers_vote number d call g)
  voted d call g old =
      let store = with_term g.allocator.raft_server.store call.term in
      let granted : Bool = grants store call in
      responds Vote d (vote_answer_bytes (record { term = store.term; granted = granted }) 0) (Some (Answers (answer_to g.allocator.me number store call granted)))
      (with_moves number (given_at g.allocator.now) (TakeVoteRequest call granted ∷ []) g) (omega arith) old

  appended : (d : Delivery) (call : Request) (g : StepState) → AreShort g → AreShort (answers_append number d call g)
  appended d call g old =
      let store = with_term g.allocator.raft_server.store call.term in
      let verdict : Verdict = verdict_on g.allocator.raft_server call in
      responds App d (append_answer_bytes (record { term = store.term; success = is_accepted verdict }) 0)
      (Some (Answers (answer_to g.allocator.me number store call (is_accepted verdict))))
      (with_moves number (given_at g.allocator.now) (TakeAppendRequest call verdict ∷ []) g) (omega arith) old

  request_comes : (d : Delivery) (g : StepState) → AreShort g → Shows (request number d g)
  request_comes d g old =
      either Shows (nat_eq d.ident.number 1) (asks_info number d d.payload g) _ (λ e. asked d d.payload g old)
      (λ e. either Shows (nat_eq d.ident.number 30) (reads (takes_append_request number d) (append_request_of d.payload) g)
      (reads (takes_vote_request number d) (vote_request_of d.payload) g)
      (λ e. read (takes_append_request number d) (append_request_of d.payload) g old (λ asks.
      either AreShort (is_listed d g.allocator) _ g (λ e. appended d (asked_append asks d.mark.step d.ident.source g.allocator.me) g old) (λ e. old)))
      (λ e. read (takes_vote_request number d) (vote_request_of d.payload) g old (λ asks.
      either AreShort (is_listed d g.allocator) _ g (λ e. voted d (asked_vote asks d.mark.step d.ident.source g.allocator.me) g old) (λ e. old))))

  call_answered : (move : Request → Move) (call : Option Request) (g : StepState) → AreShort g → AreShort (answers_call number move call g)
  call_answered move None g old = old
  call_answered move (Some call) g old = old

  response_comes : (d : Delivery) (g : StepState) → AreShort g → Shows (answered number d g)
  response_comes d g old =
      either Shows (nat_eq d.ident.number 1) (reads (hears_info d) (node_info_of d.payload) g) _
      (λ e. read (hears_info d) (node_info_of d.payload) g old (λ info. old))
      (λ e. either Shows (nat_eq d.ident.number 30) (reads (takes_append_answer number d) (append_answer_of d.payload) g)
      (reads (takes_vote_answer number d) (vote_answer_of d.payload) g)
      (λ e. read (takes_append_answer number d) (append_answer_of d.payload) g old (λ says.
      either AreShort (is_listed d g.allocator) (ends_append_call number d says g) g
      (λ e. either AreShort (is_awaited g.allocator.raft_server g.allocator.times d.ident.source true d.id) _ g
      (λ e. call_answered (append_answered d says) (g.allocator.raft_server.memory.pending d.ident.source) g old) (λ e. old)) (λ e. old)))
      (λ e. read (takes_vote_answer number d) (vote_answer_of d.payload) g old (λ says.
      either AreShort (is_listed d g.allocator) (ends_vote_call number d says g) g
      (λ e. either AreShort (is_awaited g.allocator.raft_server g.allocator.times d.ident.source false d.id) _ g
      (λ e. call_answered (vote_answered d says) (g.allocator.raft_server.memory.pending d.ident.source) g old) (λ e. old)) (λ e. old))))

  comes_by : (d : Delivery) (kind : Kind) (g : StepState) → AreWhole g.allocator.raft_server.store.log → AreShort g → Shows (by_kind number d kind g)
  comes_by d Anonymous g whole old = read (hears_allocation number) (allocation_of d.payload) g old
      (λ message. request_heard (answer g.allocator.accepted message g.allocator.now (may_follow g.allocator)) (with_request message g)
      (answers_short g.allocator.accepted message g.allocator.now (may_follow g.allocator)) whole old)
  comes_by d Broadcast g whole old = message_heard d g old
  comes_by d RequestKind g whole old = request_comes d g old
  comes_by d Response g whole old = response_comes d g old

  delivers : (d : Delivery) (g : StepState) → AreWhole g.allocator.raft_server.store.log → AreShort g → Shows (delivery_phase number d g)
  unfolding delivery_phase
  delivers d g whole old = comes_by d d.ident.kind g whole old

  -- ---- the event

  by_answer : (answer : Answer) (g : StepState) → AreWhole g.allocator.raft_server.store.log → AreShort g → Shows (with_answer number answer g)
  by_answer (Gives d) g whole old = delivers d g whole old
  by_answer Continues g whole old = old
  by_answer (Drops why) g whole old = old

  discovers : (g : StepState) → g.allocator.size ≤ 5 → AreShort g → AreShort (discovery_phase number g)
  discovers g few old = either AreShort (is_due (start_of g.allocator) g.allocator.heard g.allocator.now) (tells_members number g) g
      (λ e. sends Disc 0 (discovery_bytes (own_discovery g.allocator)) None g (listed (members_list (start_of g.allocator) g.allocator.heard).few) old) (λ e. old)
    where
      listed : (length (members_of g.allocator) ≤ g.allocator.size) ⊎ (length (members_of g.allocator) ≡ 1)
          → length (discovery_bytes (own_discovery g.allocator)) ≤ 7
      listed (inl most) = omega (arith, most, few)
      listed (inr one) = omega (arith, one)

  tells_status_of : (g : StepState) → AreShort g → AreShort (status_phase number g)
  tells_status_of g old = either AreShort (nat_le 1000 (g.allocator.now - g.allocator.status_at)) (tells_status number g) g
      (λ e. sends Stat 0 (node_status_bytes (status_of g.allocator)) None g (omega arith) old) (λ e. old)

  recorded : (g : StepState) → AreShort g → AreShort (record_phase number g)
  recorded g old = either AreShort (may_propose g.allocator) (records_node number (candidate g.allocator) g) g (λ e. go (candidate g.allocator)) (λ e. old) where
    one : (node : ℕ) (uid : Option (List ℕ)) → AreShort (records_as number node uid g)
    one node None = old
    one node (Some uid) = old

    go : (node : Option ℕ) → AreShort (records_node number node g)
    go None = old
    go (Some node) = one node (new_uid g.allocator node)

  queried : (g : StepState) → AreShort g → AreShort (query_phase number g)
  queried g old = either AreShort (is_leader g.allocator.raft_server.memory.role) (asks number (next_query g.allocator.watch (known g.allocator) g.allocator.now) g) g
      (λ e. go (next_query g.allocator.watch (known g.allocator) g.allocator.now)) (λ e. old)
    where
      go : (node : Option ℕ) → AreShort (asks number node g)
      go None = old
      go (Some node) =
          let asked_it : AreShort (with_transfer number InfoQ node [] None g) = sends InfoQ node [] None g (omega arith) old in
          either AreShort (has_room g.allocator.queue []) (with_query node (id_of g.allocator.ids InfoQ node) (with_transfer number InfoQ node [] None g))
          (with_transfer number InfoQ node [] None g) (λ e. asked_it) (λ e. asked_it)

  ticks : (word : ℕ) (g : StepState) → g.allocator.size ≤ 5 → AreShort g → AreShort (clock_phase number word g)
  ticks word g few old =
      let told : AreShort (status_phase number (discovery_phase number g)) = tells_status_of (discovery_phase number g) (discovers g few old) in
      queried (record_phase number (election_phase number word (status_phase number (discovery_phase number g))))
      (recorded (election_phase number word (status_phase number (discovery_phase number g))) told)

  happens : (event : Event) (g : StepState) → g.allocator.size ≤ 5 → AreWhole g.allocator.raft_server.store.log → AreShort g → Shows (event_phase number event g)
  happens (Tick now word) g few whole old = ticks word g few old
  happens (Rx arrival) g few whole old = by_answer _ (with_sessions arrival g) whole old

  -- ---- the end

  tells : (g : StepState) → AreWhole g.allocator.raft_server.store.log → AreShort g → AreShort (tell_phase number g)
  tells g whole old =
      either AreShort (has_to_tell g.allocator.raft_server) (tells_next number g) g
      (λ e. either AreShort (is_zero (next_entry g.allocator.raft_server).uid) _ _ (λ z. old)
      (λ z. gives TellPair g.allocator.raft_server.memory.told g whole old)) (λ e. old)

  one_call : (what : What) (peer : ℕ) (move : Move) (call : Request) (payload : List ℕ) (g : StepState) → IsShortAs what payload → AreShort g
      → AreShort (calls_by number what peer move call payload g)
  one_call what peer move call payload g short old =
      either AreShort (has_room g.allocator.queue payload) _ _ (λ e. sends what peer payload (Some (Requests call)) g short old)
      (λ e. sends what peer payload (Some (Requests call)) g short old)

  some_call : (call : Option Move) (g : StepState) → AreShort g → AreShort (calls_owed number call g)
  some_call None g old = old
  some_call (Some (CallForVote peer)) g old = one_call VoteQ peer (CallForVote peer) (vote_request g.allocator.me number g.allocator.raft_server.store peer)
      (vote_call_bytes (vote_request g.allocator.me number g.allocator.raft_server.store peer)) g tt old
  some_call (Some (CallToAppend peer previous with_entry)) g old = one_call AppQ peer (CallToAppend peer previous with_entry)
      (append_request g.allocator.me number g.allocator.raft_server.store peer previous with_entry)
      (append_call_bytes (append_request g.allocator.me number g.allocator.raft_server.store peer previous with_entry)) g tt old
  some_call (Some move) g old = old

  all_calls : (peers : List ℕ) (g : StepState) → AreShort g → AreShort (calls_all number peers g)
  all_calls [] g old = old
  all_calls (peer ∷ peers) g old =
      all_calls peers (calls_peer number peer g) (some_call (owed g.allocator.raft_server g.allocator.times peer g.allocator.now) g old)

  -- ---- the log

  -- calls that are given up leave what is stored
  expired : (members : List ℕ) (me : ℕ) (nodes : List ℕ) (raft_server : RaftServer)
      → (server_after_all members me number raft_server (moves_of_expire nodes)).store ≡ raft_server.store
  expired members me [] raft_server = refl
  expired members me (node ∷ nodes) raft_server = expired members me nodes _

  abbrev LeavesLog : StepState → StepState → Type 0
  LeavesLog g later = later.allocator.raft_server.store.log ≡ g.allocator.raft_server.store.log

  log_told : (g : StepState) → LeavesLog g (tell_phase number g)
  log_told g =
      either (LeavesLog g) (has_to_tell g.allocator.raft_server) (tells_next number g) g
      (λ e. either (LeavesLog g) (is_zero (next_entry g.allocator.raft_server).uid) _ _ (λ z. refl)
      (λ z. either (LeavesLog g) (has_room g.allocator.queue (allocation_payload (next_entry g.allocator.raft_server).node (next_entry g.allocator.raft_server).uid)) _ _
      (λ r. refl) (λ r. refl))) (λ e. refl)

  log_called : (call : Option Move) (g : StepState) → LeavesLog g (calls_owed number call g)
  log_called None g = refl
  log_called (Some (CallForVote peer)) g =
      either (LeavesLog g) (has_room g.allocator.queue (vote_call_bytes (vote_request g.allocator.me number g.allocator.raft_server.store peer))) _ _ (λ r. refl) (λ r. refl)
  log_called (Some (CallToAppend peer previous with_entry)) g =
      either (LeavesLog g) (has_room g.allocator.queue (append_call_bytes (append_request g.allocator.me number g.allocator.raft_server.store peer previous with_entry))) _ _
      (λ r. refl) (λ r. refl)
  log_called (Some move) g = refl

  log_all_called : (peers : List ℕ) (g : StepState) → LeavesLog g (calls_all number peers g)
  log_all_called [] g = refl
  log_all_called (peer ∷ peers) g = log_all_called peers (calls_peer number peer g)
      ∙ log_called (owed g.allocator.raft_server g.allocator.times peer g.allocator.now) g

pub short : (t : AllocatorState) (number : ℕ) (event : Event) → t.size ≤ 5 → AreWhole t.raft_server.store.log
    → AreWhole (step t number event).step_state.allocator.raft_server.store.log → AreShort (step t number event).step_state
unfolding step
short t number event few before after =
    all_calls number (drop 1 (members_of told.allocator)) told (tells number committed at_the_end (happens number event begun few at_the_event (λ offer i. absurd i)))
  where
    begun : StepState
    begun = begin_phase number (moment_of event) t

    committed : StepState
    committed = commit_phase number (event_phase number event begun).step_state

    told : StepState
    told = tell_phase number committed

    at_the_event : AreWhole begun.allocator.raft_server.store.log
    at_the_event = subst (λ (s : Store). AreWhole s.log)
        (sym (expired number (members_of (at_moment (moment_of event) t)) t.me (overdue t.times (max t.now (moment_of event)) all_nodes) t.raft_server)) before

    at_the_end : AreWhole committed.allocator.raft_server.store.log
    at_the_end = subst AreWhole (log_all_called number (drop 1 (members_of told.allocator)) told ∙ log_told number committed) after
