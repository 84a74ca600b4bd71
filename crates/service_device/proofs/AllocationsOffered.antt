-- A step that has nothing to tell offers Allocations only to a request that comes in it, and one at most.
use Rattle.std.proofs.Common.{◌≡◌, ◌≢◌, ◌⊎◌, ℕ, Bool, true, false, List, [], ◌∷◌, ◌++◌, drop, max, refl, sym, ◌∙◌, ap, subst, arith, inl, inr, Option, None, Some}
use Rattle.std.specs.Prelude.{◌&&◌, not, if◌then◌else◌, nat_eq, nat_lt, slice_index_or}
use Rattle.alloc_exchange.specs.declared.heard.Heard.{Heard}
use Rattle.alloc_exchange.specs.declared.heard.Heard.TheVariants.{Denied, FollowUp, Ignored, Whole}
use Rattle.alloc_exchange.specs.Exchange.{answer}
use Rattle.can_frame.specs.declared.entry.Entry.{Entry}
use Rattle.can_frame.specs.declared.identifier.Kind.{Kind}
use Rattle.can_frame.specs.declared.identifier.Kind.TheVariants.{Anonymous, Message as Broadcast, Request as RequestKind, Response}
use Rattle.can_frame.specs.declared.step.What.{What}
use Rattle.can_frame.specs.declared.step.What.TheVariants.{Alloc, App, AppQ, Info, Vote, VoteQ, Disc}
use Rattle.can_frame.specs.Log.{blank}
use Rattle.dsdl_codec.specs.declared.allocation.Allocation.{Allocation}
use Rattle.dsdl_codec.specs.Allocation.{allocation_of}
use Rattle.dsdl_codec.specs.AppendAnswer.{append_answer_bytes, append_answer_of}
use Rattle.dsdl_codec.specs.AppendRequest.{append_request_of}
use Rattle.dsdl_codec.specs.Discovery.{discovery_of}
use Rattle.dsdl_codec.specs.NodeInfo.{node_info_of, node_info_bytes}
use Rattle.dsdl_codec.specs.NodeStatus.{node_status_of}
use Rattle.dsdl_codec.specs.VoteAnswer.{vote_answer_bytes, vote_answer_of}
use Rattle.dsdl_codec.specs.VoteRequest.{vote_request_of}
use Rattle.id_selector.specs.Choice.{chosen}
use Rattle.node_discovery.specs.Watch.{some_unknown}
use Rattle.raft_core.specs.Calls.{owed}
use Rattle.raft_core.specs.Handled as handled
use Rattle.raft_core.specs.Times.{given_at, is_awaited, HandedIn}
use Rattle.raft_model.specs.Lists.{In}
use Rattle.raft_model.specs.Messages.{Message, Request}
use Rattle.raft_model.specs.Messages.Message.{Answers, Requests}
use Rattle.raft_model.specs.Moves.{Move}
use Rattle.raft_model.specs.Decisions.{grants, verdict_on}
use Rattle.raft_model.specs.Moves.Appending.{Verdict, is_accepted}
use Rattle.raft_model.specs.Moves.Elections.{with_term}
use Rattle.raft_model.specs.Moves.Leading.{answer_to, append_request, vote_request}
use Rattle.raft_model.specs.Moves.Move.{AnswerAgain, CallForVote, CallToAppend, TakeAppendRequest, TakeVoteRequest}
use Rattle.transfer_rx.specs.Reassembly.{Answer, Arrival, Continues, Delivery, Drops, Gives, answer as received}
use Rattle.alloc_spec.specs.Accepted.{setting_for}
use Rattle.alloc_spec.specs.AllocatorState.{AllocatorState, is_zero, known, may_propose, members_of, recorded_at, taken}
use Rattle.alloc_spec.specs.Delivered.{StepResult, asks_info, by_kind, delivery_phase, hears_discovery, hears_status, reads, request, response}
use Rattle.alloc_spec.specs.Delivered as delivered
use Rattle.alloc_spec.specs.Ending.{append_call_bytes, call_phase, calls_all, calls_owed, calls_peer, has_to_tell, tell_phase, tells_next, vote_call_bytes}
use Rattle.alloc_spec.specs.Exchange.{allocation_payload, answers_or_records, answers_request, gives_entry, gives_pair, hears_allocation, hears_whole, may_follow, records, records_at, with_request}
use Rattle.alloc_spec.specs.Services.{answers_append, answers_append_request, answers_call, answers_vote, answers_vote_request, append_answered, ends_append_call, ends_vote_call, hears_info, is_listed, takes_append_answer, takes_append_request, takes_vote_answer, takes_vote_request, vote_answered, info_of}
use Rattle.alloc_spec.specs.Step.{Event, begin_phase, step, with_answer, with_sessions}
use Rattle.alloc_spec.specs.Step.Event.{Rx, Tick}
use Rattle.alloc_spec.specs.StepState.{StepState, with_moves, with_response, with_transfer, with_response_to}
use Rattle.alloc_spec.specs.Tick.{clock_phase}
use Rattle.alloc_spec.specs.Transfers.{Offer, has_room}
use Rattle.alloc_spec_laws.specs.Phases.{when_committed, when_seen}
use Rattle.alloc_spec_laws.proofs.Choices.{either}
use Rattle.alloc_spec_laws.proofs.TickOffers.{Upto, ticks_offer}
use Rattle.alloc_spec_laws.proofs.DistinctTransfers.{rank, sent}
use Rattle.bus_agreement.proofs.Lists.{in_append}
use Rattle.dsdl_codec.specs.declared.discovery.Discovery.{Discovery}
use Rattle.dsdl_codec.specs.declared.node_info.NodeInfo.{NodeInfo}

-- ---- the calls at its end are no Allocations

-- its Allocations are of these offers
abbrev pub From : List Offer → StepState → Type 0
From offers g = (x : Offer) → In x g.offers → x.what ≡ Alloc → In x offers

module _ (number : ℕ) (offers : List Offer) where
  more_from : (what : What) (to : ℕ) (payload : List ℕ) (says : Option Message) (g : StepState) → what ≢ Alloc → From offers g → From offers (with_transfer number what to payload says g)
  more_from what to payload says g other h x i e = elim (in_append x g.offers _ i) [
    | inl old ↦ h x old e
    | inr new ↦ elim new [ inl same ↦ absurd (other (sym (ap (λ (o : Offer). o.what) same) ∙ e)) | inr none ↦ absurd none ]
  ]

  owed_from : (call : Option Move) (g : StepState) → From offers g → From offers (calls_owed number call g)
  owed_from None g h = h
  owed_from (Some (CallForVote peer)) g h =
      let request_ : Request = vote_request g.allocator.me number g.allocator.raft_server.store peer in
      let s = more_from VoteQ peer (vote_call_bytes request_) (Some (Requests request_)) g (λ e. cc (e)) h in
      either (From offers) (has_room g.allocator.queue (vote_call_bytes request_)) _ _ (λ e. s) (λ e. s)
  owed_from (Some (CallToAppend peer previous with_entry)) g h =
      let request_ : Request = append_request g.allocator.me number g.allocator.raft_server.store peer previous with_entry in
      let s = more_from AppQ peer (append_call_bytes request_) (Some (Requests request_)) g (λ e. cc (e)) h in
      either (From offers) (has_room g.allocator.queue (append_call_bytes request_)) _ _ (λ e. s) (λ e. s)
  owed_from (Some move) g h = h

  pub calls_from : (peers : List ℕ) (g : StepState) → From offers g → From offers (calls_all number peers g)
  calls_from [] g h = h
  calls_from (peer ∷ peers) g h = calls_from peers (calls_peer number peer g) (owed_from (owed g.allocator.raft_server g.allocator.times peer g.allocator.now) g h)

-- where it has nothing to tell, its Allocations are those of its event
pub end_from : (t : AllocatorState) (number : ℕ) (event : Event) → has_to_tell (when_committed t number event).allocator.raft_server ≡ false
    → (x : Offer) → In x (step t number event).step_state.offers → x.what ≡ Alloc → In x (when_seen t number event).offers
unfolding step
end_from t number event none =
    let told : tell_phase number (when_committed t number event) ≡ when_committed t number event
    = ap (λ (b : Bool). if b then tells_next number (when_committed t number event) else when_committed t number event) none in
    subst (λ (g : StepState). From (when_seen t number event).offers (call_phase number g)) (sym told)
    (calls_from number (when_seen t number event).offers (drop 1 (members_of (when_committed t number event).allocator)) (when_committed t number event) (λ x i e. i))

-- ---- what is delivered

-- moves, responses and what is heard of a node keep it
pub record IsAnswered (number : ℕ) (Keeps : StepState → Type 0) : Type 0 where
  pub moves : (given : HandedIn) (moves : List Move) (g : StepState) → Keeps g → Keeps (with_moves number given moves g)
  pub responds : (what : What) (d : Delivery) (payload : List ℕ) (says : Option Message) (g : StepState) → what ≢ Disc → what ≢ Alloc → Keeps g
      → Keeps (with_response_to number what d payload says g)
  pub infos : (d : Delivery) (info : NodeInfo) (g : StepState) → Keeps g → Keeps (hears_info d info g)

-- so does a delivery, where the hearing of what is broadcast, and of a request of a device, keeps it
module _ (number : ℕ) (Keeps : StepState → Type 0) (k : IsAnswered number Keeps) (d : Delivery)
    (status_ : d.ident.kind ≡ Broadcast → (g : StepState) → Keeps g → Keeps (hears_status d g))
    (discovery_ : d.ident.kind ≡ Broadcast → nat_eq d.ident.number 341 ≡ false → (message : Discovery) → discovery_of d.payload ≡ Some message → (g : StepState)
    → Keeps g → Keeps (hears_discovery d message g))
    (g : StepState) (h : Keeps g)
    (request_ : d.ident.kind ≡ Anonymous → (message : Allocation) → allocation_of d.payload ≡ Some message → Keeps (hears_allocation number message g)) where
  abbrev KeepsResult : StepResult → Type 0
  KeepsResult r = Keeps r.step_state

  read : {A : Type 0} (does : A → StepState → StepState) (value : Option A) → ((v : A) → value ≡ Some v → Keeps (does v g)) → KeepsResult (reads does value g)
  read does None f = h
  read does (Some v) f = f v refl

  asking : (bytes : List ℕ) → KeepsResult (asks_info number d bytes g)
  asking [] = k.responds Info d (node_info_bytes (info_of g.allocator)) None g (λ e. cc (e)) (λ e. cc (e)) h
  asking (byte ∷ bytes) = h

  call_answered : (move : Request → Move) (call : Option Request) → Keeps (answers_call number move call g)
  call_answered move None = h
  call_answered move (Some asked) = k.moves (given_at g.allocator.now)
      (handled.with_blank (members_of g.allocator) g.allocator.me number g.allocator.times g.allocator.raft_server (move asked ∷ [])) g h

  message_comes : d.ident.kind ≡ Broadcast → KeepsResult (delivered.message d g)
  message_comes kind = either KeepsResult (nat_eq d.ident.number 341) (reads (λ status. hears_status d) (node_status_of d.payload) g)
      (reads (hears_discovery d) (discovery_of d.payload) g)
      (λ e. read (λ status. hears_status d) (node_status_of d.payload) (λ status f. status_ kind g h))
      (λ e. read (hears_discovery d) (discovery_of d.payload) (λ message f. discovery_ kind e message f g h))

  vote_comes : (asked : Request) → Keeps (answers_vote number d asked g)
  vote_comes asked =
      let store = with_term g.allocator.raft_server.store asked.term in
      let granted : Bool = grants store asked in
      k.responds Vote d (vote_answer_bytes (record { term = store.term; granted = granted }) 0)
      (Some (Answers (answer_to g.allocator.me number store asked granted)))
      (with_moves number (given_at g.allocator.now) (TakeVoteRequest asked granted ∷ []) g) (λ f. cc (f)) (λ f. cc (f))
      (k.moves (given_at g.allocator.now) (TakeVoteRequest asked granted ∷ []) g h)

  append_comes : (asked : Request) → Keeps (answers_append number d asked g)
  append_comes asked =
      let store = with_term g.allocator.raft_server.store asked.term in
      let verdict : Verdict = verdict_on g.allocator.raft_server asked in
      k.responds App d (append_answer_bytes (record { term = store.term; success = is_accepted verdict }) 0)
      (Some (Answers (answer_to g.allocator.me number store asked (is_accepted verdict))))
      (with_moves number (given_at g.allocator.now) (TakeAppendRequest asked verdict ∷ []) g) (λ f. cc (f)) (λ f. cc (f))
      (k.moves (given_at g.allocator.now) (TakeAppendRequest asked verdict ∷ []) g h)

  request_comes : KeepsResult (request number d g)
  request_comes = either KeepsResult (nat_eq d.ident.number 1) (asks_info number d d.payload g) _ (λ e. asking d.payload)
      (λ e. either KeepsResult (nat_eq d.ident.number 30) (reads (takes_append_request number d) (append_request_of d.payload) g)
      (reads (takes_vote_request number d) (vote_request_of d.payload) g)
      (λ e. read (takes_append_request number d) (append_request_of d.payload) (λ asked f.
      either Keeps (is_listed d g.allocator) (answers_append_request number d asked g) g
      (λ e. append_comes (handled.append_request_of asked d.mark.step d.ident.source g.allocator.me)) (λ e. h)))
      (λ e. read (takes_vote_request number d) (vote_request_of d.payload) (λ asked f.
      either Keeps (is_listed d g.allocator) (answers_vote_request number d asked g) g
      (λ e. vote_comes (handled.vote_request_of asked d.mark.step d.ident.source g.allocator.me)) (λ e. h))))

  response_comes : KeepsResult (response number d g)
  response_comes = either KeepsResult (nat_eq d.ident.number 1) (reads (hears_info d) (node_info_of d.payload) g) _
      (λ e. read (hears_info d) (node_info_of d.payload) (λ info f. k.infos d info g h))
      (λ e. either KeepsResult (nat_eq d.ident.number 30) (reads (takes_append_answer number d) (append_answer_of d.payload) g)
      (reads (takes_vote_answer number d) (vote_answer_of d.payload) g)
      (λ e. read (takes_append_answer number d) (append_answer_of d.payload) (λ says f.
      either Keeps (is_listed d g.allocator) (ends_append_call number d says g) g
      (λ e. either Keeps (is_awaited g.allocator.raft_server g.allocator.times d.ident.source true d.id) _ g
      (λ e. call_answered (append_answered d says) (g.allocator.raft_server.memory.pending d.ident.source)) (λ e. h)) (λ e. h)))
      (λ e. read (takes_vote_answer number d) (vote_answer_of d.payload) (λ says f.
      either Keeps (is_listed d g.allocator) (ends_vote_call number d says g) g
      (λ e. either Keeps (is_awaited g.allocator.raft_server g.allocator.times d.ident.source false d.id) _ g
      (λ e. call_answered (vote_answered d says) (g.allocator.raft_server.memory.pending d.ident.source)) (λ e. h)) (λ e. h))))

  kind_comes : (kind : Kind) → d.ident.kind ≡ kind → KeepsResult (by_kind number d kind g)
  kind_comes Anonymous e = read (hears_allocation number) (allocation_of d.payload) (request_ e)
  kind_comes Broadcast e = message_comes e
  kind_comes RequestKind e = request_comes
  kind_comes Response e = response_comes

  pub delivery_passes : KeepsResult (delivery_phase number d g)
  unfolding delivery_phase
  delivery_passes = kind_comes d.ident.kind refl

-- ---- an event that is no request offers none

-- no Allocation is offered
abbrev Free : StepState → Type 0
Free g = (x : Offer) → In x g.offers → x.what ≢ Alloc

abbrev FreeResult : StepResult → Type 0
FreeResult r = Free r.step_state

responding : (number to id re : ℕ) (what : What) (payload : List ℕ) (says : Option Message) (g : StepState) → what ≢ Alloc → Free g
    → Free (with_response number what to id payload re says g)
responding number to id re what payload says g other h x i e = elim (in_append x g.offers _ i) [
  | inl old ↦ h x old e
  | inr new ↦ elim new [ inl same ↦ absurd (other (sym (ap (λ (o : Offer). o.what) same) ∙ e)) | inr none ↦ absurd none ]
]

free : (number : ℕ) → IsAnswered number Free
free number = record {
  moves = λ given moves g h. h;
  responds = λ what d payload says g other more h. responding number d.ident.source d.id d.mark.step what payload says g more h;
  infos = λ d info g h. h;
}

-- what comes to a server
abbrev pub comes_to : AllocatorState → Arrival → Answer
comes_to t arrival = received (setting_for t.me) t.sessions (record arrival { moment = max t.now arrival.moment })

-- no request comes in this event
abbrev pub IsUnasked : AllocatorState → Event → Type 0
IsUnasked t event = (arrival : Arrival) → event ≡ Rx arrival → (d : Delivery) (message : Allocation) → comes_to t arrival ≡ Gives d → d.ident.kind ≡ Anonymous
    → allocation_of d.payload ≡ Some message → ⊥

module _ (t : AllocatorState) (number : ℕ) where
  ticks_free : (now word : ℕ) → Free (when_seen t number (Tick now word))
  ticks_free now word x i e =
      let g : StepState = begin_phase number now t in
      let upto : Upto 3 4 (clock_phase number word g) = ticks_offer number word g (record { few = omega arith; apart = tt; each = λ offer j. absurd j }) in
      let low = upto.each x i in let same : rank x.what ≡ 7 = ap rank e in omega (arith, low, same)

  answered_free : (arrival : Arrival) (a : Answer) → ((d : Delivery) (message : Allocation) → a ≡ Gives d → d.ident.kind ≡ Anonymous → allocation_of d.payload ≡ Some message → ⊥)
      → FreeResult (with_answer number a (with_sessions arrival (begin_phase number arrival.moment t)))
  answered_free arrival (Gives d) none = delivery_passes number Free (free number) d (λ kind g h. h) (λ kind other message says g h. h)
      (with_sessions arrival (begin_phase number arrival.moment t)) (λ x i. absurd i) (λ kind message says. absurd (none d message refl kind says))
  answered_free arrival Continues none = λ x i. absurd i
  answered_free arrival (Drops why) none = λ x i. absurd i

  pub seen_free : (event : Event) → IsUnasked t event → (x : Offer) → In x (when_seen t number event).offers → x.what ≢ Alloc
  seen_free (Tick now word) none = ticks_free now word
  seen_free (Rx arrival) none = answered_free arrival (comes_to t arrival) (λ d message gives kind says. none arrival refl d message gives kind says)

-- ---- and a request one at most

-- one transfer is offered at most
abbrev One : StepState → Type 0
One g = (g.offers ≡ []) ⊎ ((o : Offer) × (g.offers ≡ o ∷ []))

module _ (number : ℕ) (g : StepState) (silent : g.offers ≡ []) where
  giving : (move : Move) (entry : Entry) → One (gives_entry number move entry g)
  giving move entry =
      either One (has_room g.allocator.queue (allocation_payload entry.node entry.uid)) _ _
      (λ e. inr (sent Alloc 0 (allocation_payload entry.node entry.uid) None g, ap (λ (l : List Offer). l ++ sent Alloc 0 (allocation_payload entry.node entry.uid) None g ∷ []) silent))
      (λ e. inr (sent Alloc 0 (allocation_payload entry.node entry.uid) None g, ap (λ (l : List Offer). l ++ sent Alloc 0 (allocation_payload entry.node entry.uid) None g ∷ []) silent))

  recording : (uid : List ℕ) (preference : ℕ) → One (records number uid preference g)
  recording uid preference =
      either One (may_propose g.allocator && not (some_unknown g.allocator.watch (known g.allocator) g.allocator.now)) (records_at number uid (chosen (taken g.allocator) preference) g) g
      (λ e. go (chosen (taken g.allocator) preference)) (λ e. inl silent)
    where
      go : (node : Option ℕ) → One (records_at number uid node g)
      go None = inl silent
      go (Some node) = inl silent

  hearing_whole : (uid : List ℕ) (preference : ℕ) → One (hears_whole number uid preference g)
  hearing_whole uid preference =
      either One (is_zero uid) g (answers_or_records number uid preference (recorded_at g.allocator.raft_server.store.log uid) g)
      (λ e. inl silent) (λ e. go (recorded_at g.allocator.raft_server.store.log uid))
    where
      go : (place : Option ℕ) → One (answers_or_records number uid preference place g)
      go None = recording uid preference
      go (Some place) =
          either One (nat_lt place g.allocator.raft_server.store.commit) (gives_pair number (AnswerAgain place) place g) g
          (λ e. giving (AnswerAgain place) (slice_index_or g.allocator.raft_server.store.log place (blank 0))) (λ e. inl silent)

  answering : (heard : Heard) → One (answers_request number heard g)
  answering (FollowUp bytes) = inr (sent Alloc 0 (allocation_payload 0 bytes.items) None g, ap (λ (l : List Offer). l ++ sent Alloc 0 (allocation_payload 0 bytes.items) None g ∷ []) silent)
  answering (Whole uid preference) = hearing_whole uid preference
  answering (Ignored why) = inl silent
  answering Denied = inl silent

module _ (t : AllocatorState) (number : ℕ) (arrival : Arrival) (d : Delivery) (message : Allocation) (gives : comes_to t arrival ≡ Gives d) (kind : d.ident.kind ≡ Anonymous)
    (says : allocation_of d.payload ≡ Some message) where
  come : StepState
  come = with_sessions arrival (begin_phase number arrival.moment t)

  request_is : (delivery_phase number d (with_sessions arrival (begin_phase number arrival.moment t))).step_state
      ≡ hears_allocation number message (with_sessions arrival (begin_phase number arrival.moment t))
  unfolding delivery_phase
  request_is = rw (kind) (rw (says) refl)

  -- the step when it has heard a request
  pub seen_is : when_seen t number (Rx arrival) ≡ hears_allocation number message (with_sessions arrival (begin_phase number arrival.moment t))
  seen_is = ap (λ (a : Answer). (with_answer number a (with_sessions arrival (begin_phase number arrival.moment t))).step_state) gives ∙ request_is

  seen_one : One (hears_allocation number message (with_sessions arrival (begin_phase number arrival.moment t)))
  seen_one =
      let g : StepState = with_sessions arrival (begin_phase number arrival.moment t) in
      answering number (with_request message g) refl (answer g.allocator.accepted message g.allocator.now (may_follow g.allocator))

  one_of : (l : List Offer) → ((l ≡ []) ⊎ ((o : Offer) × (l ≡ o ∷ []))) → (x y : Offer) → In x l → In y l → x ≡ y
  one_of l (inl none) x y i j = absurd (subst (λ (k : List Offer). In x k) none i)
  one_of l (inr (o, e)) x y i j = elim (subst (λ (k : List Offer). In x k) e i) [
    | inl same_x ↦ elim (subst (λ (k : List Offer). In y k) e j) [ inl same_y ↦ same_x ∙ sym same_y | inr none ↦ absurd none ]
    | inr none ↦ absurd none
  ]

  pub asked_one : (x y : Offer) → In x (when_seen t number (Rx arrival)).offers → In y (when_seen t number (Rx arrival)).offers → x ≡ y
  asked_one = one_of (when_seen t number (Rx arrival)).offers (subst One (sym seen_is) seen_one)
