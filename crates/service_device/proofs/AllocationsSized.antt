-- Each Allocation that a step offers has 6, 12 or 16 bytes of a unique ID, where the entries of its log have bytes.
use Rattle.std.proofs.Common.{◌≡◌, ◌≢◌, ℕ, ◌+◌, ◌<◌, ◌≤◌, zero, suc, Bool, false, List, [], ◌∷◌, ◌++◌, drop, length, refl, sym, ◌∙◌, ap, subst, arith, inl, inr, Option, None, Some}
use Rattle.std.specs.Prelude.{⊤, ◌&&◌, nat_lt, not, slice_index_or}
use Rattle.std.proofs.lemmas.List.{length-append}
use Rattle.alloc_exchange.specs.declared.heard.Heard.{Heard}
use Rattle.alloc_exchange.specs.declared.heard.Heard.TheVariants.{Denied, FollowUp, Ignored, Whole}
use Rattle.alloc_exchange.specs.declared.stage.Stage.{Stage}
use Rattle.alloc_exchange.specs.declared.stage.Stage.TheVariants.{First, Second, Third}
use Rattle.alloc_exchange.specs.Exchange.{Accepted, IsEndOfStage, answer, answer_to, bytes_before, bytes_so_far, has_length, is_expected, is_whole, recent_requests, response, stage_length, stage_of}
use Rattle.alloc_exchange.specs.Exchange as exchange
use Rattle.can_frame.specs.declared.entry.Entry.{Entry}
use Rattle.can_frame.specs.declared.identifier.Kind.{Kind}
use Rattle.can_frame.specs.declared.identifier.Kind.TheVariants.{Anonymous, Message as Broadcast, Request as RequestKind, Response}
use Rattle.can_frame.specs.declared.step.What.{What}
use Rattle.can_frame.specs.declared.step.What.TheVariants.{Alloc}
use Rattle.can_frame.specs.Log.{blank}
use Rattle.dsdl_codec.specs.declared.allocation.Allocation.{Allocation}
use Rattle.dsdl_codec.specs.Allocation.{IsAllocation, allocation_bytes, allocation_of}
use Rattle.dsdl_codec.specs.Entry.{IsEntry}
use Rattle.id_selector.specs.Choice.{chosen}
use Rattle.node_discovery.specs.Watch.{some_unknown}
use Rattle.raft_core.specs.Times.{given_at}
use Rattle.raft_model.specs.Lists.{In}
use Rattle.raft_model.specs.Messages.{Message}
use Rattle.raft_model.specs.Moves.{Move, next_entry}
use Rattle.raft_model.specs.Moves.Move.{AnswerAgain, TellNothing, TellPair}
use Rattle.raft_model.specs.Server.{Store}
use Rattle.transfer_rx.specs.Reassembly.{Answer, Arrival, Continues, Delivery, Drops, Gives}
use Rattle.alloc_spec.specs.AllocatorState.{AllocatorState, is_zero, known, may_propose, members_of, recorded_at, taken}
use Rattle.alloc_spec.specs.Ending.{has_to_tell, tell_phase, tells_next}
use Rattle.alloc_spec.specs.Exchange.{allocation_payload, answers_or_records, answers_request, gives_entry, gives_pair, hears_whole, may_follow, records, records_at, with_request}
use Rattle.alloc_spec.specs.Step.{Event, begin_phase, step, with_sessions}
use Rattle.alloc_spec.specs.Step.Event.{Rx, Tick}
use Rattle.alloc_spec.specs.StepState.{StepState, with_moves, with_transfer}
use Rattle.alloc_spec.specs.Transfers.{Offer, has_room}
use Rattle.alloc_spec_laws.specs.Phases.{when_committed, when_seen, when_told}
use Rattle.alloc_spec_laws.proofs.Choices.{either, eq_true}
use Rattle.bus_agreement.proofs.Lists.{in_append}
use Rattle.service_steps.proofs.FollowUps.{begun}
use Rattle.service_device.proofs.AllocationsOffered.{IsUnasked, calls_from, comes_to, seen_free, seen_is}
use Rattle.service_device.proofs.AllocationsTold.{stored_then}
use Rattle.service_device.proofs.RequestsTell.{not_false}

-- ---- a follow-up

-- how many bytes a follow-up has
abbrev HasParts : Heard → Type 0
HasParts (FollowUp bytes) = IsEndOfStage (length bytes.items)
HasParts (Whole uid preferred) = ⊤
HasParts (Ignored why) = ⊤
HasParts Denied = ⊤

module _ (accepted : List Accepted) (message : Allocation) (now : ℕ) (follows : Bool) where
  ends : (stage : Stage) → length (bytes_so_far accepted) ≡ bytes_before stage → length message.uid.items ≡ stage_length stage
      → length (bytes_so_far accepted ++ message.uid.items) ≡ bytes_before stage + stage_length stage → IsEndOfStage (length (bytes_so_far accepted ++ message.uid.items))
  ends First before size both = inl (inl both)
  ends Second before size both = inl (inr both)
  ends Third before size both = inr both

  answered_parts : HasParts (answer_to accepted message now follows)
  answered_parts = either HasParts (not (has_length message)) _ _ (λ e. tt)
      (λ e. either HasParts (not (is_expected accepted message)) _ _ (λ f. tt)
      (λ f. either HasParts (is_whole (exchange.with_request accepted message now)) _ _ (λ w. tt)
      (λ w. either HasParts follows _ _
      (λ g.
      let before = eq_true (length (bytes_so_far accepted)) (bytes_before (stage_of message)) (not_false (is_expected accepted message) f) in
      let size = eq_true (length message.uid.items) (stage_length (stage_of message)) (not_false (has_length message) e) in
      ends (stage_of message) before size (let l = length-append (bytes_so_far accepted) message.uid.items in omega (arith, l, before, size)))
      (λ g. tt))))

heard_parts : (accepted : List Accepted) (message : Allocation) (now : ℕ) (follows : Bool) → HasParts (answer accepted message now follows)
unfolding answer
heard_parts accepted message now follows = answered_parts (recent_requests accepted now) message now follows

-- ---- what is offered

-- an Allocation with this payload has 6, 12 or 16 bytes
abbrev pub Sized : List ℕ → Type 0
Sized payload = (message : Allocation) → allocation_of payload ≡ Some message → IsEndOfStage (length message.uid.items)

abbrev AllSized : StepState → Type 0
AllSized g = (x : Offer) → In x g.offers → x.what ≡ Alloc → Sized x.payload

one_allocation : (x y : Allocation) → ◌≡◌ {A = Option Allocation} (Some x) (Some y) → x ≡ y
one_allocation x y e = cc (e)

blank_fits : IsEntry (blank 0)
blank_fits = record { term = omega arith; uid = refl; node = omega arith }

-- each entry of a log has bytes, and so has a blank
entry_fits : (log : List Entry) (place : ℕ) → ((e : Entry) → In e log → IsEntry e) → IsEntry (slice_index_or log place (blank 0))
entry_fits [] place all = blank_fits
entry_fits (e ∷ log) zero all = all e (inl refl)
entry_fits (e ∷ log) (suc place) all = entry_fits log place (λ x i. all x (inr i))

module _ (read : (value : Allocation) → IsAllocation value → allocation_of (allocation_bytes value) ≡ Some value) (number : ℕ) where
  said : (node : ℕ) (uid : List ℕ) → node < 128 → IsEndOfStage (length uid) → Sized (allocation_payload node uid)
  said node uid low size message e =
      subst (λ (m : Allocation). IsEndOfStage (length m.uid.items))
      (one_allocation (record { node = node; first_part = false; uid = record { items = uid } }) message
      (sym (read (record { node = node; first_part = false; uid = record { items = uid } }) (record { node = low; uid = most size })) ∙ e)) size
    where
      most : IsEndOfStage (length uid) → length uid ≤ 16
      most (inl (inl six)) = omega (arith, six)
      most (inl (inr twelve)) = omega (arith, twelve)
      most (inr all) = omega (arith, all)

  more : (what : What) (to : ℕ) (payload : List ℕ) (says : Option Message) (g : StepState) → Sized payload → AllSized g → AllSized (with_transfer number what to payload says g)
  more what to payload says g size h x i e = elim (in_append x g.offers _ i) [
    | inl old ↦ h x old e
    | inr (inl same) ↦ subst Sized (ap (λ (o : Offer). o.payload) (sym same)) size
    | inr (inr none) ↦ absurd none
  ]

  giving : (move : Move) (entry : Entry) (g : StepState) → IsEntry entry → AllSized g → AllSized (gives_entry number move entry g)
  giving move entry g fits h =
      let s : AllSized (with_transfer number Alloc 0 (allocation_payload entry.node entry.uid) None g)
      = more Alloc 0 (allocation_payload entry.node entry.uid) None g (said entry.node entry.uid fits.node (inr fits.uid)) h in
      either AllSized (has_room g.allocator.queue (allocation_payload entry.node entry.uid)) _ _ (λ e. s) (λ e. s)

  -- ---- to a request

  module _ (g : StepState) (h : AllSized g) (fits : (e : Entry) → In e g.allocator.raft_server.store.log → IsEntry e) where
    recording : (uid : List ℕ) (preference : ℕ) → AllSized (records number uid preference g)
    recording uid preference =
        either AllSized (may_propose g.allocator && not (some_unknown g.allocator.watch (known g.allocator) g.allocator.now)) (records_at number uid (chosen (taken g.allocator) preference) g) g
        (λ e. go (chosen (taken g.allocator) preference)) (λ e. h)
      where
        go : (node : Option ℕ) → AllSized (records_at number uid node g)
        go None = h
        go (Some node) = h

    hearing_whole : (uid : List ℕ) (preference : ℕ) → AllSized (hears_whole number uid preference g)
    hearing_whole uid preference =
        either AllSized (is_zero uid) g (answers_or_records number uid preference (recorded_at g.allocator.raft_server.store.log uid) g)
        (λ e. h) (λ e. go (recorded_at g.allocator.raft_server.store.log uid))
      where
        go : (place : Option ℕ) → AllSized (answers_or_records number uid preference place g)
        go None = recording uid preference
        go (Some place) =
            either AllSized (nat_lt place g.allocator.raft_server.store.commit) (gives_pair number (AnswerAgain place) place g) g
            (λ e. giving (AnswerAgain place) (slice_index_or g.allocator.raft_server.store.log place (blank 0)) g (entry_fits g.allocator.raft_server.store.log place fits) h) (λ e. h)

    answering : (heard : Heard) → HasParts heard → AllSized (answers_request number heard g)
    answering (FollowUp bytes) size = more Alloc 0 (allocation_payload 0 bytes.items) None g (said 0 bytes.items (omega arith) size) h
    answering (Whole uid preference) size = hearing_whole uid preference
    answering (Ignored why) size = h
    answering Denied size = h

  -- ---- the step

  module _ (t : AllocatorState) (fits : (e : Entry) → In e t.raft_server.store.log → IsEntry e) where
    asked_sized : (arrival : Arrival) (d : Delivery) (message : Allocation) → comes_to t arrival ≡ Gives d → d.ident.kind ≡ Anonymous → allocation_of d.payload ≡ Some message
        → AllSized (when_seen t number (Rx arrival))
    asked_sized arrival d message gives kind says =
        let come : StepState = with_sessions arrival (begin_phase number arrival.moment t) in
        subst AllSized (sym (seen_is t number arrival d message gives kind says))
        (answering (with_request message come) (λ x i. absurd i)
        (λ e i. fits e (subst (λ (s : Store). In e s.log) (begun t number arrival).store i))
        (answer come.allocator.accepted message come.allocator.now (may_follow come.allocator))
        (heard_parts come.allocator.accepted message come.allocator.now (may_follow come.allocator)))

    unasked_sized : (event : Event) → IsUnasked t event → AllSized (when_seen t number event)
    unasked_sized event none x i e = absurd (seen_free t number event none x i e)

    one_delivery : (x y : Delivery) → Gives x ≡ Gives y → x ≡ y
    one_delivery x y e = cc (e)

    one_arrival : (x y : Arrival) → Rx x ≡ Rx y → x ≡ y
    one_arrival x y e = cc (e)

    by_answer : (arrival : Arrival) (a : Answer) → comes_to t arrival ≡ a → AllSized (when_seen t number (Rx arrival))
    by_answer arrival (Gives d) e = by_kind d.ident.kind refl (allocation_of d.payload) refl
      where
        other : (kind : Kind) → d.ident.kind ≡ kind → kind ≢ Anonymous → AllSized (when_seen t number (Rx arrival))
        other kind is apart = unasked_sized (Rx arrival) (λ b same x message gives k s.
            apart (sym is ∙ (ap (λ (y : Delivery). y.ident.kind) (one_delivery d x (sym e ∙ (ap (comes_to t) (one_arrival arrival b same) ∙ gives))) ∙ k)))

        by_kind : (kind : Kind) → d.ident.kind ≡ kind → (o : Option Allocation) → allocation_of d.payload ≡ o → AllSized (when_seen t number (Rx arrival))
        by_kind Anonymous is (Some message) says = asked_sized arrival d message e is says
        by_kind Anonymous is None says = unasked_sized (Rx arrival) (λ b same x message gives k s.
            cc (says, ap (λ (y : Delivery). allocation_of y.payload) (one_delivery d x (sym e ∙ (ap (comes_to t) (one_arrival arrival b same) ∙ gives))) ∙ s))
        by_kind Broadcast is o says = other Broadcast is (λ f. cc (f))
        by_kind RequestKind is o says = other RequestKind is (λ f. cc (f))
        by_kind Response is o says = other Response is (λ f. cc (f))
    by_answer arrival Continues e = unasked_sized (Rx arrival) (λ b same x message gives k s. cc (sym e ∙ (ap (comes_to t) (one_arrival arrival b same) ∙ gives)))
    by_answer arrival (Drops why) e = unasked_sized (Rx arrival) (λ b same x message gives k s. cc (sym e ∙ (ap (comes_to t) (one_arrival arrival b same) ∙ gives)))

    seen_sized : (event : Event) → AllSized (when_seen t number event)
    seen_sized (Tick now word) = unasked_sized (Tick now word) (λ arrival is. absurd (cc (is)))
    seen_sized (Rx arrival) = by_answer arrival (comes_to t arrival) refl

    tell_sized : (g : StepState) → ((e : Entry) → In e g.allocator.raft_server.store.log → IsEntry e) → AllSized g → AllSized (tell_phase number g)
    tell_sized g its h = either AllSized (has_to_tell g.allocator.raft_server) (tells_next number g) g
        (λ e. either AllSized (is_zero (next_entry g.allocator.raft_server).uid) (with_moves number (given_at g.allocator.now) (TellNothing ∷ []) g)
        (gives_pair number TellPair g.allocator.raft_server.memory.told g)
        (λ z. h)
        (λ z. giving TellPair (next_entry g.allocator.raft_server) g (entry_fits g.allocator.raft_server.store.log g.allocator.raft_server.memory.told its) h))
        (λ e. h)

    pub step_sized : (event : Event) → ((e : Entry) → In e (step t number event).step_state.allocator.raft_server.store.log → IsEntry e)
        → (x : Offer) → In x (step t number event).step_state.offers → x.what ≡ Alloc → Sized x.payload
    unfolding step
    step_sized event then_fits x i e =
        tell_sized (when_committed t number event)
        (λ entry j. then_fits entry (subst (λ (s : Store). In entry s.log) (sym (stored_then t number event)) j)) (seen_sized event) x
        (calls_from number (when_told t number event).offers (drop 1 (members_of (when_told t number event).allocator)) (when_told t number event) (λ y j f. j) x i e) e
