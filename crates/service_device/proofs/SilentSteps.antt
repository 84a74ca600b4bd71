-- What a follower has accepted behind a step: what it had, or nothing, whatever comes.
use Rattle.std.proofs.Common.{◌≡◌, ◌⊎◌, ℕ, ◌+◌, Bool, false, List, [], max, refl, sym, ◌∙◌, ap, subst, inl, inr, Option, None, Some}
use Rattle.std.specs.Prelude.{◌&&◌, not, if◌then◌else◌, nat_lt, slice_index_or}
use Rattle.alloc_exchange.specs.declared.heard.Heard.{Heard}
use Rattle.alloc_exchange.specs.declared.heard.Heard.TheVariants.{Denied, FollowUp, Ignored, Whole}
use Rattle.alloc_exchange.specs.Exchange.{Accepted, after, after_message, answer, has_length, is_expected, is_whole, last_moment, left_over, recent_requests, with_request as accepting}
use Rattle.can_frame.specs.declared.entry.Entry.{Entry}
use Rattle.can_frame.specs.declared.identifier.Kind.TheVariants.{Anonymous}
use Rattle.can_frame.specs.Log.{blank}
use Rattle.dsdl_codec.specs.declared.allocation.Allocation.{Allocation}
use Rattle.dsdl_codec.specs.Allocation.{allocation_of}
use Rattle.id_selector.specs.Choice.{chosen}
use Rattle.node_discovery.specs.Watch.{some_unknown}
use Rattle.raft_model.specs.Moves.{Move}
use Rattle.raft_model.specs.Moves.Move.{AnswerAgain}
use Rattle.raft_model.specs.Server.Role.{Follower}
use Rattle.transfer_rx.specs.Reassembly.{Arrival, Delivery, Gives}
use Rattle.alloc_spec.specs.AllocatorState.{AllocatorState, is_zero, known, may_propose, recorded_at, taken}
use Rattle.alloc_spec.specs.Exchange.{allocation_payload, answers_or_records, answers_request, gives_entry, gives_pair, hears_whole, may_follow, records, records_at, with_request}
use Rattle.alloc_spec.specs.Step.{Event, begin_phase, step, with_sessions}
use Rattle.alloc_spec.specs.Step.Event.{Rx, Tick}
use Rattle.alloc_spec.specs.StepState.{StepState}
use Rattle.alloc_spec.specs.Transfers.{has_room}
use Rattle.alloc_spec_laws.proofs.Choices.{either}
use Rattle.service_steps.proofs.Begins.{IsAsBefore}
use Rattle.service_steps.proofs.FollowUps.{begun}
use Rattle.service_device.proofs.AllocationsOffered.{comes_to, seen_is}
use Rattle.service_device.proofs.FollowersSay.{asks_or_not, ends_kept, unasked_kept}

-- ---- what an answer leaves

-- no answer changes what was accepted
module _ (number : ℕ) (accepted : List Accepted) where
  abbrev Keeps : StepState → Type 0
  Keeps g = g.allocator.accepted ≡ accepted

  giving : (move : Move) (entry : Entry) (g : StepState) → Keeps g → Keeps (gives_entry number move entry g)
  giving move entry g h = either Keeps (has_room g.allocator.queue (allocation_payload entry.node entry.uid)) _ _ (λ e. h) (λ e. h)

  recording : (uid : List ℕ) (preference : ℕ) (g : StepState) → Keeps g → Keeps (records number uid preference g)
  recording uid preference g h =
      either Keeps (may_propose g.allocator && not (some_unknown g.allocator.watch (known g.allocator) g.allocator.now))
      (records_at number uid (chosen (taken g.allocator) preference) g) g
      (λ e. by (chosen (taken g.allocator) preference)) (λ e. h)
    where
      by : (node : Option ℕ) → Keeps (records_at number uid node g)
      by None = h
      by (Some node) = h

  hearing : (uid : List ℕ) (preference : ℕ) (g : StepState) → Keeps g → Keeps (hears_whole number uid preference g)
  hearing uid preference g h =
      either Keeps (is_zero uid) g (answers_or_records number uid preference (recorded_at g.allocator.raft_server.store.log uid) g)
      (λ e. h) (λ e. by (recorded_at g.allocator.raft_server.store.log uid))
    where
      by : (place : Option ℕ) → Keeps (answers_or_records number uid preference place g)
      by None = recording uid preference g h
      by (Some place) =
          either Keeps (nat_lt place g.allocator.raft_server.store.commit) (gives_pair number (AnswerAgain place) place g) g
          (λ e. giving (AnswerAgain place) (slice_index_or g.allocator.raft_server.store.log place (blank 0)) g h) (λ e. h)

  answering : (heard : Heard) (g : StepState) → Keeps g → Keeps (answers_request number heard g)
  answering (FollowUp bytes) g h = h
  answering (Whole uid preferred) g h = hearing uid preferred g h
  answering (Ignored why) g h = h
  answering Denied g h = h

-- ---- what a request leaves where no follow-up is given

-- what is accepted now is what was accepted before, or nothing
abbrev pub IsLeft : List Accepted → List Accepted → Type 0
IsLeft before now = (now ≡ before) ⊎ (now ≡ [])

module _ (message : Allocation) (now : ℕ) where
  message_leaves : (accepted : List Accepted) → IsLeft accepted (after_message accepted message now false)
  message_leaves accepted =
      either (IsLeft accepted) (has_length message && is_expected accepted message) (left_over (accepting accepted message now) false) accepted
      (λ e. either (IsLeft accepted) (is_whole (accepting accepted message now)) [] (if false then accepting accepted message now else [])
      (λ w. inr refl) (λ w. inr refl)) (λ e. inl refl)

  -- those that still count are all, or none
  recent_are : (accepted : List Accepted) → IsLeft accepted (recent_requests accepted now)
  recent_are accepted = either (IsLeft accepted) (nat_lt (last_moment accepted + 500) now) [] accepted (λ e. inr refl) (λ e. inl refl)

  left_further : (accepted recent left : List Accepted) → IsLeft accepted recent → IsLeft recent left → IsLeft accepted left
  left_further accepted recent left first (inr none) = inr none
  left_further accepted recent left (inl same) (inl kept) = inl (kept ∙ same)
  left_further accepted recent left (inr none) (inl kept) = inr (kept ∙ none)

  pub request_leaves : (accepted : List Accepted) → IsLeft accepted (after accepted message now false)
  unfolding after
  request_leaves accepted = left_further accepted (recent_requests accepted now) (after_message (recent_requests accepted now) message now false)
      (recent_are accepted) (message_leaves (recent_requests accepted now))

-- ---- a step of a follower

module _ (t : AllocatorState) (number : ℕ) (follows : t.raft_server.memory.role ≡ Follower) where
  abbrev Leaves : Event → Type 0
  Leaves event = IsLeft t.accepted (step t number event).step_state.allocator.accepted

  module _ (arrival : Arrival) (d : Delivery) (message : Allocation) (gives : comes_to t arrival ≡ Gives d) (kind : d.ident.kind ≡ Anonymous)
      (says : allocation_of d.payload ≡ Some message) where
    before : IsAsBefore t.raft_server (with_sessions arrival (begin_phase number arrival.moment t)).allocator.raft_server
    before = begun t number arrival

    may_not : may_follow (with_sessions arrival (begin_phase number arrival.moment t)).allocator ≡ false
    may_not = let role = before.role ∙ follows in rw (role) refl

    asked_leaves : Leaves (Rx arrival)
    asked_leaves = subst (IsLeft t.accepted)
        (sym (ends_kept number (after t.accepted message (max t.now arrival.moment)
        (may_follow (with_sessions arrival (begin_phase number arrival.moment t)).allocator)) t (Rx arrival)
        (ap (λ (g : StepState). g.allocator.accepted) (seen_is t number arrival d message gives kind says)
        ∙ answering number (after t.accepted message (max t.now arrival.moment)
        (may_follow (with_sessions arrival (begin_phase number arrival.moment t)).allocator))
        (answer t.accepted message (max t.now arrival.moment) (may_follow (with_sessions arrival (begin_phase number arrival.moment t)).allocator))
        (with_request message (with_sessions arrival (begin_phase number arrival.moment t))) refl)))
        (subst (λ (b : Bool). IsLeft t.accepted (after t.accepted message (max t.now arrival.moment) b)) (sym may_not)
        (request_leaves message (max t.now arrival.moment) t.accepted))

  -- in each of its steps
  pub follower_leaves : (event : Event) → IsLeft t.accepted (step t number event).step_state.allocator.accepted
  follower_leaves (Tick now word) = inl (unasked_kept t number (Tick now word) (λ arrival is. absurd (cc (is))))
  follower_leaves (Rx arrival) = elim (asks_or_not t arrival) [
    | inl a ↦ asked_leaves arrival a.delivery a.message a.gives a.anonymous a.says
    | inr none ↦ inl (unasked_kept t number (Rx arrival) none)
  ]
