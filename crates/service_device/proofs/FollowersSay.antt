-- A follower that accepted no request lately offers no Allocation in a step; and where no request comes, a step leaves
-- what was accepted.
use Rattle.std.proofs.Common.{◌≡◌, ◌≢◌, ◌⊎◌, ℕ, Bool, true, false, List, [], length, max, refl, sym, ◌∙◌, ap, subst, arith, inl, inr, Option, None, Some}
use Rattle.std.specs.Prelude.{⊤, not}
use Rattle.alloc_exchange.specs.declared.heard.Heard.{Heard}
use Rattle.alloc_exchange.specs.declared.heard.Heard.TheVariants.{Denied, FollowUp, Ignored, Whole}
use Rattle.alloc_exchange.specs.declared.stage.Stage.{Stage}
use Rattle.alloc_exchange.specs.declared.stage.Stage.TheVariants.{First, Second, Third}
use Rattle.alloc_exchange.specs.Exchange.{Accepted, answer, answer_to, bytes_before, has_length, is_expected, is_whole, recent_requests, stage_length, stage_of, with_request as accepting}
use Rattle.can_frame.specs.declared.identifier.Kind.{Kind}
use Rattle.can_frame.specs.declared.identifier.Kind.TheVariants.{Anonymous, Message as Broadcast, Request as RequestKind, Response}
use Rattle.can_frame.specs.declared.step.What.TheVariants.{Alloc}
use Rattle.cluster_discovery.specs.Members.{is_due}
use Rattle.dsdl_codec.specs.declared.allocation.Allocation.{Allocation}
use Rattle.dsdl_codec.specs.Allocation.{allocation_of}
use Rattle.raft_model.specs.Lists.{In}
use Rattle.raft_model.specs.Server.Role.{Follower}
use Rattle.raft_model.specs.Server.{Role}
use Rattle.transfer_rx.specs.Reassembly.{Answer, Arrival, Continues, Delivery, Drops, Gives}
use Rattle.alloc_spec.specs.AllocatorState.{AllocatorState, start_of}
use Rattle.alloc_spec.specs.Ending.{has_to_tell}
use Rattle.alloc_spec.specs.Exchange.{answers_request, may_follow, with_request}
use Rattle.alloc_spec.specs.Step.{Event, begin_phase, moment_of, step, with_sessions}
use Rattle.alloc_spec.specs.Step.Event.{Rx, Tick}
use Rattle.alloc_spec.specs.StepState.{StepState}
use Rattle.alloc_spec.specs.Tick.{tells_members}
use Rattle.alloc_spec.specs.Transfers.{Offer}
use Rattle.alloc_spec_laws.specs.Phases.{when_committed, when_seen, when_told}
use Rattle.alloc_spec_laws.proofs.Choices.{either, eq_true}
use Rattle.service_steps.proofs.Begins.{IsAsBefore}
use Rattle.service_steps.proofs.Ends.{IsKept, call_phase_keeps, rest_keeps, tell_keeps}
use Rattle.service_steps.proofs.FollowUps.{begun}
use Rattle.service_device.proofs.AllocationsOffered.{IsUnasked, comes_to, end_from, seen_free, seen_is}
use Rattle.service_device.proofs.TidySteps.{IsPassed, step_passes}

-- ---- what a step accepted where no request comes

module _ (number : ℕ) (accepted : List Accepted) where
  abbrev Keeps : StepState → Type 0
  Keeps g = g.allocator.accepted ≡ accepted

  kept : IsKept number Keeps
  kept = record {
    passes = λ g e h. h;
    tells = λ given g e h. h;
    votes = λ given peer g h. h;
    appends = λ given peer previous with_entry g h. h;
    sends = λ what to payload says g h. h;
  }

  pub ends_kept : (t : AllocatorState) (event : Event) → Keeps (when_seen t number event) → Keeps (step t number event).step_state
  unfolding step
  ends_kept t event h = rest_keeps number Keeps kept (when_seen t number event) h

  passed : IsPassed number Keeps
  passed = record {
    discovers = λ g h. either Keeps (is_due (start_of g.allocator) g.allocator.heard g.allocator.now) (tells_members number g) g (λ e. h) (λ e. h);
    moves = λ given moves g h. h;
    sends = λ what to payload says g other h. h;
    responds = λ what d payload says g other h. h;
    states = λ g h. h;
    queries = λ node id g h. h;
    sessions = λ sessions g h. h;
    infos = λ d info g h. h;
  }

pub unasked_kept : (t : AllocatorState) (number : ℕ) (event : Event) → IsUnasked t event → (step t number event).step_state.allocator.accepted ≡ t.accepted
unasked_kept t number event none = step_passes number (Keeps number t.accepted) (passed number t.accepted) t event
    (λ arrival is d gives. record {
      request = λ kind message says g h. absurd (none arrival is d message gives kind says);
      status = λ kind g h. h;
      discovery = λ kind other message says g h. h;
    }) refl

-- ---- who does not lead has nothing to tell

role_kept : (number : ℕ) (role : Role) → IsKept number (λ (g : StepState). g.allocator.raft_server.memory.role ≡ role)
role_kept number role = record {
  passes = λ g e h. h;
  tells = λ given g e h. h;
  votes = λ given peer g h. h;
  appends = λ given peer previous with_entry g h. h;
  sends = λ what to payload says g h. h;
}

role_then : (t : AllocatorState) (number : ℕ) (event : Event)
    → (step t number event).step_state.allocator.raft_server.memory.role ≡ (when_committed t number event).allocator.raft_server.memory.role
unfolding step
role_then t number event =
    call_phase_keeps number (λ (g : StepState). g.allocator.raft_server.memory.role ≡ (when_committed t number event).allocator.raft_server.memory.role)
    (role_kept number (when_committed t number event).allocator.raft_server.memory.role) (when_told t number event)
    (tell_keeps number (λ (g : StepState). g.allocator.raft_server.memory.role ≡ (when_committed t number event).allocator.raft_server.memory.role)
    (role_kept number (when_committed t number event).allocator.raft_server.memory.role) (when_committed t number event) refl)

pub follower_tells_none : (t : AllocatorState) (number : ℕ) (event : Event) → (step t number event).step_state.allocator.raft_server.memory.role ≡ Follower
    → has_to_tell (when_committed t number event).allocator.raft_server ≡ false
follower_tells_none t number event follows =
    let role : (when_committed t number event).allocator.raft_server.memory.role ≡ Follower = sym (role_then t number event) ∙ follows in rw (role) refl

-- ---- a request to who does not lead, and accepted none lately

abbrev GivesNone : Heard → Type 0
GivesNone (FollowUp bytes) = ⊥
GivesNone (Whole uid preferred) = ⊥
GivesNone (Ignored why) = ⊤
GivesNone Denied = ⊤

not_false : (b : Bool) → not b ≡ false → b ≡ true
not_false true e = refl
not_false false e = absurd (cc (e))

module _ (message : Allocation) (now : ℕ) where
  one : List Accepted
  one = accepting [] message now

  never_whole : (stage : Stage) → stage_of message ≡ stage → length message.uid.items ≡ stage_length stage → 0 ≡ bytes_before stage → length message.uid.items ≡ 16 → ⊥
  never_whole First e size start whole = omega (arith, size, whole)
  never_whole Second e size start whole = omega (arith, start)
  never_whole Third e size start whole = omega (arith, start)

  denied : GivesNone (answer_to [] message now false)
  denied = either GivesNone (not (has_length message)) _ _ (λ e. tt)
      (λ e. either GivesNone (not (is_expected [] message)) _ _ (λ f. tt)
      (λ f. either GivesNone (is_whole (accepting [] message now)) _ _
      (λ w. absurd (never_whole (stage_of message) refl
      (eq_true (length message.uid.items) (stage_length (stage_of message)) (not_false (has_length message) e))
      (eq_true 0 (bytes_before (stage_of message)) (not_false (is_expected [] message) f))
      (eq_true (length message.uid.items) 16 w)))
      (λ w. tt)))

  pub is_denied : (accepted : List Accepted) → recent_requests accepted now ≡ [] → GivesNone (answer accepted message now false)
  unfolding answer
  is_denied accepted stale = subst (λ (l : List Accepted). GivesNone (answer_to l message now false)) (sym stale) denied

none_offered : (number : ℕ) (heard : Heard) (g : StepState) → GivesNone heard → (answers_request number heard g).offers ≡ g.offers
none_offered number (FollowUp bytes) g none = absurd none
none_offered number (Whole uid preferred) g none = absurd none
none_offered number (Ignored why) g none = refl
none_offered number Denied g none = refl

module _ (t : AllocatorState) (number : ℕ) (arrival : Arrival) (d : Delivery) (message : Allocation) (gives : comes_to t arrival ≡ Gives d) (kind : d.ident.kind ≡ Anonymous)
    (says : allocation_of d.payload ≡ Some message) (follows : t.raft_server.memory.role ≡ Follower) (stale : recent_requests t.accepted (max t.now arrival.moment) ≡ []) where
  come : StepState
  come = with_sessions arrival (begin_phase number arrival.moment t)

  before : IsAsBefore t.raft_server (with_sessions arrival (begin_phase number arrival.moment t)).allocator.raft_server
  before = begun t number arrival

  may_not : may_follow (with_sessions arrival (begin_phase number arrival.moment t)).allocator ≡ false
  may_not = let role = before.role ∙ follows in rw (role) refl

  heard : Heard
  heard = answer t.accepted message (max t.now arrival.moment) (may_follow (with_sessions arrival (begin_phase number arrival.moment t)).allocator)

  gives_none : GivesNone (answer t.accepted message (max t.now arrival.moment) (may_follow (with_sessions arrival (begin_phase number arrival.moment t)).allocator))
  gives_none = subst (λ (b : Bool). GivesNone (answer t.accepted message (max t.now arrival.moment) b)) (sym may_not) (is_denied message (max t.now arrival.moment) t.accepted stale)

  pub asked_silent : (when_seen t number (Rx arrival)).offers ≡ []
  asked_silent = ap (λ (g : StepState). g.offers) (seen_is t number arrival d message gives kind says)
      ∙ none_offered number (answer t.accepted message (max t.now arrival.moment) (may_follow (with_sessions arrival (begin_phase number arrival.moment t)).allocator))
      (with_request message (with_sessions arrival (begin_phase number arrival.moment t))) gives_none

-- ---- whether a request comes

-- a request comes to a server with this arrival
pub record Asks (t : AllocatorState) (arrival : Arrival) : Type 0 where
  pub delivery : Delivery
  pub message : Allocation
  pub gives : comes_to t arrival ≡ Gives delivery
  pub anonymous : delivery.ident.kind ≡ Anonymous
  pub says : allocation_of delivery.payload ≡ Some message

one_delivery : (x y : Delivery) → Gives x ≡ Gives y → x ≡ y
one_delivery x y e = cc (e)

one_arrival : (x y : Arrival) → Rx x ≡ Rx y → x ≡ y
one_arrival x y e = cc (e)

module _ (t : AllocatorState) (arrival : Arrival) where
  -- what comes with this arrival comes with each that is the same
  comes_too : (a : Answer) → comes_to t arrival ≡ a → (other : Arrival) → Rx arrival ≡ Rx other → (d : Delivery) → comes_to t other ≡ Gives d → a ≡ Gives d
  comes_too a e other is d gives = sym e ∙ (ap (comes_to t) (one_arrival arrival other is) ∙ gives)

  by_answer : (a : Answer) → comes_to t arrival ≡ a → Asks t arrival ⊎ IsUnasked t (Rx arrival)
  by_answer (Gives d) e = by_kind_ d.ident.kind refl
    where
      same : (other : Arrival) → Rx arrival ≡ Rx other → (x : Delivery) → comes_to t other ≡ Gives x → d ≡ x
      same other is x gives = one_delivery d x (comes_too (Gives d) e other is x gives)

      anonymous_ : d.ident.kind ≡ Anonymous → (o : Option Allocation) → allocation_of d.payload ≡ o → Asks t arrival ⊎ IsUnasked t (Rx arrival)
      anonymous_ kind None says = inr (λ other is x message gives k s. cc (says, ap (λ (y : Delivery). allocation_of y.payload) (same other is x gives) ∙ s))
      anonymous_ kind (Some message) says = inl (record { delivery = d; message = message; gives = e; anonymous = kind; says = says })

      by_kind_ : (kind : Kind) → d.ident.kind ≡ kind → Asks t arrival ⊎ IsUnasked t (Rx arrival)
      by_kind_ Anonymous k = anonymous_ k (allocation_of d.payload) refl
      by_kind_ Broadcast k = inr (λ other is x message gives kind s. cc (k, ap (λ (y : Delivery). y.ident.kind) (same other is x gives) ∙ kind))
      by_kind_ RequestKind k = inr (λ other is x message gives kind s. cc (k, ap (λ (y : Delivery). y.ident.kind) (same other is x gives) ∙ kind))
      by_kind_ Response k = inr (λ other is x message gives kind s. cc (k, ap (λ (y : Delivery). y.ident.kind) (same other is x gives) ∙ kind))
  by_answer Continues e = inr (λ other is x message gives kind s. cc (comes_too Continues e other is x gives))
  by_answer (Drops why) e = inr (λ other is x message gives kind s. cc (comes_too (Drops why) e other is x gives))

  pub asks_or_not : Asks t arrival ⊎ IsUnasked t (Rx arrival)
  asks_or_not = by_answer (comes_to t arrival) refl

-- ---- a step of a follower

module _ (t : AllocatorState) (number : ℕ) (follows : t.raft_server.memory.role ≡ Follower) where
  -- it offers no Allocation
  abbrev OffersNone : Event → Type 0
  OffersNone event = (x : Offer) → In x (step t number event).step_state.offers → x.what ≢ Alloc

  unasked_says : (event : Event) → (step t number event).step_state.allocator.raft_server.memory.role ≡ Follower → IsUnasked t event → OffersNone event
  unasked_says event then_follows none x i e = seen_free t number event none x (end_from t number event (follower_tells_none t number event then_follows) x i e) e

  pub says_nothing : (event : Event) → (step t number event).step_state.allocator.raft_server.memory.role ≡ Follower
      → recent_requests t.accepted (max t.now (moment_of event)) ≡ [] → (x : Offer) → In x (step t number event).step_state.offers → x.what ≢ Alloc
  says_nothing (Tick now word) then_follows stale = unasked_says (Tick now word) then_follows (λ arrival is. absurd (cc (is)))
  says_nothing (Rx arrival) then_follows stale = elim (asks_or_not t arrival) [
    | inl a ↦ λ x i e. absurd (subst (λ (l : List Offer). In x l)
        (asked_silent t number arrival a.delivery a.message a.gives a.anonymous a.says follows stale)
        (end_from t number (Rx arrival) (follower_tells_none t number (Rx arrival) then_follows) x i e))
    | inr none ↦ unasked_says (Rx arrival) then_follows none
  ]
