-- What an exchange in which follow-ups may be given makes of a request, whatever it accepted before: how many more it may
-- accept without a first one, and that one which is ignored is offered no Allocation.
use Rattle.std.proofs.Common.{◌≡◌, ◌⊎◌, ℕ, suc, ◌+◌, ◌≤◌, Bool, true, false, List, [], length, length-append, max, refl, sym, ◌∙◌, ap, subst, arith, inl, inr, Some}
use Rattle.std.specs.Prelude.{nat_eq, nat_lt, if◌then◌else◌}
use Rattle.std.proofs.lemmas.Bool.Decides.{eqb_tells}
use Rattle.alloc_exchange.specs.declared.heard.Heard.{Heard}
use Rattle.alloc_exchange.specs.declared.heard.Heard.TheVariants.{FollowUp, Ignored}
use Rattle.alloc_exchange.specs.declared.heard.Ignore.{Ignore}
use Rattle.alloc_exchange.specs.declared.heard.Ignore.TheVariants as why
use Rattle.alloc_exchange.specs.declared.stage.Stage.{Stage}
use Rattle.alloc_exchange.specs.declared.stage.Stage.TheVariants.{First, Second, Third}
use Rattle.alloc_exchange.specs.Exchange.{Accepted, after, answer, bytes_before, bytes_so_far, has_length, is_expected, is_whole, last_moment, recent_requests, stage_length, stage_of, with_request}
use Rattle.can_frame.specs.declared.identifier.Kind.TheVariants.{Anonymous}
use Rattle.can_frame.specs.declared.step.What.TheVariants.{Alloc}
use Rattle.can_frame.specs.Timing.{stage_timeout}
use Rattle.dsdl_codec.specs.declared.allocation.Allocation.{Allocation}
use Rattle.dsdl_codec.specs.Allocation.{allocation_of}
use Rattle.raft_model.specs.Lists.{In}
use Rattle.transfer_rx.specs.Reassembly.{Arrival, Delivery, Gives}
use Rattle.alloc_spec.specs.AllocatorState.{AllocatorState}
use Rattle.alloc_spec.specs.Ending.{has_to_tell}
use Rattle.alloc_spec.specs.Exchange as server
use Rattle.alloc_spec.specs.Step.{step}
use Rattle.alloc_spec.specs.Step.Event.{Rx}
use Rattle.alloc_spec.specs.StepState.{StepState}
use Rattle.alloc_spec.specs.Transfers.{Offer}
use Rattle.alloc_spec_laws.proofs.Choices.{either, tell}
use Rattle.alloc_spec_laws.specs.Phases.{when_committed, when_seen}
use Rattle.service_steps.specs.Serving.{IsReady}
use Rattle.service_steps.proofs.Begins.{IsAsBefore}
use Rattle.service_steps.proofs.FollowUps.{begun, may, same_follow, when_come}
use Rattle.service_device.proofs.AllocationsOffered.{comes_to, end_from, seen_is}

-- ---- how many requests may follow

-- By the bytes that were accepted: behind 6 of them two follow-ups may be accepted, behind 12 one, and else a first
-- request alone. It is counted the other way round.
abbrev pub rank : List Accepted → ℕ
rank accepted = if nat_eq (length (bytes_so_far accepted)) 6 then 0 else (if nat_eq (length (bytes_so_far accepted)) 12 then 1 else 2)

pub rank_most : (accepted : List Accepted) → rank accepted ≤ 2
rank_most accepted = either (λ (r : ℕ). r ≤ 2) (nat_eq (length (bytes_so_far accepted)) 6) 0 (if nat_eq (length (bytes_so_far accepted)) 12 then 1 else 2) (λ e. omega arith)
    (λ e. either (λ (r : ℕ). r ≤ 2) (nat_eq (length (bytes_so_far accepted)) 12) 1 2 (λ f. omega arith) (λ f. omega arith))

rank_six : (accepted : List Accepted) → length (bytes_so_far accepted) ≡ 6 → rank accepted ≡ 0
rank_six accepted e = ap (λ (k : ℕ). if nat_eq k 6 then 0 else (if nat_eq k 12 then 1 else 2)) e

rank_twelve : (accepted : List Accepted) → length (bytes_so_far accepted) ≡ 12 → rank accepted ≡ 1
rank_twelve accepted e = ap (λ (k : ℕ). if nat_eq k 6 then 0 else (if nat_eq k 12 then 1 else 2)) e

-- the requests that still count are all of them, or none
recent_is : (accepted : List Accepted) (now : ℕ) → (recent_requests accepted now ≡ accepted) ⊎ (recent_requests accepted now ≡ [])
recent_is accepted now = either (λ (l : List Accepted). (l ≡ accepted) ⊎ (l ≡ [])) (nat_lt (last_moment accepted + stage_timeout) now) [] accepted (λ e. inr refl) (λ e. inl refl)

equal : (a b : ℕ) → nat_eq a b ≡ true → a ≡ b
equal a b e = elim (eqb_tells a b) [ inl z ↦ z.1 | inr z ↦ absurd (cc (sym e ∙ z.0)) ]

-- ---- what becomes of a request

module _ (accepted : List Accepted) (message : Allocation) (now : ℕ) where
  -- it is ignored, and what was accepted stays, or is too old
  abbrev pub IsIgnored : Type 0
  IsIgnored = (why : Ignore) × (answer accepted message now true ≡ Ignored why)
      × ((after accepted message now true ≡ accepted) ⊎ (after accepted message now true ≡ []))

  -- it is accepted: a follow-up is given, or nothing is left accepted
  abbrev pub IsTaken : Type 0
  IsTaken = ((bytes : List ℕ) × (answer accepted message now true ≡ FollowUp (record { items = bytes })) × (length bytes ≤ 16)) ⊎ (after accepted message now true ≡ [])

  -- where it is no first one, fewer may follow
  abbrev pub CountsDown : Type 0
  CountsDown = message.first_part ≡ false → suc (rank accepted) ≤ rank (after accepted message now true)

  abbrev recent : List Accepted
  recent = recent_requests accepted now

  abbrev more : List Accepted
  more = with_request recent message now

  left : after accepted message now true ≡ recent → (after accepted message now true ≡ accepted) ⊎ (after accepted message now true ≡ [])
  left e = elim (recent_is accepted now) [ inl z ↦ inl (e ∙ z) | inr z ↦ inr (e ∙ z) ]

  wrong_length : has_length message ≡ false → (answer accepted message now true ≡ Ignored why.Length) × (after accepted message now true ≡ recent)
  unfolding answer after
  wrong_length e = rw (e) (refl, refl)

  wrong_stage : has_length message ≡ true → is_expected recent message ≡ false → (answer accepted message now true ≡ Ignored why.Stage) × (after accepted message now true ≡ recent)
  unfolding answer after
  wrong_stage e f = rw (e) (rw (f) (refl, refl))

  is_all : has_length message ≡ true → is_expected recent message ≡ true → is_whole more ≡ true → after accepted message now true ≡ []
  unfolding after
  is_all e f h = rw (e) (rw (f) (rw (h) refl))

  is_part : has_length message ≡ true → is_expected recent message ≡ true → is_whole more ≡ false
      → (answer accepted message now true ≡ FollowUp (record { items = bytes_so_far more })) × (after accepted message now true ≡ more)
  unfolding answer after
  is_part e f h = rw (e) (rw (f) (rw (h) (refl, refl)))

  -- how many bytes there are then
  sum : (stage : Stage) → stage_of message ≡ stage → has_length message ≡ true → is_expected recent message ≡ true
      → (length (bytes_so_far recent) ≡ bytes_before stage) × (length (bytes_so_far more) ≡ bytes_before stage + stage_length stage)
  sum stage is e f =
      let own : length message.uid.items ≡ stage_length stage = equal (length message.uid.items) (stage_length (stage_of message)) e ∙ ap stage_length is in
      let old : length (bytes_so_far recent) ≡ bytes_before stage = equal (length (bytes_so_far recent)) (bytes_before (stage_of message)) f ∙ ap bytes_before is in (
        old,
        length-append (bytes_so_far recent) message.uid.items ∙ (λ i. old i + own i),
      )

  accepted_is : (k : ℕ) → 1 ≤ k → length (bytes_so_far recent) ≡ k → recent ≡ accepted
  accepted_is k some e = elim (recent_is accepted now) [
    | inl z ↦ z
    | inr z ↦ let none : length (bytes_so_far recent) ≡ 0 = ap (λ (l : List Accepted). length (bytes_so_far l)) z in absurd (omega (arith, none, e, some))
  ]

  part : (k : ℕ) → length (bytes_so_far more) ≡ k → nat_eq k 16 ≡ false → is_whole more ≡ false
  part k e f = ap (λ (l : ℕ). nat_eq l 16) e ∙ f

  all : length (bytes_so_far more) ≡ 16 → is_whole more ≡ true
  all e = ap (λ (l : ℕ). nat_eq l 16) e

  taken : (stage : Stage) → stage_of message ≡ stage → has_length message ≡ true → is_expected recent message ≡ true → IsTaken × CountsDown
  taken First is e f =
      let s = sum First is e f in
      let p = is_part e f (part 6 s.1 refl) in (
        inl (bytes_so_far more, p.0, let l = s.1 in omega (arith, l)),
        λ none. first_none (message.first_part) none is,
      )
    where
      first_none : (b : Bool) → b ≡ false → (if b then First else (if nat_eq (length message.uid.items) 6 then Second else Third)) ≡ First
          → suc (rank accepted) ≤ rank (after accepted message now true)
      first_none true none same = absurd (cc (none))
      first_none false none same = either (λ (x : Stage). x ≡ First → suc (rank accepted) ≤ rank (after accepted message now true)) (nat_eq (length message.uid.items) 6) Second Third
          (λ h x. absurd (cc (x))) (λ h x. absurd (cc (x))) same
  taken Second is e f =
      let s = sum Second is e f in
      let p = is_part e f (part 12 s.1 refl) in
      let before : rank accepted ≡ 0 = ap rank (sym (accepted_is 6 (omega arith) s.0)) ∙ rank_six recent s.0 in
      let left_then : rank (after accepted message now true) ≡ 1 = ap rank p.1 ∙ rank_twelve more s.1 in (
        inl (bytes_so_far more, p.0, let l = s.1 in omega (arith, l)),
        λ none. omega (arith, before, left_then),
      )
  taken Third is e f =
      let s = sum Third is e f in
      let p = is_all e f (all s.1) in
      let before : rank accepted ≡ 1 = ap rank (sym (accepted_is 12 (omega arith) s.0)) ∙ rank_twelve recent s.0 in
      let left_then : rank (after accepted message now true) ≡ 2 = ap rank p in (
        inr p,
        λ none. omega (arith, before, left_then),
      )

  -- it is ignored or accepted
  pub becomes : IsIgnored ⊎ (IsTaken × CountsDown)
  becomes = elim (tell (has_length message)) [
    | inl e ↦ elim (tell (is_expected recent message)) [
      | inl f ↦ inr (taken (stage_of message) refl e f)
      | inr f ↦ let w = wrong_stage e f in inl (why.Stage, w.0, left w.1)
    ]
    | inr e ↦ let w = wrong_length e in inl (why.Length, w.0, left w.1)
  ]

  -- the rank of what stays
  pub rank_left : ((after accepted message now true ≡ accepted) ⊎ (after accepted message now true ≡ [])) → rank accepted ≤ rank (after accepted message now true)
  rank_left (inl e) = let s = ap rank e in omega (arith, s)
  rank_left (inr e) = let s : rank (after accepted message now true) ≡ 2 = ap rank e in let m = rank_most accepted in omega (arith, s, m)

-- ---- a request that is ignored

module _ (t : AllocatorState) (number : ℕ) (arrival : Arrival) (d : Delivery) (message : Allocation) (gives : comes_to t arrival ≡ Gives d) (kind : d.ident.kind ≡ Anonymous)
    (says : allocation_of d.payload ≡ Some message) (ready : IsReady t) (none : has_to_tell (when_committed t number (Rx arrival)).allocator.raft_server ≡ false)
    (why : Ignore) (ignored : answer t.accepted message (max t.now arrival.moment) true ≡ Ignored why) where
  abbrev come : StepState
  come = when_come t number arrival

  before : IsAsBefore t.raft_server come.allocator.raft_server
  before = begun t number arrival

  offers_none : (when_seen t number (Rx arrival)).offers ≡ []
  offers_none = ap (λ (s : StepState). s.offers) (seen_is t number arrival d message gives kind says)
      ∙ ap (λ (h : Heard). (server.answers_request number h (server.with_request message come)).offers)
      (ap (λ (b : Bool). answer t.accepted message (max t.now arrival.moment) b) (same_follow t come.allocator.raft_server before.store before.role ∙ may t ready) ∙ ignored)

  -- no Allocation is offered
  pub ignored_free : (o : Offer) → In o (step t number (Rx arrival)).step_state.offers → o.what ≡ Alloc → ⊥
  ignored_free o i e = subst (λ (l : List Offer). In o l) offers_none (end_from t number (Rx arrival) none o i e)
