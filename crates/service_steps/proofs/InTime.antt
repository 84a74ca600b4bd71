-- An election in time, and a leader that stays in touch.
use Rattle.std.proofs.Common.{◌≡◌, ◌≢◌, ℕ, ◌+◌, ◌-◌, ◌<◌, ◌≤◌, Bool, true, false, List, [], ◌∷◌, ◌++◌, length, inl, inr, refl, sym, ◌∙◌, ap, subst, arith, drop, Option, Some, None}
use Rattle.std.specs.Prelude.{◌%◌, ◌||◌, nat_le, if◌then◌else◌}
use Rattle.std.proofs.lemmas.Bool.Decides.{eqb_tells, leb_tells}
use Rattle.can_frame.specs.declared.step.What.TheVariants.{AppQ}
use Rattle.can_frame.specs.Timing.{election_spread, election_wait}
use Rattle.raft_core.specs.Calls.{due, due_unless}
use Rattle.raft_core.specs.Times.{Times, given_call, has_waited, is_silent}
use Rattle.raft_model.specs.Lists.{In, at_here, at_other}
use Rattle.raft_model.specs.Messages.{Request}
use Rattle.raft_model.specs.Messages.Message.{Requests}
use Rattle.raft_model.specs.Moves.Leading.{append_request}
use Rattle.raft_model.specs.Moves.Move.{CallToAppend}
use Rattle.raft_model.specs.Server.{Role}
use Rattle.raft_model.specs.Server.Role.{Leader}
use Rattle.alloc_spec.specs.AllocatorState.{members_of}
use Rattle.alloc_spec.specs.Ending.{append_call_bytes, call_phase, calls_all, calls_owed, calls_peer}
use Rattle.alloc_spec.specs.StepState.{StepState, with_counter, with_move_if, with_offer}
use Rattle.alloc_spec.specs.Transfers.{Offer, has_room, id_of}
use Rattle.service_steps.specs.InTime.{IsInTouch}

pub waited : (times : Times) (now : ℕ) → times.since + election_wait + election_spread ≤ now → has_waited times now ≡ true
waited times now h = elim (leb_tells (election_wait + times.word % election_spread) (now - times.since)) [
  | inl z ↦ z.0
  | inr z ↦ absurd (omega (arith, z.1, h))
]

-- ---- a call to one peer

added_last : {A : Type 0} (x : A) (xs : List A) → In x (xs ++ (x ∷ []))
added_last x [] = inl refl
added_last x (y ∷ ys) = inr (added_last x ys)

still_in : {A : Type 0} (x y : A) (xs : List A) → In x xs → In x (xs ++ (y ∷ []))
still_in x y [] i = absurd i
still_in x y (z ∷ zs) (inl e) = inl e
still_in x y (z ∷ zs) (inr i) = inr (still_in x y zs i)

some_call : (request : Request) (pending : Option Request) → pending ≡ Some request → pending ≢ None
some_call request pending e none = absurd (cc (e, none))

not_due : (last next : ℕ) (silent : Bool) → (nat_le next last || silent) ≡ false → (last < next) × (silent ≡ false)
not_due last next silent h = elim (leb_tells next last) [
  | inl z ↦ absurd (cc (z.0, h))
  | inr z ↦ (z.1, rw (z.0) at h)
]

module _ (number : ℕ) where
  abbrev Touched : ℕ → StepState → Type 0
  Touched peer g = (g.allocator.raft_server.memory.role ≡ Leader) × IsInTouch peer g

  abbrev next_request : ℕ → StepState → Request
  next_request q g = append_request g.allocator.me number g.allocator.raft_server.store q (g.allocator.raft_server.memory.next q - 1) true

  -- the offer of an append call
  abbrev call_offer : ℕ → StepState → Bool → Offer
  call_offer q g fits = record {
    what = AppQ;
    to = q;
    id = id_of g.allocator.ids AppQ q;
    payload = append_call_bytes (next_request q g);
    re = 0;
    says = Some (Requests (next_request q g));
    fitted = fits;
  }

  -- the call, where it fits and where not
  abbrev called : ℕ → StepState → Bool → StepState
  called q g fits =
      with_move_if fits number (given_call g.allocator.now (id_of g.allocator.ids AppQ q)) (CallToAppend q (g.allocator.raft_server.memory.next q - 1) true)
      (with_counter fits AppQ q (with_offer number (call_offer q g fits) g))

  abbrev is_due : ℕ → StepState → Bool
  is_due q g = nat_le (g.allocator.raft_server.memory.next q) (length g.allocator.raft_server.store.log) || is_silent (g.allocator.times.appended q) g.allocator.now

  abbrev fits_now : ℕ → StepState → Bool
  fits_now q g = has_room g.allocator.queue (append_call_bytes (next_request q g))

  -- by what is pending and what is due
  abbrev shaped : ℕ → StepState → Option Request → Bool → StepState
  shaped q g pending is = calls_owed number (due_unless pending (if is then Some (CallToAppend q (g.allocator.raft_server.memory.next q - 1) true) else None)) g

  shape : (q : ℕ) (g : StepState) → g.allocator.raft_server.memory.role ≡ Leader → calls_peer number q g ≡ shaped q g (g.allocator.raft_server.memory.pending q) (is_due q g)
  shape q g leads = ap (λ (role : Role). calls_owed number (due_unless (g.allocator.raft_server.memory.pending q) (due role g.allocator.raft_server g.allocator.times q g.allocator.now)) g) leads

  -- whoever is called is in touch
  called_one : (q : ℕ) (g : StepState) (fits : Bool) → g.allocator.raft_server.memory.role ≡ Leader → Touched q (called q g fits)
  called_one q g true leads = (
    leads,
    inl (some_call (next_request q g) ((called q g true).allocator.raft_server.memory.pending q)
        (at_here g.allocator.raft_server.memory.pending q q (Some (next_request q g)) refl)),
  )
  called_one q g false leads = (leads, inr (inr (call_offer q g false, added_last (call_offer q g false) g.offers, refl, refl, refl)))

  shaped_one : (q : ℕ) (g : StepState) (pending : Option Request) (is : Bool) → g.allocator.raft_server.memory.pending q ≡ pending → is_due q g ≡ is →
      g.allocator.raft_server.memory.role ≡ Leader → Touched q (shaped q g pending is)
  shaped_one q g (Some request) is ep ei leads = (leads, inl (some_call request (g.allocator.raft_server.memory.pending q) ep))
  shaped_one q g None false ep ei leads = (
    leads,
    inr (inl (not_due (length g.allocator.raft_server.store.log) (g.allocator.raft_server.memory.next q)
        (is_silent (g.allocator.times.appended q) g.allocator.now) ei)),
  )
  shaped_one q g None true ep ei leads = called_one q g (fits_now q g) leads

  one : (q : ℕ) (g : StepState) → g.allocator.raft_server.memory.role ≡ Leader → Touched q (calls_peer number q g)
  one q g leads = subst (λ (h : StepState). Touched q h) (sym (shape q g leads))
      (shaped_one q g (g.allocator.raft_server.memory.pending q) (is_due q g) refl refl leads)

  -- and a call to another leaves it so
  called_other : (p q : ℕ) (g : StepState) (fits : Bool) → p ≢ q → Touched p g → Touched p (called q g fits)
  called_other p q g true differs (leads, inl some) = (
    leads,
    inl (λ none. some
        (sym (at_other g.allocator.raft_server.memory.pending q p (Some (next_request q g)) differs) ∙ none)),
  )
  called_other p q g true differs (leads, inr (inl (behind, spoke))) = (
    leads,
    inr (inl (
      behind,
      ap (λ m. is_silent m g.allocator.now) (at_other g.allocator.times.appended q p (Some g.allocator.now) differs) ∙ spoke,
    )),
  )
  called_other p q g true differs (leads, inr (inr (offer, i, what, to, fitted))) = (leads, inr (inr (offer, still_in offer (call_offer q g true) g.offers i, what, to, fitted)))
  called_other p q g false differs (leads, inl some) = (leads, inl some)
  called_other p q g false differs (leads, inr (inl spoke)) = (leads, inr (inl spoke))
  called_other p q g false differs (leads, inr (inr (offer, i, what, to, fitted))) = (leads, inr (inr (offer, still_in offer (call_offer q g false) g.offers i, what, to, fitted)))

  shaped_other : (p q : ℕ) (g : StepState) (pending : Option Request) (is : Bool) → p ≢ q → Touched p g → Touched p (shaped q g pending is)
  shaped_other p q g (Some request) is differs touched = touched
  shaped_other p q g None false differs touched = touched
  shaped_other p q g None true differs touched = called_other p q g (fits_now q g) differs touched

  other : (p q : ℕ) (g : StepState) → Touched p g → Touched p (calls_peer number q g)
  other p q g touched = elim (eqb_tells p q) [
    | inl z ↦ subst (λ (n : ℕ). Touched n (calls_peer number q g)) (sym z.1) (one q g touched.0)
    | inr z ↦ subst (λ (h : StepState). Touched p h) (sym (shape q g touched.0))
        (shaped_other p q g (g.allocator.raft_server.memory.pending q) (is_due q g) z.1 touched)
  ]

  others : (p : ℕ) (peers : List ℕ) (g : StepState) → Touched p g → Touched p (calls_all number peers g)
  others p [] g touched = touched
  others p (q ∷ peers) g touched = others p peers (calls_peer number q g) (other p q g touched)

  -- all that are called
  all : (p : ℕ) (peers : List ℕ) (g : StepState) → In p peers → g.allocator.raft_server.memory.role ≡ Leader → Touched p (calls_all number peers g)
  all p [] g i leads = absurd i
  all p (q ∷ peers) g (inl e) leads = others p peers (calls_peer number q g)
      (subst (λ (n : ℕ). Touched n (calls_peer number q g)) (sym e) (one q g leads))
  all p (q ∷ peers) g (inr i) leads = all p peers (calls_peer number q g) i ((one q g leads).0)

pub in_touch : (number : ℕ) (g : StepState) (peer : ℕ) → g.allocator.raft_server.memory.role ≡ Leader →
    In peer (drop 1 (members_of g.allocator)) → IsInTouch peer (call_phase number g)
in_touch number g peer leads i = (all number peer (drop 1 (members_of g.allocator)) g i leads).1
