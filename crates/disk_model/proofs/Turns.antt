-- Device calls that were made one after the other.
use Rattle.std.proofs.Common.{◌≡◌, ◌⊎◌, inl, inr, Bool, true, false, List, [], ◌∷◌, ◌++◌, refl, subst}
use Rattle.disk_model.specs.Device.{DeviceCall, Makes}

module _ {D : Type 0} (does : D → DeviceCall → Bool → D → Type 0) where
  pub joined : (xs ys : List DeviceCall) (ok : Bool) (old between new : D) → Makes does xs true old between → Makes does ys ok between new → Makes does (xs ++ ys) ok old new
  joined [] ys ok old between new none rest = subst (λ d. Makes does ys ok d new) none.1 rest
  joined (x ∷ xs) ys ok old between new (inl failed) rest = absurd (cc (failed.0))
  joined (x ∷ xs) ys ok old between new (inr first) rest = inr (first.0, first.1, joined xs ys ok first.0 between new first.2 rest)

  pub cut_off : (xs ys : List DeviceCall) (old new : D) → Makes does xs false old new → Makes does (xs ++ ys) false old new
  cut_off [] ys old new none = absurd (cc (none.0))
  cut_off (x ∷ xs) ys old new (inl failed) = inl failed
  cut_off (x ∷ xs) ys old new (inr first) = inr (first.0, first.1, cut_off xs ys first.0 new first.2)

  -- what was made of two lists: not all of the first, or all of it and then of the second
  abbrev pub Parted : List DeviceCall → List DeviceCall → Bool → D → D → Type 0
  Parted xs ys ok old new = ((ok ≡ false) × Makes does xs false old new) ⊎ ((between : D) × Makes does xs true old between × Makes does ys ok between new)

  after_first : (x : DeviceCall) (xs ys : List DeviceCall) (ok : Bool) (old next new : D) → does old x true next → Parted xs ys ok next new → Parted (x ∷ xs) ys ok old new
  after_first x xs ys ok old next new first (inl failed) = inl (failed.0, inr (next, first, failed.1))
  after_first x xs ys ok old next new first (inr made) = inr (made.0, inr (next, first, made.1), made.2)

  pub parted : (xs ys : List DeviceCall) (ok : Bool) (old new : D) → Makes does (xs ++ ys) ok old new → Parted xs ys ok old new
  parted [] ys ok old new made = inr (old, (refl, refl), made)
  parted (x ∷ xs) ys ok old new (inl failed) = inl (failed.0, inl (refl, failed.1))
  parted (x ∷ xs) ys ok old new (inr first) = after_first x xs ys ok old first.0 new first.1 (parted xs ys ok first.0 new first.2)
