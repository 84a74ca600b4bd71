-- That an entry is well formed has one proof at most, so a struct may keep it as a ghost field.
use Rattle.std.specs.Prelude.{◌≤◌, ◌⊎◌}
use Rattle.std.proofs.Common.{inl, inr, ap, subst, not-suc-le-zero}
use Rattle.std.proofs.Props.{props}
use Rattle.can_frame.specs.declared.entry.Entry.{Entry}
use Rattle.can_frame.specs.Log.{IsBlank, IsPair, IsReservation, IsWellFormed}

-- a choice of two facts has one proof at most where each has, and where they exclude each other
either-prop : {A B : Type 0} → IsProp A → IsProp B → (A → B → ⊥) → IsProp (A ⊎ B)
either-prop one_a one_b apart (inl x) (inl y) = ap inl (one_a x y)
either-prop one_a one_b apart (inl x) (inr y) = absurd (apart x y)
either-prop one_a one_b apart (inr x) (inl y) = absurd (apart y x)
either-prop one_a one_b apart (inr x) (inr y) = ap inr (one_b x y)

pub IsWellFormed-prop : (entry : Entry) → IsProp (IsWellFormed entry)
IsWellFormed-prop entry = either-prop (hlevel props) (either-prop (hlevel props) (hlevel props) pair_apart) blank_apart
  where
    pair_apart : IsReservation entry → IsPair entry → ⊥
    pair_apart reservation pair = pair.uid reservation.uid

    blank_apart : IsBlank entry → IsReservation entry ⊎ IsPair entry → ⊥
    blank_apart blank (inl reservation) = not-suc-le-zero (subst (λ node. 1 ≤ node) blank.0 reservation.least)
    blank_apart blank (inr pair) = pair.uid blank.1
