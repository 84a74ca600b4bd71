-- What stands in a log, and what is not there.
use Rattle.std.proofs.Common.{◌≡◌, ◌≢◌, ℕ, zero, suc, ◌<◌, ◌≤◌, Bool, true, false, List, [], ◌∷◌, length, get_or, inl, inr, refl, subst, arith, Some, None}
use Rattle.std.specs.Prelude.{not, nat_eq, nat_lt, cond, is_some, slice_index_or}
use Rattle.std.specs.List.{prefix_len}
use Rattle.std.specs.Str.{bytes_eq}
use Rattle.std.proofs.lemmas.List.Sums.{prefix_len_passes, prefix_len_stops}
use Rattle.std.proofs.lemmas.Slice.Eq.{bytes_eq-Decides}
use Rattle.can_frame.specs.declared.entry.Entry.{Entry}
use Rattle.can_frame.specs.Log.{HasNodeId, HasUid, blank}
use Rattle.can_frame.specs.Zeros.{zeros}
use Rattle.raft_model.specs.Lists.{In}
use Rattle.alloc_spec.specs.AllocatorState.{is_recorded, is_zero, recorded_at}
use Rattle.alloc_spec_laws.proofs.Choices.{eq_false, lt_tells}
use Rattle.alloc_spec_laws.proofs.Lists.{none_passes}

pub get_in : {A : Type 0} (xs : List A) (place : ℕ) (d : A) → place < length xs → In (get_or xs place d) xs
get_in [] place d h = absurd (omega (arith, h))
get_in (x ∷ xs) zero d h = inl refl
get_in (x ∷ xs) (suc place) d h = inr (get_in xs place d (omega (arith, h)))

pub no_zeros : (uid : List ℕ) → is_zero uid ≡ false → uid ≢ zeros
no_zeros uid z e = absurd (cc ((bytes_eq-Decides uid zeros).1 e, z))

pub are_zeros : (uid : List ℕ) → is_zero uid ≡ true → uid ≡ zeros
are_zeros uid z = (bytes_eq-Decides uid zeros).0 z

pub not_recorded : (log : List Entry) (node : ℕ) → is_recorded log node ≡ false → HasNodeId log node → ⊥
not_recorded log node none h =
    eq_false (slice_index_or log h.place (blank 0)).node node
    (none_passes (λ entry. nat_eq entry.node node) log none (slice_index_or log h.place (blank 0)) (get_in log h.place (blank 0) h.within)) h.same

-- a unique ID that is found nowhere stands nowhere
-- an entry of another unique ID
abbrev is_other : List ℕ → Entry → Bool
is_other uid entry = not (bytes_eq entry.uid uid)

nowhere : (within : Bool) (place : ℕ) → is_some (cond within (Some place) None) ≡ false → within ≡ false
nowhere true place e = absurd (cc (e))
nowhere false place e = refl

pub not_told : (log : List Entry) (uid : List ℕ) → is_some (recorded_at log uid) ≡ false → HasUid log uid → ⊥
not_told log uid none h = absurd (cc (passes, (bytes_eq-Decides (slice_index_or log h.place (blank 0)).uid uid).1 h.same))
  where
    all : length log ≤ prefix_len (is_other uid) log
    all = elim (lt_tells (prefix_len (is_other uid) log) (length log)) [
      | inl z ↦ absurd (cc (z.0, nowhere (nat_lt (prefix_len (is_other uid) log) (length log)) (prefix_len (is_other uid) log) none))
      | inr z ↦ z.1
    ]

    passes : not (bytes_eq (slice_index_or log h.place (blank 0)).uid uid) ≡ true
    passes = prefix_len_passes (is_other uid) log h.place (blank 0) (omega (arith, all, h.within))

somewhere : (within : Bool) (at_place place : ℕ) → cond within (Some at_place) None ≡ Some place → (within ≡ true) × (at_place ≡ place)
somewhere true at_place place e = (refl, cc (e))
somewhere false at_place place e = absurd (cc (e))

-- where it is found it stands
pub told_at : (log : List Entry) (uid : List ℕ) (place : ℕ) → recorded_at log uid ≡ Some place → (slice_index_or log place (blank 0)).uid ≡ uid
told_at log uid place e =
    (bytes_eq-Decides (slice_index_or log place (blank 0)).uid uid).0
    (not_false (bytes_eq (slice_index_or log place (blank 0)).uid uid)
    (subst (λ (p : ℕ). not (bytes_eq (slice_index_or log p (blank 0)).uid uid) ≡ false) found.1
    (prefix_len_stops (is_other uid) log (blank 0) inside)))
  where
    found : (nat_lt (prefix_len (is_other uid) log) (length log) ≡ true) × (prefix_len (is_other uid) log ≡ place)
    found = somewhere (nat_lt (prefix_len (is_other uid) log) (length log)) (prefix_len (is_other uid) log) place e

    inside : prefix_len (is_other uid) log < length log
    inside = elim (lt_tells (prefix_len (is_other uid) log) (length log)) [ inl z ↦ z.1 | inr z ↦ absurd (cc (found.0, z.0)) ]

    not_false : (b : Bool) → not b ≡ false → b ≡ true
    not_false true h = refl
    not_false false h = absurd (cc (h))
