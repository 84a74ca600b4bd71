-- Node IDs that are searched for in a list of members.
use Rattle.std.proofs.Common.{◌≡◌, ◌<◌, ◌+◌, inl, inr, ℕ, zero, suc, true, false, List, [], ◌∷◌, sym, subst, ◌∙◌, arith}
use Rattle.std.specs.Prelude.{◌==◌, slice_index}
use Rattle.std.specs.List.{Contains, list_any}
use Rattle.std.proofs.lemmas.Bool.{true≢false}
use Rattle.std.proofs.lemmas.Bool.Decides.{eqb_tells}
use Rattle.std.proofs.lemmas.List.Folds.{list_any_at}
use Rattle.std.specs.Prelude.{slice_index_or}

-- one that was found
pub is_there : (xs : List ℕ) (x : ℕ) → list_any (λ y. y == x) xs ≡ true → Contains xs x
is_there [] x e = absurd (true≢false (sym e))
is_there (y ∷ ys) x e = elim (eqb_tells y x) as (λ _. Contains (y ∷ ys) x) [
  | inl t ↦ (zero, omega arith, t.1)
  | inr t ↦ let rest = is_there ys x (rw t.0 at e) in (suc rest.0, omega (arith, rest.1), rest.2)
]

-- one that was not
pub not_there : (xs : List ℕ) (x : ℕ) → list_any (λ y. y == x) xs ≡ false → Contains xs x → ⊥
not_there xs x e has =
    let same : (slice_index_or xs has.0 x == x) ≡ true = elim (eqb_tells (slice_index_or xs has.0 x) x) [
      | inl t ↦ t.0
      | inr t ↦ absurd (t.1 has.2)
    ] in
    true≢false (sym (list_any_at (λ y. y == x) xs has.0 x has.1 same) ∙ e)

-- one more that was found
pub more_there : (members ids : List ℕ) (k : ℕ) → ((i : ℕ) → i < k → Contains members (slice_index ids i))
    → list_any (λ y. y == slice_index ids k) members ≡ true → (i : ℕ) → i < k + 1 → Contains members (slice_index ids i)
more_there members ids k so_far found i below = elim (eqb_tells i k) as (λ _. Contains members (slice_index ids i)) [
  | inl t ↦ subst (λ j. Contains members (slice_index ids j)) (sym t.1) (is_there members (slice_index ids k) found)
  | inr t ↦ so_far i (omega (arith, below, t.1))
]
