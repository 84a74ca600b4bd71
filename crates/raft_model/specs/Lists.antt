-- Words on lists and functions.
use Rattle.std.specs.Prelude.{◌≡◌, ◌≢◌, ℕ, ◌+◌, Bool, true, false, List, [], ◌∷◌, ◌==◌, if◌then◌else◌, ◌⊎◌}
use Rattle.std.proofs.Common.{ap, inl, inr}
use Rattle.std.proofs.lemmas.Bool.Decides.{eqb_tells}

-- x stands in the list
abbrev pub In : {A : Type 0} → A → List A → Type 0
In x [] = ⊥
In x (y ∷ ys) = (x ≡ y) ⊎ In x ys

-- the values, with x at this place
abbrev pub at : {A : Type 0} → (ℕ → A) → ℕ → A → ℕ → A
at values place x other = if other == place then x else values other

-- this place has x then, and each other what it had
pub at_here : {A : Type 0} (values : ℕ → A) (place other : ℕ) (x : A) → other ≡ place →
    at values place x other ≡ x
at_here values place other x e = elim (eqb_tells other place) [
  | inl h ↦ ap (λ (b : Bool). if b then x else values other) h.0
  | inr h ↦ absurd (h.1 e)
]

pub at_other : {A : Type 0} (values : ℕ → A) (place other : ℕ) (x : A) → other ≢ place →
    at values place x other ≡ values other
at_other values place other x n = elim (eqb_tells other place) [
  | inl h ↦ absurd (n h.1)
  | inr h ↦ ap (λ (b : Bool). if b then x else values other) h.0
]

-- whether an item passes the test
abbrev pub any : {A : Type 0} → (A → Bool) → List A → Bool
any test [] = false
any test (x ∷ xs) = if test x then true else any test xs

-- how many items pass the test
abbrev pub how_many : {A : Type 0} → (A → Bool) → List A → ℕ
how_many test [] = 0
how_many test (x ∷ xs) = (if test x then 1 else 0) + how_many test xs
