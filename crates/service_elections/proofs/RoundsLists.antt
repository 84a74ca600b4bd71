-- Members that are not yet known to be in the highest term: lists of node IDs, and the moments that as many take.
use Rattle.std.proofs.Common.{◌≡◌, ◌≢◌, ℕ, zero, suc, ◌+◌, ◌*◌, ◌<◌, ◌≤◌, arith, List, [], ◌∷◌, length, refl, sym, ◌∙◌, inl, inr}
use Rattle.std.specs.Prelude.{◌⊎◌, ◌==◌, if◌then◌else◌}
use Rattle.std.proofs.lemmas.Bool.Decides.{eqb_tells}
use Rattle.raft_model.specs.Lists.{In}
use Rattle.alloc_spec_laws.proofs.Choices.{either, eq_true}

-- the nodes of the list but this one
pub without : ℕ → List ℕ → List ℕ
without c [] = []
without c (x ∷ xs) = if x == c then without c xs else x ∷ without c xs

pub in_without : (c m : ℕ) (xs : List ℕ) → In m xs → m ≢ c → In m (without c xs)
unfolding without
in_without c m [] i differs = i
in_without c m (x ∷ xs) i differs = either (λ (l : List ℕ). In m l) (x == c) (without c xs) (x ∷ without c xs)
    (λ e. elim i [ inl f ↦ absurd (differs (f ∙ eq_true x c e)) | inr j ↦ in_without c m xs j differs ])
    (λ e. elim i [ inl f ↦ inl f | inr j ↦ inr (in_without c m xs j differs) ])

no_longer : (c : ℕ) (xs : List ℕ) → length (without c xs) ≤ length xs
unfolding without
no_longer c [] = omega arith
no_longer c (x ∷ xs) =
    let h = no_longer c xs in
    either (λ (l : List ℕ). length l ≤ length (x ∷ xs)) (x == c) (without c xs) (x ∷ without c xs) (λ e. omega (arith, h)) (λ e. omega (arith, h))

-- where the node is in the list it is longer
pub shorter : (c : ℕ) (xs : List ℕ) → In c xs → length (without c xs) < length xs
unfolding without
shorter c [] i = absurd i
shorter c (x ∷ xs) i =
    let h = no_longer c xs in
    either (λ (l : List ℕ). length l < length (x ∷ xs)) (x == c) (without c xs) (x ∷ without c xs) (λ e. omega (arith, h))
    (λ e. elim i [
      | inl f ↦ absurd (elim (eqb_tells x c) [ inl z ↦ cc (sym z.0 ∙ e) | inr z ↦ z.1 (sym f) ])
      | inr j ↦ let k = shorter c xs j in omega (arith, k)
    ])

-- a node is in a list or not
pub in_or_not : (m : ℕ) (xs : List ℕ) → In m xs ⊎ (In m xs → ⊥)
in_or_not m [] = inr (λ i. i)
in_or_not m (x ∷ xs) = elim (eqb_tells m x) [
  | inl z ↦ inl (inl z.1)
  | inr z ↦ elim (in_or_not m xs) [ inl i ↦ inl (inr i) | inr none ↦ inr (λ i. elim i [ inl e ↦ z.1 e | inr j ↦ none j ]) ]
]

-- so long as many spans and one more
pub spans : ℕ → ℕ → ℕ
spans zero span = span
spans (suc n) span = span + spans n span

pub spans_zero : (span : ℕ) → spans zero span ≡ span
unfolding spans
spans_zero span = refl

pub spans_suc : (n span : ℕ) → spans (suc n) span ≡ span + spans n span
unfolding spans
spans_suc n span = refl

pub spans_within : (n size span : ℕ) → n < size → spans n span ≤ size * span
spans_within n zero span low = absurd (omega (arith, low))
spans_within zero (suc size) span low = let e = spans_zero span in omega (arith, e)
spans_within (suc n) (suc size) span low =
    let h = spans_within n size span (omega (arith, low)) in let e = spans_suc n span in omega (arith, h, e)
