-- What stands in a list.
use Rattle.std.proofs.Common.{◌≡◌, ℕ, zero, suc, ◌+◌, ◌<◌, ◌≤◌, Bool, true, false, List, [], ◌∷◌, ◌++◌, ◌⊎◌, inl, inr, sym, ◌∙◌, ap, subst, arith, Some, find, drop, refl, Option, None}
use Rattle.std.specs.Prelude.{filter_map}
use Rattle.std.specs.List.{list_any, range_with_len}
use Rattle.raft_model.specs.Lists.{In}
use Rattle.raft_model.specs.Members.{HasNoneTwice}
use Rattle.alloc_spec_laws.proofs.Choices.{tell}

pub in_append : {A : Type 0} (x : A) (xs ys : List A) → In x (xs ++ ys) → In x xs ⊎ In x ys
in_append x [] ys i = inr i
in_append x (y ∷ xs) ys (inl e) = inl (inl e)
in_append x (y ∷ xs) ys (inr i) = elim (in_append x xs ys i) [ inl j ↦ inl (inr j) | inr j ↦ inr j ]

pub in_front : {A : Type 0} (x : A) (xs ys : List A) → In x xs → In x (xs ++ ys)
in_front x [] ys i = elim i [ ]
in_front x (y ∷ xs) ys (inl e) = inl e
in_front x (y ∷ xs) ys (inr i) = inr (in_front x xs ys i)

pub in_back : {A : Type 0} (x : A) (xs ys : List A) → In x ys → In x (xs ++ ys)
in_back x [] ys i = i
in_back x (y ∷ xs) ys i = inr (in_back x xs ys i)

pub once_more : (xs : List ℕ) (y : ℕ) → HasNoneTwice xs → (In y xs → ⊥) → HasNoneTwice (xs ++ y ∷ [])
once_more [] y h n = ((λ i. i), tt)
once_more (x ∷ xs) y h n = (
  λ i. elim (in_append x xs (y ∷ []) i) [ inl j ↦ h.0 j | inr (inl e) ↦ n (inl (sym e)) | inr (inr j) ↦ j ],
  once_more xs y h.1 (λ i. n (inr i)),
)

-- what is found passes the test, and stands in the list
pub found : {A : Type 0} (test : A → Bool) (xs : List A) (x : A) → find test xs ≡ Some x → (test x ≡ true) × In x xs
found test [] x e = absurd (cc)
found test (y ∷ ys) x e = elim (tell (test y)) [
  | inl t ↦
      let s : y ≡ x = cc (rw t at e) in
      (subst (λ z. test z ≡ true) s t, inl (sym s))
  | inr f ↦ let r = found test ys x (rw f at e) in (r.0, inr r.1)
]

pub in_range : (from count x : ℕ) → In x (range_with_len from count) → (from ≤ x) × (x < from + count)
in_range from zero x i = elim i [ ]
in_range from (suc count) x (inl e) = (omega (arith, e), omega (arith, e))
in_range from (suc count) x (inr i) = let r = in_range (from + 1) count x i in (omega (arith, r.0), omega (arith, r.1))

-- no item of a list passes
pub none_passes : {A : Type 0} (test : A → Bool) (xs : List A) → list_any test xs ≡ false → (x : A) → In x xs → test x ≡ false
none_passes test [] h x i = elim i [ ]
none_passes test (y ∷ ys) h x i = elim (tell (test y)) [
  | inl t ↦ absurd (cc (rw t at h))
  | inr f ↦ elim i [ inl e ↦ ap test e ∙ f | inr j ↦ none_passes test ys (rw f at h) x j ]
]

pub in_drop : {A : Type 0} (x : A) (xs : List A) → In x (drop 1 xs) → In x xs
in_drop x [] i = i
in_drop x (y ∷ ys) i = inr i

-- what is left of a list came from it
pub in_filter : {A B : Type 0} (f : A → Option B) (xs : List A) (y : B) → In y (filter_map f xs) → (x : A) × In x xs × (f x ≡ Some y)
in_filter {A} {B} f [] y i = absurd i
in_filter {A} {B} f (x ∷ xs) y i = elim (split (f x) refl) [
  | inl none ↦ let r = in_filter f xs y (rw none at i) in (r.0, inr r.1, r.2)
  | inr some ↦ elim (rw (some.1) at i) [
    | inl e ↦ (x, inl refl, some.1 ∙ ap (λ (z : B). Some z) (sym e))
    | inr j ↦ let r = in_filter f xs y j in (r.0, inr r.1, r.2)
  ]
]
  where
    split : (o : Option B) → f x ≡ o → (f x ≡ None) ⊎ ((z : B) × (f x ≡ Some z))
    split None e = inl e
    split (Some z) e = inr (z, e)
