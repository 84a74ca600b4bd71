-- What stands in lists.
use Rattle.std.proofs.Common.{◌≡◌, ◌≢◌, ℕ, zero, suc, ◌<◌, Bool, true, false, List, [], ◌∷◌, ◌++◌, ◌⊎◌, inl, inr, refl, sym, ◌∙◌, subst, arith, length, take}
use Rattle.std.specs.Prelude.{All, ◌==◌, ◌&&◌, nat_eq, slice_index_or, if◌then◌else◌}
use Rattle.std.proofs.lemmas.Bool.Decides.{eqb_tells}
use Rattle.raft_model.specs.Lists.{In, any}
use Rattle.raft_model.specs.Members.{HasNoneTwice}

-- false is not true
pub never : {X : Type 0} → false ≡ true → X
never e = absurd (cc (e))

-- a test is true or false
pub tell : (b : Bool) → (b ≡ true) ⊎ (b ≡ false)
tell true = inl refl
tell false = inr refl

-- both parts of a conjunction
pub both : (a b : Bool) → (a && b) ≡ true → (a ≡ true) × (b ≡ true)
both true b e = (refl, e)
both false b e = never e

-- two numbers that are tested to be equal are equal
pub equal : (a b : ℕ) → nat_eq a b ≡ true → a ≡ b
equal a b e = elim (eqb_tells a b) [ inl same ↦ same.1 | inr apart ↦ never (sym apart.0 ∙ e) ]

-- an item of two lists, one after the other, is one of the first or of the second
pub in_append : {A : Type 0} (x : A) (xs ys : List A) → In x (xs ++ ys) → In x xs ⊎ In x ys
in_append x [] ys i = inr i
in_append x (y ∷ xs) ys (inl e) = inl (inl e)
in_append x (y ∷ xs) ys (inr i) = elim (in_append x xs ys i) [ inl j ↦ inl (inr j) | inr j ↦ inr j ]

-- an item of the first is one of both
pub in_front : {A : Type 0} (x : A) (xs ys : List A) → In x xs → In x (xs ++ ys)
in_front x [] ys i = elim i [ ]
in_front x (y ∷ xs) ys (inl e) = inl e
in_front x (y ∷ xs) ys (inr i) = inr (in_front x xs ys i)

-- an item of the second is one of both
pub in_back : {A : Type 0} (x : A) (xs ys : List A) → In x ys → In x (xs ++ ys)
in_back x [] ys i = i
in_back x (y ∷ xs) ys i = inr (in_back x xs ys i)

-- the item at a place stands in the list
pub in_at : {A : Type 0} (xs : List A) (i : ℕ) (d : A) → i < length xs → In (slice_index_or xs i d) xs
in_at [] i d h = absurd (omega (arith, h))
in_at (x ∷ xs) zero d h = inl refl
in_at (x ∷ xs) (suc i) d h = inr (in_at xs i d (omega (arith, h)))

-- an item of the first so many is one of all
pub in_taken : {A : Type 0} (count : ℕ) (xs : List A) (x : A) → In x (take count xs) → In x xs
in_taken zero xs x i = absurd i
in_taken (suc count) [] x i = i
in_taken (suc count) (y ∷ xs) x (inl e) = inl e
in_taken (suc count) (y ∷ xs) x (inr i) = inr (in_taken count xs x i)

-- where different places have different numbers, none stands twice
pub none_twice : (xs : List ℕ) → ((i j : ℕ) → i < j → j < length xs → slice_index_or xs i 0 ≢ slice_index_or xs j 0) → HasNoneTwice xs
none_twice [] apart = tt
none_twice (x ∷ xs) apart = (
  λ i. not_behind xs (λ j h. apart 0 (suc j) (omega arith) (omega (arith, h))) i,
  none_twice xs (λ i j h k. apart (suc i) (suc j) (omega (arith, h)) (omega (arith, k))),
)
  where
    not_behind : (ys : List ℕ) → ((j : ℕ) → j < length ys → x ≢ slice_index_or ys j 0) → In x ys → ⊥
    not_behind [] each i = i
    not_behind (y ∷ ys) each (inl e) = each 0 (omega arith) e
    not_behind (y ∷ ys) each (inr i) = not_behind ys (λ j h. each (suc j) (omega (arith, h))) i

-- a fact of all items is one of each that stands in the list
pub of_each : {A : Type 0} (P : A → Type 0) (xs : List A) → All P xs → (x : A) → In x xs → P x
of_each P [] all x i = absurd i
of_each P (y ∷ ys) all x (inl e) = subst P (sym e) (all 0 y (omega arith))
of_each P (y ∷ ys) all x (inr i) = of_each P ys (λ k d h. all (suc k) d (omega (arith, h))) x i

-- a number of the list is found in it
pub is_any : (ids : List ℕ) (n : ℕ) → In n ids → any (λ id. id == n) ids ≡ true
is_any [] n i = absurd i
is_any (id ∷ ids) n (inl e) = by (id == n) (same id n (sym e)) where
  same : (a b : ℕ) → a ≡ b → (a == b) ≡ true
  same a b e = elim (eqb_tells a b) [ inl s ↦ s.0 | inr apart ↦ absurd (apart.1 e) ]

  by : (b : Bool) → b ≡ true → (if b then true else any (λ id. id == n) ids) ≡ true
  by true e = refl
  by false e = never e
is_any (id ∷ ids) n (inr i) = by (id == n) (is_any ids n i) where
  by : (b : Bool) → any (λ id. id == n) ids ≡ true → (if b then true else any (λ id. id == n) ids) ≡ true
  by true e = refl
  by false e = e
