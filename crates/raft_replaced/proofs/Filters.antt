-- What a filter leaves of a list, and truth values.
use Rattle.std.proofs.Common.{◌≡◌, ℕ, Bool, true, false, List, [], ◌∷◌, ◌++◌, refl, ◌∙◌, ap, inl, inr, ◌⊎◌}
use Rattle.std.specs.Prelude.{◌==◌, ◌&&◌, ◌||◌, filter}
use Rattle.std.proofs.lemmas.Bool.Decides.{eqb_tells}
use Rattle.raft_model.specs.Lists.{In}
use Rattle.raft_model.proofs.Apart.{clash}
use Rattle.raft_model.proofs.Quorum.{tell}

pub in_filter : {A : Type 0} (p : A → Bool) (xs : List A) (x : A) → In x (filter p xs) → In x xs × (p x ≡ true)
in_filter p [] x i = absurd i
in_filter p (y ∷ ys) x i =
    elim (tell (p y)) [
      | inl a ↦
          let i2 : In x (y ∷ filter p ys) = rw a at i in
          elim i2 [ inl e ↦ (inl e, ap p e ∙ a) | inr j ↦ let r = in_filter p ys x j in (inr r.0, r.1) ]
      | inr a ↦
          let i2 : In x (filter p ys) = rw a at i in
          let r = in_filter p ys x i2 in (inr r.0, r.1)
    ]

pub filter_has : {A : Type 0} (p : A → Bool) (xs : List A) (x : A) → In x xs → p x ≡ true → In x (filter p xs)
filter_has p [] x i h = absurd i
filter_has p (y ∷ ys) x i h =
    elim (tell (p y)) [
      | inl a ↦ rw a (elim i [ inl e ↦ inl e | inr j ↦ inr (filter_has p ys x j h) ])
      | inr a ↦ elim i [ inl e ↦ absurd (clash (p x) h (ap p e ∙ a)) | inr j ↦ rw a (filter_has p ys x j h) ]
    ]

pub in_append_left : {A : Type 0} (xs ys : List A) (x : A) → In x xs → In x (xs ++ ys)
in_append_left [] ys x i = absurd i
in_append_left (y ∷ xs) ys x i = elim i [ inl e ↦ inl e | inr j ↦ inr (in_append_left xs ys x j) ]

pub in_append_right : {A : Type 0} (xs ys : List A) (x : A) → In x ys → In x (xs ++ ys)
in_append_right [] ys x i = i
in_append_right (y ∷ xs) ys x i = inr (in_append_right xs ys x i)

pub in_append : {A : Type 0} (xs ys : List A) (x : A) → In x (xs ++ ys) → In x xs ⊎ In x ys
in_append [] ys x i = inr i
in_append (y ∷ xs) ys x i = elim i [
  | inl e ↦ inl (inl e)
  | inr j ↦ elim (in_append xs ys x j) [ inl k ↦ inl (inr k) | inr k ↦ inr k ]
]

pub or_left : (a b : Bool) → a ≡ true → (a || b) ≡ true
or_left true b h = refl
or_left false b h = absurd (cc)

pub or_right : (a b : Bool) → b ≡ true → (a || b) ≡ true
or_right true b h = refl
or_right false b h = h

pub or_elim : (a b : Bool) → (a || b) ≡ true → (a ≡ true) ⊎ (b ≡ true)
or_elim true b h = inl refl
or_elim false b h = inr h

pub and_both : (a b : Bool) → a ≡ true → b ≡ true → (a && b) ≡ true
and_both true b h k = k
and_both false b h k = absurd (cc)

pub equal_true : (a b : ℕ) → a ≡ b → (a == b) ≡ true
equal_true a b e = elim (eqb_tells a b) [ inl h ↦ h.0 | inr h ↦ absurd (h.1 e) ]
