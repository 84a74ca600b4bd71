-- Facts of what is chosen by a test.
use Rattle.std.proofs.Common.{◌≡◌, ◌≢◌, ℕ, ◌<◌, ◌≤◌, Bool, true, false, ◌⊎◌, inl, inr, refl, arith}
use Rattle.std.specs.Prelude.{◌&&◌, not, nat_le, nat_lt, nat_eq, if◌then◌else◌}
use Rattle.std.proofs.lemmas.Bool.Decides.{eqb_tells, leb_tells}

pub tell : (b : Bool) → (b ≡ true) ⊎ (b ≡ false)
tell true = inl refl
tell false = inr refl

-- a fact of both is one of the choice
pub either : {A : Type 0} (P : A → Type 0) (b : Bool) (x y : A) → (b ≡ true → P x) → (b ≡ false → P y) → P (if b then x else y)
either P true x y f g = f refl
either P false x y f g = g refl

pub and_left : (a b : Bool) → (a && b) ≡ true → a ≡ true
and_left true b h = refl
and_left false b h = h

pub and_right : (a b : Bool) → (a && b) ≡ true → b ≡ true
and_right true b h = h
and_right false b h = absurd (cc)

pub not_true : (b : Bool) → not b ≡ true → b ≡ false
not_true true h = absurd (cc)
not_true false h = refl

pub lt_tells : (a b : ℕ) → ((nat_lt a b ≡ true) × (a < b)) ⊎ ((nat_lt a b ≡ false) × (b ≤ a))
lt_tells a b = grind (arith, leb_tells)

pub lt_true : (a b : ℕ) → nat_lt a b ≡ true → a < b
lt_true a b h = elim (lt_tells a b) [ inl z ↦ z.1 | inr z ↦ absurd (cc (h, z.0)) ]

pub le_true : (a b : ℕ) → nat_le a b ≡ true → a ≤ b
le_true a b h = elim (leb_tells a b) [ inl z ↦ z.1 | inr z ↦ absurd (cc (h, z.0)) ]

pub eq_true : (a b : ℕ) → nat_eq a b ≡ true → a ≡ b
eq_true a b h = elim (eqb_tells a b) [ inl z ↦ z.1 | inr z ↦ absurd (cc (h, z.0)) ]

pub eq_false : (a b : ℕ) → nat_eq a b ≡ false → a ≢ b
eq_false a b h e = elim (eqb_tells a b) [ inl z ↦ absurd (cc (h, z.0)) | inr z ↦ z.1 e ]
