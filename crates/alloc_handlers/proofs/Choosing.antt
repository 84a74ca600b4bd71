-- A choice, once it is known.
use Rattle.std.proofs.Common.{◌≡◌, ℕ, Bool, true, false, sym, subst, arith, if◌then◌else◌, nat_eq}
use Rattle.alloc_handlers.proofs.Words.{nat_tests}

pub then_ : {A : Type 0} (P : A → Type 0) (b : Bool) (x y : A) → b ≡ true → P x → P (if b then x else y)
then_ P b x y is p = subst (λ (v : Bool). P (if v then x else y)) (sym is) p

pub otherwise : {A : Type 0} (P : A → Type 0) (b : Bool) (x y : A) → b ≡ false → P y → P (if b then x else y)
otherwise P b x y is p = subst (λ (v : Bool). P (if v then x else y)) (sym is) p

pub same_number : (n m : ℕ) → n ≡ m → nat_eq n m ≡ true
same_number n m is = grind (arith, nat_tests)

pub other_number : (n m : ℕ) → (n ≡ m → ⊥) → nat_eq n m ≡ false
other_number n m not = grind (arith, nat_tests)
