-- A frame is read of its identifier and its bytes.
use Rattle.std.proofs.Common.{◌≡◌, ◌<◌, ◌≤◌, ◌^◌, ℕ, List, Option, Some, length, arith, refl, Result, Err}
use Rattle.std.specs.Result.{IsErrOf}
use Rattle.can_frame.specs.declared.frame.Frame.{Frame}
use Rattle.can_frame.specs.declared.frame.BadFrame.{BadFrame}
use Rattle.can_frame.specs.declared.frame.BadFrame.TheVariants.{Wide, Empty, Long}

-- what an option holds
pub one_value : {A : Type 0} (o : Option A) (x y : A) → o ≡ Some x → o ≡ Some y → x ≡ y
one_value o x y first second = cc

-- the identifier and bytes of a frame are not refused
pub not_refused : (r : Result Frame BadFrame) (why : BadFrame) (id : ℕ) (bytes : List ℕ) → r ≡ Err why
    → (IsErrOf r Wide → 2 ^ 29 ≤ id) → (IsErrOf r Empty → length bytes ≡ 0) → (IsErrOf r Long → 8 < length bytes)
    → id < 2 ^ 29 → 0 < length bytes → length bytes ≤ 8 → ⊥
not_refused r Wide id bytes is wide empty long narrow filled short = let h = wide (rw is refl) in omega arith
not_refused r Empty id bytes is wide empty long narrow filled short = let h = empty (rw is refl) in omega arith
not_refused r Long id bytes is wide empty long narrow filled short = let h = long (rw is refl) in omega arith
