-- How a call over an object of the outside moves that object's count of faults.
use Rattle.std.specs.Prelude.{◌≡◌, ℕ, OnOk, Result}
use Rattle.outside.specs.Faults.{HasCause}

-- the call fails only where the count rose, and where it does not fail the count stays
pub record CountsFaults {T E : Type 0} (before now : ℕ) (result : Result T E) : Type 0 where
  pub cause : HasCause before now result
  pub kept : OnOk result (now ≡ before)
