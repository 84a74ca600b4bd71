-- When a fault of the outside is answered.
use Rattle.std.specs.Prelude.{◌≡◌, ◌⊎◌, ℕ}
use Rattle.outside.specs.Faults.{Rose}

-- A status names the object that failed: with it the object's count of faults rose, and with every other one it stays.
-- So no fault is passed over, and no call that failed is tried again.
pub record NamesFault (named : Type 0) (before now : ℕ) : Type 0 where
  pub rose : named → Rose before now
  pub kept : named ⊎ (now ≡ before)
