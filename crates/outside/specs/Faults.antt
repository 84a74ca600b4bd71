-- When a call on an object of the outside may answer that it failed, and what its count of faults is then.
use Rattle.std.specs.Prelude.{◌≡◌, ℕ, ◌+◌, ◌-◌, ◌^◌, ◌≤◌, ◌<◌, min, List, length, OnErr, IfOk, Result, Ok, Err}

-- a count of 64 bits, one more; it stands still at its last value
abbrev pub one_more : ℕ → ℕ
one_more count = min (count + 1) (2 ^ 64 - 1)

-- a count of faults has 64 bits: it rose, or stands at its last value
abbrev pub Rose : ℕ → ℕ → Type 0
Rose before now = min (before + 1) (2 ^ 64 - 1) ≤ now

-- a count of faults never falls, and a call fails only where it rose
pub record HasCause {T E : Type 0} (before now : ℕ) (result : Result T E) : Type 0 where
  pub later : before ≤ now
  pub failed : OnErr result (Rose before now)

-- a count of faults never falls; a write fails only where it rose, and only there takes nothing of a piece with bytes
pub record HasWriteCause {E : Type 0} (before now : ℕ) (piece : List ℕ) (result : Result ℕ E) : Type 0 where
  pub later : before ≤ now
  pub failed : OnErr result (Rose before now)
  pub nothing : IfOk result (λ count. count ≡ 0 → 0 < length piece → Rose before now)

-- a count of faults after a call that counts itself where it fails, and nowhere else
abbrev pub counted : {T E : Type 0} → Result T E → ℕ → ℕ
counted (Ok value) faults = faults
counted (Err error) faults = one_more faults
