-- What objects of the outside tell, and what the forms in memory are seen as.
use Rattle.std.specs.Prelude.{◌≡◌, ◌≢◌, ⊤, ℕ, ◌+◌, ◌<◌, List, length, Option, Some, None, is_some}
use Rattle.outside.specs.Faults.{one_more}
use Rattle.outside.specs.declared.received.RawFrame.{RawFrame}
use Rattle.outside.specs.declared.received.Received.{Received}

-- whether an object tells its contents stays as it is
abbrev pub TellsAsBefore : {A : Type 0} → Option A → Option A → Type 0
TellsAsBefore old new = is_some new ≡ is_some old

-- contents that are told before a call are told after it, and the call changed them in this way
abbrev pub WhereTold : {A : Type 0} → (A → A → Type 0) → Option A → Option A → Type 0
WhereTold Changes None None = ⊤
WhereTold Changes None (Some new) = ⊥
WhereTold Changes (Some old) None = ⊥
WhereTold Changes (Some old) (Some new) = Changes old new

-- a source in memory: the bytes left, the call that fails, counted from 1, and the calls and faults so far
pub record MemoryInput : Type 0 where
  pub left : List ℕ
  pub fail_at : Option ℕ
  pub calls : ℕ
  pub faults : ℕ

-- a sink in memory: the bytes written, how many it can keep, the write that fails, the one that takes nothing
pub record MemoryOutput : Type 0 where
  pub written : List ℕ
  pub capacity : ℕ
  pub fail_at : Option ℕ
  pub zero_at : Option ℕ
  pub calls : ℕ
  pub faults : ℕ

-- the next write is the one that fails
abbrev pub IsToFail : MemoryOutput → Type 0
IsToFail output = output.fail_at ≡ Some (one_more output.calls)

-- the next write is the one that takes nothing, unless it is the one that fails
abbrev pub IsToTakeNothing : MemoryOutput → Type 0
IsToTakeNothing output = output.zero_at ≡ Some (one_more output.calls)

-- the next write is not the one that takes nothing
abbrev pub IsToTake : MemoryOutput → Type 0
IsToTake output = output.zero_at ≢ Some (one_more output.calls)

-- so many bytes more are too many
abbrev pub IsTooMuchFor : MemoryOutput → ℕ → Type 0
IsTooMuchFor output size = output.capacity < length output.written + size

-- what a sink in memory was made with stays
pub record KeepsSettings (old new : MemoryOutput) : Type 0 where
  pub capacity : new.capacity ≡ old.capacity
  pub fail_at : new.fail_at ≡ old.fail_at
  pub zero_at : new.zero_at ≡ old.zero_at

-- a link in memory: the items still to come, the frames sent, the call that fails, counted from 1 over both
-- kinds, and the calls and faults so far
pub record MemoryTraffic : Type 0 where
  pub coming : List Received
  pub sent : List RawFrame
  pub fail_at : Option ℕ
  pub calls : ℕ
  pub faults : ℕ
