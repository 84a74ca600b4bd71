-- How the answers of the three calls on a store are judged.
use Rattle.std.specs.Prelude.{◌≡◌, ◌↔◌, ℤ, pos, Bool, true, List, ◌∷◌, length}
use Rattle.disk_model.specs.Device.{DeviceCall}
use Rattle.disk_model.specs.Device.DeviceCall.{Read, Write, Sync}

-- a call that was made, and what it answered
pub record Answered : Type 0 where
  pub call : DeviceCall
  pub answer : ℤ

-- the one answer by which all of a call is done: each byte was read or written, and a sync answers 0
abbrev pub all_done : DeviceCall → ℤ
all_done (Read at size) = pos size
all_done (Write at bytes) = pos (length bytes)
all_done Sync = pos 0

-- the call is made once, and nothing else is
abbrev pub AddsCall : DeviceCall → ℤ → List Answered → List Answered → Type 0
AddsCall call answer old new = new ≡ record { call = call; answer = answer } ∷ old

-- the call is made once, and it is done exactly where its answer says so
pub record IsToldByAnswer (call : DeviceCall) (done : Bool) (old new : List Answered) : Type 0 where
  pub answer : ℤ
  pub made : AddsCall call answer old new
  pub judged : (done ≡ true) ↔ (answer ≡ all_done call)
