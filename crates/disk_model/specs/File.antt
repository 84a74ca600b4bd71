-- What each device call makes of a disk in a file: of its count of faults, and of whether it is lost.
use Rattle.std.specs.Prelude.{◌≡◌, ℕ, Bool, true, false, not, List, if◌then◌else◌}
use Rattle.disk_model.specs.declared.file.FileDisk.{FileDisk}
use Rattle.disk_model.specs.Device.{DeviceCall}
use Rattle.disk_model.specs.Device.DeviceCall.{Read, Write, Sync}
use Rattle.outside.specs.Faults.{one_more}

-- a sync that fails loses the disk
abbrev pub is_lost_after : DeviceCall → Bool → Bool → Bool
is_lost_after (Read at size) ok lost = lost
is_lost_after (Write at bytes) ok lost = lost
is_lost_after Sync ok lost = not ok

-- a call that fails is counted, and every call fails on a disk that is lost
pub record DoesInFile (old : FileDisk) (call : DeviceCall) (ok : Bool) (new : FileDisk) : Type 0 where
  pub faults : new.faults ≡ (if ok then old.faults else one_more old.faults)
  pub works : ok ≡ true → old.lost ≡ false
  pub lost : new.lost ≡ is_lost_after call ok old.lost
