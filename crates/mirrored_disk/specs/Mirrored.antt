-- What each call makes of a disk over a device of blocks.
use Rattle.std.specs.Prelude.{◌≡◌, ◌⊎◌, ◌≤◌, ◌<◌, ◌-◌, ◌^◌, Bool, true, false, not, if◌then◌else◌}
use Rattle.block_device.specs.declared.device.BlockDevice as device
use Rattle.disk_model.specs.Device.{DeviceCall, Makes}
use Rattle.disk_model.specs.Device.DeviceCall.{Read, Write, Sync}
use Rattle.mirrored_disk.specs.Calls.{other_pair, sync_calls}
use Rattle.mirrored_disk.specs.DiskViews.{next_record}
use Rattle.mirrored_disk.specs.Kept.{IsTwice}
use Rattle.mirrored_disk.specs.declared.disk.MirroredDisk.{MirroredDisk}
use Rattle.outside.specs.Faults.{one_more}

module _ {V : Type 0} (devices : device.Ghosts V) where
  abbrev pub Disk : Type 0
  Disk = MirroredDisk V devices

  -- a sync writes the next record to the pair that has not the newest one; it makes no call where numbers are used up
  abbrev pub Syncs : Bool → Disk → Disk → Type 0
  Syncs ok old new =
      ((old.newest.number < 2 ^ 64 - 1)
      × Makes devices.does (sync_calls (other_pair old.newest.block) (next_record old)) ok old.device new.device
      × (ok ≡ true → devices.tells old.device ≡ true →
      IsTwice (devices.blocks new.device) new.head new.newest new.stable))
      ⊎ ((2 ^ 64 - 1 ≤ old.newest.number) × (ok ≡ false) × (new.device ≡ old.device))

  -- what a call makes of a disk that is not lost. Reads and writes are of memory, and never fail; a sync that fails
  -- loses the disk
  abbrev pub Works : DeviceCall → Bool → Disk → Disk → Type 0
  Works (Read at size) ok old new = (ok ≡ true) × (new.lost ≡ false) × (new.device ≡ old.device)
  Works (Write at bytes) ok old new = (ok ≡ true) × (new.lost ≡ false) × (new.device ≡ old.device)
  Works Sync ok old new = (new.lost ≡ not ok) × Syncs ok old new

  -- a call that fails is counted; on a lost disk every call fails, and changes nothing else
  pub record DoesMirrored (old : Disk) (call : DeviceCall) (ok : Bool) (new : Disk) : Type 0 where
    pub faults : new.faults ≡ (if ok then old.faults else one_more old.faults)
    pub works : old.lost ≡ false → Works call ok old new
    pub lost : old.lost ≡ true → (ok ≡ false) × (new.lost ≡ true) × (new.device ≡ old.device)
