-- What each device call makes of a disk that is watched.
use Rattle.std.specs.Prelude.{◌≡◌, ◌⊎◌, Bool, true, false, if◌then◌else◌}
use Rattle.disk_model.specs.Device.{DeviceCall}
use Rattle.disk_model.specs.Device.DeviceCall.{Read, Write, Sync}
use Rattle.disk_model.specs.declared.disk.Disk as disk
use Rattle.outside.specs.Contents.{WhereTold}
use Rattle.outside.specs.Faults.{one_more}
use Rattle.watched_disk.specs.Look.{Looks}
use Rattle.watched_disk.specs.declared.disk.WatchedDisk.{WatchedDisk}
use Rattle.watched_disk.specs.declared.watch.Watch as watch

module _ {D W : Type 0} (disks : disk.Ghosts D) (watches : watch.Ghosts W) where
  -- a look at the file gave this answer
  abbrev pub LooksAt : Bool → W → W → Type 0
  LooksAt answer old new = WhereTold (Looks answer) (watches.looks old) (watches.looks new)

  -- the call was made of the disk below, with this answer
  abbrev pub IsMade : DeviceCall → Bool → D → D → Type 0
  IsMade call ok old new = disks.does old call ok new

  -- a sync looks first. Only where the file is there the disk below is synced; else this disk is lost
  abbrev pub Syncs : Bool → WatchedDisk D W → WatchedDisk D W → Type 0
  Syncs ok old new =
      (LooksAt true old.watch new.watch × (new.lost ≡ false) × IsMade Sync ok old.disk new.disk)
      ⊎ (LooksAt false old.watch new.watch × (new.lost ≡ true) × (ok ≡ false) × (new.disk ≡ old.disk))

  -- what a call makes of a disk that is not lost
  abbrev pub Works : DeviceCall → Bool → WatchedDisk D W → WatchedDisk D W → Type 0
  Works (Read at size) ok old new =
      (new.watch ≡ old.watch) × (new.lost ≡ false) × IsMade (Read at size) ok old.disk new.disk
  Works (Write at bytes) ok old new =
      (new.watch ≡ old.watch) × (new.lost ≡ false) × IsMade (Write at bytes) ok old.disk new.disk
  Works Sync ok old new = Syncs ok old new

  -- a call that fails is counted; on a lost disk every call fails, and changes nothing else
  pub record DoesWatched (old : WatchedDisk D W) (call : DeviceCall) (ok : Bool) (new : WatchedDisk D W) : Type 0 where
    pub faults : new.faults ≡ (if ok then old.faults else one_more old.faults)
    pub works : old.lost ≡ false → Works call ok old new
    pub lost : old.lost ≡ true → (ok ≡ false) × (new.lost ≡ true) × (new.disk ≡ old.disk) × (new.watch ≡ old.watch)
