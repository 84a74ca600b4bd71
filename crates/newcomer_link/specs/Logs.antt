-- What a link reads of the store of its member, and when it reads none.
use Rattle.std.specs.Prelude.{◌≡◌, ◌⊎◌, ℕ, List, Option, Some, None}
use Rattle.arrayvec.specs.ArrayVec.{ArrayVec}
use Rattle.can_frame.specs.declared.entry.Entry.{Entry}
use Rattle.disk_model.specs.declared.disk.Disk.{Ghosts}
use Rattle.outside.specs.Faults.{Rose}
use Rattle.raft_log.specs.declared.stored.Stored.{Stored}
use Rattle.store_audit.specs.Reads.{IsDamagedDisk, IsStoreOf, StaysAs}

-- the entries of a log that was read
abbrev pub entries_in : Option (ArrayVec Entry) → Option (List Entry)
entries_in None = None
entries_in (Some log) = Some log.items

module _ {D : Type 0} (ghosts : Ghosts D) (place_old place : Option D) where
  -- these are the entries of the store of the disk that is there
  pub record IsLogOf (log : List Entry) : Type 0 where
    pub disk : D
    pub is_there : place_old ≡ Some disk
    pub store : Stored
    pub of_disk : IsStoreOf ghosts disk store
    pub entries : log ≡ store.entries.items

  -- there is no disk
  abbrev pub IsNoPlace : Type 0
  IsNoPlace = place_old ≡ None

  -- its store is damaged, first at some key
  pub record IsDamagedPlace : Type 0 where
    pub disk : D
    pub is_there : place_old ≡ Some disk
    pub key : ℕ
    pub damaged : IsDamagedDisk ghosts disk key

  -- it failed, and counted that
  pub record IsFailedPlace : Type 0 where
    pub disk : D
    pub is_there : place_old ≡ Some disk
    pub after : D
    pub is_still_there : place ≡ Some after
    pub failed : Rose (ghosts.faults disk) (ghosts.faults after)

  -- the log is not read, and why
  abbrev pub IsUnread : Type 0
  IsUnread = IsNoPlace ⊎ (IsDamagedPlace ⊎ IsFailedPlace)

  -- what a reading gave
  abbrev pub IsReadAt : Option (List Entry) → Type 0
  IsReadAt None = IsUnread
  IsReadAt (Some log) = IsLogOf log

  -- the disk is still there, and holds what it held: nothing is written
  abbrev pub IsOnlyRead : Type 0
  IsOnlyRead = (place_old ≡ None → place ≡ None) × ((disk : D) → place_old ≡ Some disk → StaysAs ghosts disk place)
