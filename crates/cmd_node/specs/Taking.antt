-- What openings and turns come to, and why they end.
use Rattle.std.specs.Prelude.{◌≡◌, ℕ, ◌<◌, ◌≤◌, List, length, Option, Some, None, IsSome}
use Rattle.std.specs.Prelude.{slice_index, slice_index_or, true}
use Rattle.disk_model.specs.Contents.{AddsNoImage}
use Rattle.disk_model.specs.Device.{Makes}
use Rattle.disk_model.specs.declared.disk.Disk.{Ghosts}
use Rattle.kv_store.specs.Image.{open_calls}
use Rattle.outside.specs.Faults.{Rose}
use Rattle.raft_log.specs.Opening.{FailsToOpen}
use Rattle.raft_log.specs.Rules.{IsDamagedAt}
use Rattle.cmd_node.specs.Stands.{Works, closure_of, runner_disk}
use Rattle.cmd_node.specs.Status.{OfLink}
use Rattle.cmd_node.specs.declared.fault.Fault.{Fault}
use Rattle.cmd_node.specs.declared.fault.Fault.TheVariants.{Link, Disk, Damaged, AnotherLog}
use Rattle.cmd_node.specs.declared.runner.Runner.{Runner}

-- why a disk was refused, which is there again, and what it holds then
abbrev pub HasCause : {D : Type 0} → Ghosts D → D → D → ℕ → Fault → Type 0
HasCause disk before after id (Link node) = ⊥
HasCause disk before after id (Disk node) = (node ≡ id) × Rose (disk.faults before) (disk.faults after) ×
    FailsToOpen disk before after
HasCause disk before after id (Damaged node key) = (node ≡ id) ×
    (disk.tells before ≡ true → IsDamagedAt (disk.contents before).seen key) ×
    (disk.tells before ≡ true → AddsNoImage (disk.contents before) (disk.contents after)) ×
    Makes disk.does open_calls true before after
HasCause disk before after id (AnotherLog node caller) = ⊥

pub record IsRefused {D : Type 0} (disk : Ghosts D) (before after : Option D) (id : ℕ) (fault : Fault) : Type 0 where
  pub later : (old new : D) → before ≡ Some old → after ≡ Some new → disk.faults old ≤ disk.faults new
  pub tells : (old new : D) → before ≡ Some old → after ≡ Some new → disk.tells new ≡ disk.tells old
  pub cause : (old new : D) → before ≡ Some old → after ≡ Some new → HasCause disk old new id fault

module _ {D F : Type 0} {disk : Ghosts D} where
  abbrev pub AreWorking : List (Runner D F disk) → Type 0
  AreWorking runners =
      (i : ℕ) (runner : Runner D F disk) → i < length runners → Works (slice_index_or runners i runner)

  -- a turn keeps its node ID, and its disk counts no fewer faults
  pub record KeepsNode (old new : Runner D F disk) : Type 0 where
    pub id : new.id ≡ old.id
    pub later : disk.faults (runner_disk old) ≤ disk.faults (runner_disk new)
    pub tells : disk.tells (runner_disk new) ≡ disk.tells (runner_disk old)
    pub accepts : closure_of new ≡ closure_of old

  pub record KeepsNodes (old new : List (Runner D F disk)) : Type 0 where
    pub count : length new ≡ length old
    pub each : (i : ℕ) (before after : Runner D F disk) → i < length old →
        KeepsNode (slice_index_or old i before) (slice_index_or new i after)

  -- this holds of the counts of faults, before and now, of the disk of the allocator at a place
  abbrev pub OfRunner : List (Runner D F disk) → List (Runner D F disk) → ℕ →
      (ℕ → ℕ → Type 0) → Type 0
  OfRunner old new place Holds = (before after : Runner D F disk) →
      Holds (disk.faults (runner_disk (slice_index_or old place before)))
      (disk.faults (runner_disk (slice_index_or new place after)))

  abbrev pub IsOf : List (Runner D F disk) → ℕ → ℕ → Type 0
  IsOf runners place id = (runner : Runner D F disk) → (slice_index_or runners place runner).id ≡ id

  -- why a turn was not taken to its end
  abbrev pub EndsTurn : {L : Type 0} → (L → ℕ) → List (Runner D F disk) → List (Runner D F disk) →
      List L → List L → Fault → Type 0
  EndsTurn faults old new links_old links_new (Link id) = (place : ℕ) × (place < length old)
      × IsOf old place id × OfLink faults links_old links_new place Rose
  EndsTurn faults old new links_old links_new (Disk id) = (place : ℕ) × (place < length old)
      × IsOf old place id × OfRunner old new place Rose
  EndsTurn faults old new links_old links_new (Damaged id key) = ⊥
  EndsTurn faults old new links_old links_new (AnotherLog id node) = (place : ℕ) × (place < length old)
      × IsOf old place id

-- no link counts fewer faults
pub record KeepsLinks {L : Type 0} (faults : L → ℕ) (old new : List L) : Type 0 where
  pub count : length new ≡ length old
  pub later : (i : ℕ) (before after : L) → i < length old →
      faults (slice_index_or old i before) ≤ faults (slice_index_or new i after)

-- a disk of those that were handed in was refused, and is there again, as are all behind it
pub record WasRefused {D : Type 0} (disk : Ghosts D) (ids : List ℕ) (old new : List (Option D))
    (place : ℕ) (fault : Fault) : Type 0 where
  pub within : place < length ids
  pub refused : IsRefused disk (slice_index_or old place None) (slice_index_or new place None)
      (slice_index ids place) fault
  pub there : IsSome (slice_index_or new place None)
