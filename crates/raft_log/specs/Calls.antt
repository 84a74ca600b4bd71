-- What a call that changes the stored state does to it.
use Rattle.std.specs.Prelude.{◌≡◌, ℕ, ◌≤◌, ◌⊎◌, Bool, true, false, List, ◌++◌, Option, Some, None, IfSome}
use Rattle.disk_model.specs.declared.disk.Disk.{Ghosts}
use Rattle.disk_model.specs.Contents.{MayLeave}
use Rattle.disk_model.specs.Device.{Makes}
use Rattle.kv_store.specs.declared.fault.Fault.{Fault}
use Rattle.outside.specs.Faults.{Rose}
use Rattle.raft_log.specs.declared.durable.Durable.{Durable}
use Rattle.raft_log.specs.Allowed.{AreAllowed}
use Rattle.raft_log.specs.DeviceCalls.{copies_after, device_calls}
use Rattle.raft_log.specs.DurableViews.{durable_copies, durable_disk, durable_fault, durable_state}
use Rattle.raft_log.specs.Rules.{AlwaysStandsForState, StandsForState}
use Rattle.raft_log.specs.Stored.{AfterSome, AtOne, Kept, Put, Stored, after_puts}

-- a put failed between these states: it gives the first, and a stop leaves the first or the second
pub record IsCutAt {D : Type 0} {disk : Ghosts D} (new : Durable D disk) (before after : Stored) : Type 0 where
  pub state : durable_state new ≡ before
  pub images : disk.tells (durable_disk new) ≡ true → (image : List ℕ) →
      MayLeave (disk.contents (durable_disk new)) image
      → StandsForState image before ⊎ StandsForState image after

-- some of the first of these puts were tried, up to one that failed, and each of them was allowed
pub record FailsAllowed {D : Type 0} {disk : Ghosts D} (next : Option Kept) (puts : List Put)
    (old new : Durable D disk) : Type 0 where
  pub tried : List Put
  pub others : List Put
  pub are : puts ≡ tried ++ others
  pub allowed : AreAllowed tried (durable_state old) next
  pub made : durable_fault old ≡ None →
      Makes disk.does (device_calls tried (durable_state old) (durable_copies old)) false (durable_disk old)
      (durable_disk new)

-- a call makes these puts in order, up to the first that fails, where this was put after the last; ok says that none
-- failed
pub record WritesInOrderAfter {D : Type 0} {disk : Ghosts D} (next : Option Kept) (puts : List Put)
    (old new : Durable D disk) (ok : Bool) : Type 0 where
  -- once it has succeeded all of them are done, and a stop leaves the state after them
  pub state : ok ≡ true → durable_state new ≡ after_puts puts (durable_state old)
  pub durable : durable_fault old ≡ None → ok ≡ true → disk.tells (durable_disk old) ≡ true →
      AlwaysStandsForState (disk.contents (durable_disk new)) (durable_state new)
  -- where it failed, the puts before one of them are done, and whether that one is, only an opening finds
  pub cut : durable_fault old ≡ None → ok ≡ false → AtOne (IsCutAt new) puts (durable_state old)
  -- so a stop at any moment of it leaves the state after some of the first of them
  pub stop : durable_fault old ≡ None → disk.tells (durable_disk old) ≡ true → (image : List ℕ) →
      MayLeave (disk.contents (durable_disk new)) image
      → AfterSome (StandsForState image) puts (durable_state old)
  -- these device calls were made, up to the first that failed
  pub made : durable_fault old ≡ None →
      Makes disk.does (device_calls puts (durable_state old) (durable_copies old)) ok (durable_disk old)
      (durable_disk new)
  pub copies : ok ≡ true → durable_copies new ≡ copies_after puts (durable_state old) (durable_copies old)
  -- each put that was tried was allowed
  pub allowed : ok ≡ true → AreAllowed puts (durable_state old) next
  pub tried : ok ≡ false → FailsAllowed next puts old new

abbrev pub WritesInOrder : {D : Type 0} {disk : Ghosts D} → List Put → Durable D disk → Durable D disk →
    Bool → Type 0
WritesInOrder puts old new ok = WritesInOrderAfter None puts old new ok

-- a fault has a cause and is kept: every later call answers it, and changes nothing
pub record FaultIsSticky {D : Type 0} {disk : Ghosts D} (old new : Durable D disk) (failed : Option Fault)
    : Type 0 where
  pub closed : IfSome (durable_fault old) (λ fault. (failed ≡ Some fault)
      × (durable_disk new ≡ durable_disk old) × (durable_state new ≡ durable_state old))
  pub kept : durable_fault new ≡ failed
  pub cause : durable_fault old ≡ None →
      IfSome failed (λ fault. (fault.count ≡ disk.faults (durable_disk new))
      × Rose (disk.faults (durable_disk old)) (disk.faults (durable_disk new)))
  pub tells : disk.tells (durable_disk new) ≡ disk.tells (durable_disk old)
  pub later : disk.faults (durable_disk old) ≤ disk.faults (durable_disk new)
