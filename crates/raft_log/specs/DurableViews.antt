-- What a durable state stands for.
use Rattle.std.specs.Prelude.{ℕ, Option}
use Rattle.disk_model.specs.declared.disk.Disk.{Ghosts}
use Rattle.kv_store.specs.declared.fault.Fault.{Fault}
use Rattle.kv_store.specs.StoreViews.{store_disk, store_fault, store_copy}
use Rattle.raft_log.specs.declared.durable.Durable.{Durable}
use Rattle.raft_log.specs.Stored.{Stored}
use Rattle.raft_log.specs.StateViews.{stored_of}

module _ {D : Type 0} {ghosts : Ghosts D} where
  -- the stored state; after a fault it is the state after the puts that were done before it
  abbrev pub durable_state : Durable D ghosts → Stored
  durable_state durable = stored_of durable.state

  abbrev pub durable_disk : Durable D ghosts → D
  durable_disk durable = store_disk durable.store

  -- the fault that every change answers, if there is one: of the put that failed, or of what is not open
  abbrev pub durable_fault : Durable D ghosts → Option Fault
  durable_fault durable = store_fault durable.store

  -- the copy of each key that its selector chooses
  abbrev pub durable_copies : Durable D ghosts → ℕ → ℕ
  durable_copies durable = store_copy durable.store
