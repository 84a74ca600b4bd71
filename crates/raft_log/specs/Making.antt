-- A change that is made by one put.
use Rattle.std.specs.Prelude.{ℕ, Bool, List, [], ◌∷◌, None, slice_index_or}
use Rattle.can_frame.specs.Log.{blank}
use Rattle.disk_model.specs.declared.disk.Disk.{Ghosts}
use Rattle.kv_store.specs.StoreViews.{store_map}
use Rattle.raft_log.specs.declared.change.Change.{Change}
use Rattle.raft_log.specs.declared.durable.Durable.{Durable}
use Rattle.raft_log.specs.Allowed.{IsNext, next_after}
use Rattle.raft_log.specs.Calls.{WritesInOrderAfter}
use Rattle.raft_log.specs.Changes.{next_for, put_of}
use Rattle.raft_log.specs.DurableViews.{durable_state}
use Rattle.raft_log.specs.Stored.{Put, Stored, origin_put}

-- the put that the entry at a place wants, counted from 0, where it has no origin
abbrev pub put_at : ℕ → Stored → List Put
put_at place state =
    origin_put place (slice_index_or state.log place (blank 0)) (slice_index_or state.origins place None)

module _ {D : Type 0} {disk : Ghosts D} where
  -- the put of a change is made
  abbrev pub MakesChange : Change → Durable D disk → Durable D disk → Bool → Type 0
  MakesChange change old new ok =
      WritesInOrderAfter (next_for change) (put_of change (durable_state old) ∷ []) old new ok

  -- the entry that the change counts stands after the last
  abbrev pub HasNext : Change → Durable D disk → Type 0
  HasNext change old = IsNext (store_map old.store) (durable_state old) (next_for change)

  -- an entry that the change put stands there
  abbrev pub LeavesNext : Change → Durable D disk → Durable D disk → Type 0
  LeavesNext change old new =
      IsNext (store_map new.store) (durable_state new)
      (next_after (put_of change (durable_state old)) (next_for change))
