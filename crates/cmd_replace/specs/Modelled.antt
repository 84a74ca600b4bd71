-- What was read of the stores, as stores of the Raft model.
use Rattle.std.specs.Prelude.{◌≡◌, ℕ, ◌<◌, ◌≤◌, false, true, List, length, slice_index}
use Rattle.raft_core.specs.StoredPuts.{vote_of}
use Rattle.raft_log.specs.declared.stored.Stored.{Stored}
use Rattle.raft_model.specs.Lists.{In}
use Rattle.raft_model.specs.Runs.{World}
use Rattle.raft_model.specs.Server.{Store}
use Rattle.store_audit.specs.Stores.{store_at}
use Rattle.cmd_replace.specs.Guard.{supports}

abbrev pub modelled : Stored → Store
modelled stored = record
    { term = stored.term; vote = vote_of stored.vote; log = stored.entries.items; commit = stored.commit }

-- The members of the world have these node IDs, and all are down. Those that support the one at a place, none of them
-- lost, have what was read of their stores; of what the lost one and all others have stored nothing is said.
pub record HasTheStores (world : World) (ids : List ℕ) (lost : ℕ) (stores : List Stored) (leader : ℕ) : Type 0 where
  pub members : world.members ≡ ids
  pub named : (place : ℕ) → place < length ids → 1 ≤ slice_index ids place
  pub down : (member : ℕ) → In member ids → (world.server member).memory.up ≡ false
  pub supporting : (place : ℕ) → place < length ids → supports ids lost stores leader place ≡ true →
      (world.server (slice_index ids place)).store ≡ modelled (store_at stores place)
