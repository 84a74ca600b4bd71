-- Images that the members of a world left, and the stores that are read of them.
use Rattle.std.specs.Prelude.{◌≡◌, ℕ, ◌<◌, Bool, List, length, slice_index}
use Rattle.raft_core.specs.StoredPuts.{store_of}
use Rattle.raft_log.specs.declared.stored.Stored.{Stored as Reading}
use Rattle.raft_log.specs.Reading.{IsReadFrom}
use Rattle.raft_log.specs.Rules.{StandsForState}
use Rattle.raft_log.specs.Stored.{Stored}
use Rattle.raft_model.specs.Lists.{In}
use Rattle.store_audit.specs.Stores.{store_at}
use Rattle.bus_spec.specs.Cluster.{Cluster}
use Rattle.bus_spec.specs.Logs.{stored}

-- the image stands for what the choice says that the member has stored
pub record IsLeftBy (choice : ℕ → Bool) (w : Cluster) (n : ℕ) (image : List ℕ) : Type 0 where
  pub state : Stored
  pub stands : StandsForState image state
  pub same : store_of state ≡ stored choice w n

-- the image stands for what the disk of the member has stored
pub record IsStoredBy (w : Cluster) (n : ℕ) (image : List ℕ) : Type 0 where
  pub state : Stored
  pub stands : StandsForState image state
  pub same : store_of (w.member n).disk.store ≡ store_of state

-- a store is read of an image of which this is so, and its node is a member
pub record IsReadOf (Left : ℕ → List ℕ → Type 0) (w : Cluster) (n : ℕ) (store : Reading) : Type 0 where
  pub member : In n w.ids
  pub image : List ℕ
  pub left : Left n image
  pub read : IsReadFrom image store

-- each store is read of an image that its node left
abbrev pub AreLeftBy : (ℕ → Bool) → Cluster → List ℕ → List Reading → Type 0
AreLeftBy choice w nodes stores = (k : ℕ) → k < length stores →
    IsReadOf (IsLeftBy choice w) w (slice_index nodes k) (store_at stores k)

abbrev pub AreStoredBy : Cluster → List ℕ → List Reading → Type 0
AreStoredBy w nodes stores = (k : ℕ) → k < length stores →
    IsReadOf (IsStoredBy w) w (slice_index nodes k) (store_at stores k)
