-- What is stored is sound: the fact Stored.
use Rattle.std.proofs.Common.{ℕ}
use Rattle.raft_model.specs.Invariants.{StoresSound}
use Rattle.raft_model.proofs.Micro.{State}
use Rattle.raft_model.proofs.Facts.{Facts}
use Rattle.raft_model.proofs.Bridge.{world_of}

pub stores_shown : (z : State) (n : ℕ) → Facts z → StoresSound (world_of z n)
stores_shown z n f m = record {
  commit = f.stored.within m;
  last = f.stored.log_limit m;
  well_formed = f.stored.well_formed m;
  rising = f.stored.rising m;
  injective = f.stored.injective m;
}
