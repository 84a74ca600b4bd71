-- A vote binds its voter: the facts Bound and Roles.
use Rattle.std.proofs.Common.{ℕ}
use Rattle.raft_model.specs.Invariants.{VotesBound}
use Rattle.raft_model.proofs.Micro.{State}
use Rattle.raft_model.proofs.Facts.{Facts}
use Rattle.raft_model.proofs.Bridge.{world_of}

pub votes_shown : (z : State) (n : ℕ) → Facts z → VotesBound (world_of z n)
votes_shown z n f = record { granted = f.bound.votes; stood = f.bound.stood; own = f.roles.voted }
