-- And its later votes have it: the fact Acks.
use Rattle.std.proofs.Common.{◌≤◌, ℕ}
use Rattle.raft_model.specs.Invariants.{AcknowledgedVoted}
use Rattle.raft_model.proofs.Micro.{State}
use Rattle.raft_model.proofs.Facts.{Facts}
use Rattle.raft_model.proofs.Bridge.{world_of}
use Rattle.raft_model.proofs.AcknowledgedKept.{acked_shown}

pub voted_shown : (z : State) (n : ℕ) → Facts z → AcknowledgedVoted ◌≤◌ (world_of z n)
voted_shown z n f k t j i l b h = f.acks.voted k t j i l (acked_shown z n f k.voter t j h) b
