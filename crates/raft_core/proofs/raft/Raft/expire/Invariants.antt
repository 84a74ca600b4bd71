use Rattle.std.proofs.Common.{◌≡◌, ◌≤◌, ◌<◌, ℕ, length}
use Rattle.std.specs.Prelude.{slice_index_or}
use Rattle.raft_core.specs.declared.peer.Peer.{Peer}
use Rattle.raft_core.specs.Peers.{expired}
use Rattle.raft_core.proofs.raft.Raft.expire.Given as goal

-- the peers so far have given up, the others are as they were
abbrev pub invariant-loop-peer : goal.invariant-loop-peer
invariant-loop-peer l = record {
  all : length l.peer-items ≡ length l.fn.self.peers;
  before : (i : ℕ) (d : Peer) → i < l.peer-index → slice_index_or l.peer-items i d ≡ expired l.now (slice_index_or l.fn.self.peers i d);
  after : (i : ℕ) (d : Peer) → l.peer-index ≤ i → slice_index_or l.peer-items i d ≡ slice_index_or l.fn.self.peers i d;
}
