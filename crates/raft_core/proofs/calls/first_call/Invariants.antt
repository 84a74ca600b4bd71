use Rattle.std.proofs.Common.{◌≡◌, ◌≤◌, ◌<◌, ℕ, Some}
use Rattle.std.specs.Prelude.{slice_index_or}
use Rattle.raft_core.specs.declared.peer.Peer.{Peer}
use Rattle.raft_core.specs.declared.peer.Waiting.{Waiting}
use Rattle.raft_core.proofs.calls.first_call.Given as goal

-- the calls to the peers so far were not made before the first
abbrev pub invariant-loop-peer : goal.invariant-loop-peer
invariant-loop-peer l = (node : ℕ) (none : Peer) (call : Waiting) → node < l.peer-index → (slice_index_or l.peers node none).call ≡ Some call → l.first ≤ call.sent
