use Rattle.std.proofs.Common.{◌≤◌, ◌<◌, ℕ, List, length}
use Rattle.raft_log.specs.DurableViews.{durable_state}
use Rattle.raft_model.specs.Moves.Leading.{CanCommit}
use Rattle.raft_model.specs.Server.{RaftServer}
use Rattle.raft_core.specs.Stands.{StandsFor}
use Rattle.raft_core.specs.Times.{Times}
use Rattle.raft_core.proofs.raft.Raft.commit_index.Given as goal

abbrev pub invariant-loop-place : goal.invariant-loop-place
invariant-loop-place g l = record {
  inside : l.place ≤ length (durable_state l.d).log;
  none : (members : List ℕ) (p : RaftServer) (t : Times) → StandsFor l.self members (durable_state l.d) p t → (place : ℕ) → l.place < place → CanCommit members l.self.me p place → ⊥;
}

abbrev pub decreases-loop-place : goal.decreases-loop-place
decreases-loop-place g l = l.place
