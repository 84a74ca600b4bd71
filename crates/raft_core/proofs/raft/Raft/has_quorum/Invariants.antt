use Rattle.std.proofs.Common.{◌≡◌, ◌≤◌, ℕ, Bool, take}
use Rattle.raft_model.specs.Lists.{how_many}
use Rattle.raft_core.specs.Backs.{Backs}
use Rattle.raft_core.proofs.raft.Raft.has_quorum.Given as goal

abbrev pub invariant-loop-node : goal.invariant-loop-node
invariant-loop-node l = record {
  counted : (test : ℕ → Bool) → Backs l.self.me l.self.peers l.cause test → l.count ≡ how_many test (take l.node-index l.self.members.items);
  small : l.count ≤ l.node-index;
}
