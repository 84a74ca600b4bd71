use Rattle.std.proofs.Common.{◌≡◌, drop}
use Rattle.cluster_discovery.specs.Members.{members_with_all}
use Rattle.cluster_discovery.proofs.cluster.Cluster.join_all.Given as goal

-- what the rest makes of the list is what all make of the first
abbrev pub invariant-loop-node : goal.invariant-loop-node
invariant-loop-node l = record {
  members : members_with_all l.fn.self.size l.fn.self.members.items l.nodes ≡ members_with_all l.self.size l.self.members.items (drop l.node-index l.nodes);
  me : l.self.me ≡ l.fn.self.me;
  size : l.self.size ≡ l.fn.self.size;
  owes : l.self.owes ≡ l.fn.self.owes;
  last : l.self.last ≡ l.fn.self.last;
}
