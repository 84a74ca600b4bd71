use Rattle.std.proofs.Common.{length}
use Rattle.alloc_spec.proofs.members.+are_nodes.Given as goal

abbrev pub decreases-are_nodes : goal.decreases-are_nodes
decreases-are_nodes l = length l.ids.now
