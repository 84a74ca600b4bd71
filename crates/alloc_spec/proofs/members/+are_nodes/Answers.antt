use Rattle.std.proofs.Common.{◌≡◌, ◌∷◌, rules}
use Rattle.alloc_spec.proofs.NodeIds.{nodes_else, nodes_then}
use Rattle.alloc_spec.proofs.members.+are_nodes.Goals as goal

pub returns-then-is_node : goal.returns-then-is_node
returns-then-is_node t c =
    let e : c.args.ids.now ≡ c.in-Some.first.now ∷ c.in-Some.rest.now = search rules in
    nodes_then c.args.ids.now c.in-Some.rest.now c.in-Some.first.now c.is_node.result c.are_nodes.result e c.if-is_node.true c.is_node.ensures c.are_nodes.ensures

pub returns-else-is_node : goal.returns-else-is_node
returns-else-is_node t c =
    let e : c.args.ids.now ≡ c.in-Some.first.now ∷ c.in-Some.rest.now = search rules in
    nodes_else c.args.ids.now c.in-Some.rest.now c.in-Some.first.now c.is_node.result e c.is_node.ensures c.if-is_node.false
