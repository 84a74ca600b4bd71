use Rattle.alloc_spec.proofs.NodeIds.{three_parts}
use Rattle.alloc_spec.proofs.members.are_members.Goals as goal

pub returns : goal.returns
returns c =
    three_parts c.args.ids.now c.are_different.result (c.is_count.ensures.0 c.if-not-is_count.false) (c.are_nodes.ensures.0 c.if-not-are_nodes.false)
    c.are_different.ensures
