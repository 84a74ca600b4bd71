use Rattle.c_calls.proofs.Members.{among}
use Rattle.c_calls.proofs.node.has.Goals as goal

pub returns : goal.returns
returns c = among c.args.members.now c.args.node c.contains.result c.contains.ensures.value
