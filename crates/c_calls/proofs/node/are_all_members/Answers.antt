use Rattle.std.proofs.Common.{rules}
use Rattle.c_calls.proofs.Members.{told_all}
use Rattle.c_calls.proofs.node.are_all_members.Goals as goal

pub returns-then-has : goal.returns-then-has
returns-then-has c =
    told_all c.args.members.now c.args.me c.args.size c.are_members.result (search rules) (c.has.ensures.0 c.if-has.true) c.are_members.ensures c.requires.some c.requires.five
