use Rattle.std.proofs.Common.{rules, true, false, Some, None, refl}
use Rattle.raft_core.proofs.Appending.{cut_made, cut_none}
use Rattle.raft_core.proofs.Puts.{fails}
use Rattle.raft_core.proofs.append.cut.Goals as goal

pub returns-in_err-truncate-clause-puts : goal.returns-in_err-truncate-clause-puts
returns-in_err-truncate-clause-puts g c =
    fails _ c.args.d.now _ c.in_err-truncate.field-0.0 _ (search rules) (cut_made c.args.d.now _ false (Some c.in_err-truncate.field-0.0) refl c.args.previous (search rules) c.in_err-truncate.ensures.puts c.in_err-truncate.ensures.fault)

pub returns-in_ok-truncate-clause-puts : goal.returns-in_ok-truncate-clause-puts
returns-in_ok-truncate-clause-puts g c = cut_made c.args.d.now _ true None refl c.args.previous (search rules) c.in_ok-truncate.ensures.puts c.in_ok-truncate.ensures.fault

pub returns-else-previous-last-clause-puts : goal.returns-else-previous-last-clause-puts
returns-else-previous-last-clause-puts g c = cut_none c.args.d.now _ c.args.previous (search rules) (c.puts_in_turn.ensures.nothing c.args.d.now)
