use Rattle.std.proofs.Common.{rules, true, false, Some, None, refl}
use Rattle.raft_core.proofs.Appending.{commit_made, commit_none}
use Rattle.raft_core.proofs.Puts.{fails}
use Rattle.raft_core.proofs.append.hold.Goals as goal

pub returns-in_err-set_commit-clause-puts : goal.returns-in_err-set_commit-clause-puts
returns-in_err-set_commit-clause-puts g c =
    fails _ c.args.d.now _ c.in_err-set_commit.field-0.0 _ (search rules) (commit_made c.args.d.now _ false (Some c.in_err-set_commit.field-0.0) refl c.args.place (search rules) c.in_err-set_commit.ensures.puts c.in_err-set_commit.ensures.fault)

pub returns-in_ok-set_commit-clause-puts : goal.returns-in_ok-set_commit-clause-puts
returns-in_ok-set_commit-clause-puts g c =
    commit_made c.args.d.now _ true None refl c.args.place (search rules) c.in_ok-set_commit.ensures.puts c.in_ok-set_commit.ensures.fault

pub returns-else-commit-place-clause-puts : goal.returns-else-commit-place-clause-puts
returns-else-commit-place-clause-puts g c = commit_none c.args.d.now _ c.args.place (search rules) (c.puts_in_turn.ensures.nothing c.args.d.now)
