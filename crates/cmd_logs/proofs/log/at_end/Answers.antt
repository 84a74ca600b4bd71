use Rattle.cmd_logs.proofs.Walking.{ends_unended}
use Rattle.cmd_logs.proofs.log.at_end.Goals as goal

pub returns-then-line_begins : goal.returns-then-line_begins
returns-then-line_begins c =
    ends_unended c.args.form c.args.limit c.args.taken c.args.input.now c.requires (c.line_begins.ensures.begins.0 c.if-line_begins.true)
