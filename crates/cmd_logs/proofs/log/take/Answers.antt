use Rattle.std.proofs.Common.{[]}
use Rattle.cmd_logs.proofs.log.take.Goals as goal

pub returns-in-Line-clause-writable : goal.returns-in-Line-clause-writable
returns-in-Line-clause-writable c = c.said_lines_are_writable.ensures c.args.form c.in-Line.line _ (c.in-Line.ensures.found.begins []).says
