use Rattle.cmd_logs.proofs.OneReport.{one_report}
use Rattle.cmd_logs.proofs.laws.a_log_has_one_report.Goals as goal

pub returns : goal.returns
returns c = one_report c.a_line_says_one_thing.ensures
