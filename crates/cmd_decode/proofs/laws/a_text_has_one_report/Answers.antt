use Rattle.cmd_decode.proofs.OneReport.{one_report}
use Rattle.cmd_decode.proofs.laws.a_text_has_one_report.Goals as goal

pub returns : goal.returns
returns c = one_report c.a_line_has_one_value.ensures
