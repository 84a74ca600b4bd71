use Rattle.allocator_app.proofs.OneReport.{one_report}
use Rattle.allocator_app.proofs.laws.a_schedule_has_one_report.Goals as goal

pub returns : goal.returns
returns c = λ limit first bytes report other status ending told again.
    one_report c.a_line_has_one_row.ensures limit first bytes report other status ending told again
