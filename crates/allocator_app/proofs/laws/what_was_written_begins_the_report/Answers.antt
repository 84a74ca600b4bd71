use Rattle.allocator_app.proofs.OneReport.{begins_report}
use Rattle.allocator_app.proofs.laws.what_was_written_begins_the_report.Goals as goal

pub returns : goal.returns
returns c = λ limit first bytes report status left sink_before sink_now part told.
    begins_report c.a_line_has_one_row.ensures limit first bytes report status left sink_before sink_now part told
