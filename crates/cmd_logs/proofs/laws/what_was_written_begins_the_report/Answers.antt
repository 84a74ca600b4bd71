use Rattle.cmd_logs.proofs.OneReport.{written_front}
use Rattle.cmd_logs.proofs.laws.what_was_written_begins_the_report.Goals as goal

pub returns : goal.returns
returns c = written_front c.a_line_says_one_thing.ensures
