use Rattle.replay_text.proofs.Spelled.{no_line_feed, short_line}
use Rattle.replay_text.proofs.laws.lines_of_rows_are_short.Goals as goal

pub returns-clause-short : goal.returns-clause-short
returns-clause-short c = short_line

pub returns-clause-one_line : goal.returns-clause-one_line
returns-clause-one_line c = no_line_feed
