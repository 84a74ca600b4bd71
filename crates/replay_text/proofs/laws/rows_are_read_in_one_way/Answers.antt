use Rattle.replay_text.proofs.FirstLine.{NoRowBegins-nil, ReadsRows-one_way}
use Rattle.replay_text.proofs.laws.rows_are_read_in_one_way.Goals as goal

pub returns-clause-rows : goal.returns-clause-rows
returns-clause-rows c = ReadsRows-one_way c.a_line_has_one_row.ensures

pub returns-clause-at_the_end : goal.returns-clause-at_the_end
returns-clause-at_the_end c = NoRowBegins-nil
