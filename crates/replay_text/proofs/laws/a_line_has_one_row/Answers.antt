use Rattle.replay_text.specs.Words.{words}
use Rattle.replay_text.proofs.OneRow.{one_row}
use Rattle.replay_text.proofs.laws.a_line_has_one_row.Goals as goal

pub returns : goal.returns
returns c = λ a b line first second. one_row c.frames_are_their_parts.ensures a b (words line) first second
