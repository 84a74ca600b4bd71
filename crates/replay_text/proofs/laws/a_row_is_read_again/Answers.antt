use Rattle.replay_text.proofs.Spelled.{read_again}
use Rattle.replay_text.proofs.laws.a_row_is_read_again.Goals as goal

pub returns : goal.returns
returns c = read_again
