use Rattle.raft_model.proofs.Written.{puts_written, step_written}
use Rattle.raft_model.proofs.laws.law_puts.Goals as goal

pub returns : goal.returns
returns c = record { of_move = puts_written; of_step = step_written }
