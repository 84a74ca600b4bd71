use Rattle.raft_log.proofs.States.{zeros_stand}
use Rattle.raft_log.proofs.laws.zeros_are_the_first_state.Goals as goal

pub returns : goal.returns
returns c = zeros_stand
