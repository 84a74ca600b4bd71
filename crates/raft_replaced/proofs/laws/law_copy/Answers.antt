use Rattle.raft_replaced.proofs.Run.{copy_has_all, copy_is_store, logs_stay}
use Rattle.raft_replaced.proofs.laws.law_copy.Goals as goal

pub returns : goal.returns
returns c = record { store = copy_is_store; all = copy_has_all; bag = logs_stay }
