use Rattle.raft_core.proofs.Origins.{opening_unseen}
use Rattle.raft_core.proofs.laws.an_opening_keeps_the_store.Goals as goal

pub returns : goal.returns
returns c = λ state count. opening_unseen state count
