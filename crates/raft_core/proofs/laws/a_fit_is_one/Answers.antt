use Rattle.raft_core.specs.OneFit.{Fits-prop}
use Rattle.raft_core.proofs.laws.a_fit_is_one.Goals as goal

pub returns : goal.returns
returns c = λ raft state a b. Fits-prop raft state a b
