use Rattle.service_steps.proofs.CatchingUp.{catches_up}
use Rattle.service_steps.proofs.laws.peers_catch_up.Goals as goal

pub returns : goal.returns
returns c = λ members me you number two j. catches_up members me you c.law_decisions.ensures.one_verdict number two j
