use Rattle.service_alone.specs.CalmRecovery.{no_own_traffic}
use Rattle.service_alone.proofs.QuietGoesOn.{goes_on}
use Rattle.service_alone.proofs.laws.quiet_goes_on.Goals as goal

pub returns : goal.returns
returns c = λ n ahead start last more pace w whole some quiet. goes_on n ahead pace some last more (no_own_traffic start) w whole quiet
