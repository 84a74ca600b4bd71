use Rattle.service_alone.specs.Calm.{no_traffic}
use Rattle.service_alone.proofs.CalmGoesOn.{fine_at_first, goes_on}
use Rattle.service_alone.proofs.laws.calm_goes_on.Goals as goal

pub returns : goal.returns
returns c = λ n a start more clocks pace w whole some calm.
    goes_on n a clocks pace some more (no_traffic start) w whole (fine_at_first n a clocks pace start w) calm
