use Rattle.service_calm.proofs.GoesOn.{calm_goes_on}
use Rattle.service_calm.proofs.laws.calm_goes_on.Goals as goal

pub returns : goal.returns
returns c = λ group clocks pace party start more w whole i period delay calm. calm_goes_on group clocks pace party start more w whole i period delay calm
