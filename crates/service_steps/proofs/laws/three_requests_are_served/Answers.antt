use Rattle.service_steps.proofs.Three.{answers, serves}
use Rattle.service_steps.proofs.laws.three_requests_are_served.Goals as goal

pub returns : goal.returns
returns c = record { serves = serves; answers = answers }
