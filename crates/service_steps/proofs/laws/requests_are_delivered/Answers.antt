use Rattle.service_steps.proofs.Requests.{delivered}
use Rattle.service_steps.proofs.laws.requests_are_delivered.Goals as goal

pub returns : goal.returns
returns c = delivered
