use Rattle.service_steps.proofs.Alone.{tells_at_once}
use Rattle.service_steps.proofs.laws.who_is_alone_tells_at_once.Goals as goal

pub returns : goal.returns
returns c = tells_at_once
