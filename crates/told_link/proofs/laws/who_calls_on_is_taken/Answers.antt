use Rattle.told_link.proofs.Ceilings.{taken_on}
use Rattle.told_link.proofs.laws.who_calls_on_is_taken.Goals as goal

pub returns : goal.returns
returns c = taken_on
