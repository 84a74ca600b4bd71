use Rattle.service_calm.proofs.Calls.{lists_on}
use Rattle.service_calm.proofs.laws.who_is_listed_stays.Goals as goal

pub returns : goal.returns
returns c = λ group clocks pace traffic m node front rest w running calm lists. lists_on c.members_of_a_step.ensures.stay node group clocks pace traffic m front rest w running calm lists
