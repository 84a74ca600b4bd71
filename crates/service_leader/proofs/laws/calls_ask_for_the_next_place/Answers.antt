use Rattle.service_leader.proofs.CallsPend.{asks_next}
use Rattle.service_leader.proofs.laws.calls_ask_for_the_next_place.Goals as goal

pub returns : goal.returns
returns c = λ t number event m offer offered what to fitted. asks_next c.transfers_of_a_step_are_apart.ensures.apart t number event m offer offered what to fitted
