use Rattle.transfer_tx.proofs.Order.{next_is, rest_is}
use Rattle.transfer_tx.proofs.laws.least_and_first_goes_next.Goals as goal

pub returns-clause-next : goal.returns-clause-next
returns-clause-next c = next_is

pub returns-clause-rest : goal.returns-clause-rest
returns-clause-rest c = rest_is
