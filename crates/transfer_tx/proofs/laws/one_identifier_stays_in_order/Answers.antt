use Rattle.transfer_tx.proofs.Order.{in_order}
use Rattle.transfer_tx.proofs.laws.one_identifier_stays_in_order.Goals as goal

pub returns : goal.returns
returns c = in_order
