use Rattle.transfer_rx.proofs.Deliveries.{is_delivered}
use Rattle.transfer_rx.proofs.laws.deliveries_are_whole_transfers.Goals as goal

pub returns : goal.returns
returns c = is_delivered
