use Rattle.transfer_rx.specs.Crcs.{signature_in}
use Rattle.transfer_rx.proofs.receiver.Receiver.new.Goals as goal

pub invariant_of-result : goal.invariant_of-result
invariant_of-result g c = record { crcs = c.new.ensures.crcs (signature_in c.args.rows.items) }
