use Rattle.transfer_rx.specs.Crcs.{signature_in}
use Rattle.transfer_rx.proofs.receiver.Receiver.reset.Goals as goal

pub invariant_of-self : goal.invariant_of-self
invariant_of-self g c = record { crcs = c.clear.ensures.crcs (signature_in c.args.self.now.rows.items) }
