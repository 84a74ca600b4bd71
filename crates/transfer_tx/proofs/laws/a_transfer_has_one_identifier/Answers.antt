use Rattle.transfer_tx.proofs.Cuts.{queued_frames-one_identifier}
use Rattle.transfer_tx.proofs.laws.a_transfer_has_one_identifier.Goals as goal

pub returns : goal.returns
returns c = queued_frames-one_identifier
