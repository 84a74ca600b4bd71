use Rattle.transfer_tx.proofs.Cuts.{length-queued_frames, queued_frames-by_place}
use Rattle.transfer_tx.proofs.laws.frames_by_place.Goals as goal

pub returns-clause-count : goal.returns-clause-count
returns-clause-count c = length-queued_frames c.lengths_of_cuttings.ensures.count

pub returns-clause-frame : goal.returns-clause-frame
returns-clause-frame c = queued_frames-by_place c.lengths_of_cuttings.ensures.count
