use Rattle.can_frame.proofs.Cutting.{length-frames, frame-before_last, frame-last}
use Rattle.can_frame.proofs.laws.frames_in_order.Goals as goal

pub returns-clause-count : goal.returns-clause-count
returns-clause-count c = length-frames

pub returns-clause-before_last : goal.returns-clause-before_last
returns-clause-before_last c = frame-before_last

pub returns-clause-last : goal.returns-clause-last
returns-clause-last c = frame-last
