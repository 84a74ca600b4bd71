use Rattle.can_frame.proofs.Cutting.{count-frames, frames_alike, length-cut_bytes, length-joined, payloads_alike}
use Rattle.can_frame.proofs.laws.lengths_of_cuttings.Goals as goal

pub returns-clause-cut : goal.returns-clause-cut
returns-clause-cut c = length-cut_bytes

pub returns-clause-count : goal.returns-clause-count
returns-clause-count c = count-frames

pub returns-clause-carried : goal.returns-clause-carried
returns-clause-carried c = length-joined

pub returns-clause-frames : goal.returns-clause-frames
returns-clause-frames c = frames_alike

pub returns-clause-payload : goal.returns-clause-payload
returns-clause-payload c = payloads_alike
