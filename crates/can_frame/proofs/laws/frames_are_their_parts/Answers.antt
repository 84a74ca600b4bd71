use Rattle.can_frame.proofs.Frames.{same_frame}
use Rattle.can_frame.proofs.laws.frames_are_their_parts.Goals as goal

pub returns : goal.returns
returns c = same_frame
