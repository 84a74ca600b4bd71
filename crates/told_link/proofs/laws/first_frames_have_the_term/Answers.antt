use Rattle.told_link.proofs.FirstFrames.{first_has}
use Rattle.told_link.proofs.laws.first_frames_have_the_term.Goals as goal

pub returns-clause-frames : goal.returns-clause-frames
returns-clause-frames c = first_has
