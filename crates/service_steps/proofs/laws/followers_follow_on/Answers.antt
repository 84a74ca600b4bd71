use Rattle.service_steps.proofs.FramesLeave.{follows_on, frames_leave}
use Rattle.service_steps.proofs.laws.followers_follow_on.Goals as goal

pub returns : goal.returns
returns c = record { frames = frames_leave; steps = follows_on }
