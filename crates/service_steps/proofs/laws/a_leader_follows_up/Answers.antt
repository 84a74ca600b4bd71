use Rattle.service_steps.proofs.FollowUps.{gives}
use Rattle.service_steps.proofs.laws.a_leader_follows_up.Goals as goal

pub returns : goal.returns
returns c = gives
