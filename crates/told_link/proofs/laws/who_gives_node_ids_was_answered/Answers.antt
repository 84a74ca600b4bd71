use Rattle.told_link.proofs.Followers.{answered_enough}
use Rattle.told_link.proofs.laws.who_gives_node_ids_was_answered.Goals as goal

pub returns : goal.returns
returns c = answered_enough
