use Rattle.cluster_discovery.proofs.Joining.{members_are}
use Rattle.cluster_discovery.proofs.laws.members_are_a_list.Goals as goal

pub returns : goal.returns
returns c = members_are
