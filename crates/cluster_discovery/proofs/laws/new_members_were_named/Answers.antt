use Rattle.cluster_discovery.proofs.Joining.{named}
use Rattle.cluster_discovery.proofs.laws.new_members_were_named.Goals as goal

pub returns : goal.returns
returns c = named
