use Rattle.std.proofs.Common.{◌∷◌}
use Rattle.cluster_discovery.specs.Members.{counts, members}
use Rattle.cluster_discovery.proofs.Growth.{members_kept}
use Rattle.cluster_discovery.proofs.laws.members_stay.Goals as goal

pub returns : goal.returns
returns c = λ start events from message.
    members_kept (counts start from message) start.size (members start events) (from ∷ message.known.items)
