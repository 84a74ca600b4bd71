use Rattle.node_discovery.proofs.Devices.{next, none_is, only, some_is}
use Rattle.node_discovery.proofs.laws.what_is_computed_of_the_unknown.Goals as goal

pub returns-clause-next : goal.returns-clause-next
returns-clause-next c = next

pub returns-clause-only : goal.returns-clause-only
returns-clause-only c = only

pub returns-clause-some : goal.returns-clause-some
returns-clause-some c = some_is

pub returns-clause-none : goal.returns-clause-none
returns-clause-none c = none_is
