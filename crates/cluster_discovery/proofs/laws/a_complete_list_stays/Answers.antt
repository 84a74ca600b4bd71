use Rattle.cluster_discovery.proofs.Joining.{complete_stays, learns_none, list_stays}
use Rattle.cluster_discovery.proofs.laws.a_complete_list_stays.Goals as goal

pub returns-clause-members : goal.returns-clause-members
returns-clause-members c = list_stays

pub returns-clause-complete : goal.returns-clause-complete
returns-clause-complete c = complete_stays

pub returns-clause-learns : goal.returns-clause-learns
returns-clause-learns c = learns_none
