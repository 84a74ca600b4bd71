use Rattle.service_cluster.proofs.Returning.{begins_anew}
use Rattle.service_cluster.proofs.laws.winners_begin_anew.Goals as goal

pub returns : goal.returns
returns c = begins_anew
