use Rattle.service_calm.proofs.Grounds.{is_server}
use Rattle.service_candidate.proofs.WhoStands.{is_as_standing}
use Rattle.service_candidate.proofs.laws.who_stands_asks.Goals as goal
use Rattle.bus_spec.specs.Cluster.{world_of}

pub returns : goal.returns
returns c = λ ids rows members harmless n term row in_n harm s.
    is_as_standing (world_of ids rows) n term row s (is_server c.what_elections_stand_on.ensures.calm ids members rows harmless n s.before in_n s.runs).me
