use Rattle.std.proofs.Common.{arith}
use Rattle.service_calm.proofs.Grounds.{its_node}
use Rattle.service_candidate.proofs.WaitsRows.{has_reason}
use Rattle.service_candidate.proofs.laws.waits_have_reasons.Goals as goal
use Rattle.bus_spec.specs.Cluster.{world_of}

pub returns : goal.returns
returns c = λ ids rows members harmless m row listed many harm anew.
    let below = c.what_elections_stand_on.ensures in
    let up = its_node below.calm ids members rows harmless m anew.before listed anew.runs in
    has_reason (world_of ids rows) m row harm below.calm.frame anew up.0 (omega (arith, up.1, many))
