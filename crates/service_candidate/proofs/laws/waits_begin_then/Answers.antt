use Rattle.service_candidate.proofs.WaitsRows.{begins_then, has_waited_long}
use Rattle.service_candidate.proofs.laws.waits_begin_then.Goals as goal
use Rattle.bus_spec.specs.Cluster.{world_of}

pub returns : goal.returns
returns c = λ ids rows members harmless m row listed harm.
    (begins_then (world_of ids rows) m row harm, has_waited_long (world_of ids rows) m row harm)
