use Rattle.service_calm.proofs.DevicesTold.{allocation_comes}
use Rattle.service_calm.proofs.Grounds.{calm_laws, choice, its_run, made, shown}
use Rattle.service_calm.proofs.Start.{places_in}
use Rattle.service_calm.proofs.laws.allocations_come_in_calm.Goals as goal
use Rattle.bus_spec.specs.Cluster.{cluster, world_of}

pub returns : goal.returns
returns c =
    let below = c.what_calms_stand_on.ensures in
    λ ids rows members harmless group clocks pace start n a front rest timed offer listed running in_n in_a quick ready may calm memory short sends what long.
    allocation_comes (calm_laws below) (record { frame = c.sessions_of_a_step.ensures.frame; tick = c.sessions_of_a_step.ensures.tick }) ids members.nodes
    (choice below ids members rows harmless) (made below ids members rows harmless) (world_of ids rows) (its_run below ids members rows harmless)
    (shown below ids members rows harmless).shows (below.same (cluster ids) rows) (places_in ids rows)
    group clocks pace start n a front rest timed offer listed running in_n in_a quick ready may calm memory short sends what long
