use Rattle.std.proofs.Common.{arith, refl}
use Rattle.service_calm.specs.Calm.{no_traffic}
use Rattle.service_calm.proofs.DevicesAsked.{request_comes}
use Rattle.service_calm.proofs.DevicesSteps.{small_rows}
use Rattle.service_calm.proofs.Grounds.{calm_laws, well}
use Rattle.service_calm.proofs.laws.requests_come_in_calm.Goals as goal
use Rattle.bus_spec.specs.Cluster.{cluster, world_of}

pub returns : goal.returns
returns c =
    let below = c.what_calms_stand_on.ensures in
    λ ids rows members harmless group clocks pace start a m front rest timed listed running in_m calm asks low long.
    request_comes (calm_laws below) c.requests_of_devices_are_requests.ensures c.requests_are_delivered.ensures group clocks pace (λ p i. members.nodes p (listed p i)) m in_m
    a timed rest long front (no_traffic start) (world_of ids rows) (well below ids members rows harmless group listed running)
    (small_rows (cluster ids) rows (λ b. tt)) refl (omega arith) calm asks low
