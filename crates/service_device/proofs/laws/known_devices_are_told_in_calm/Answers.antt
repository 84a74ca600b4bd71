use Rattle.std.proofs.Common.{◌+◌, arith}
use Rattle.service_calm.specs.Calm.{Member, no_traffic}
use Rattle.service_device.proofs.DialogGrounds.{begins, known, talk}
use Rattle.service_device.proofs.DialogHolds.{held_by}
use Rattle.service_device.proofs.DialogTold.{pair_stands}
use Rattle.service_device.proofs.ServiceFronts.{injective}
use Rattle.service_device.proofs.laws.known_devices_are_told_in_calm.Goals as goal
use Rattle.bus_spec.specs.Cluster.{world_of}

pub returns : goal.returns
returns c = let below = c.what_service_stands_on.ensures in
    λ ids rows members harmless group clocks pace start n a term uid preferred node log whole under come pair undisturbed quick long.
    let leaves = c.who_has_settled_stays_settled.ensures.row ids rows members harmless in
    held_by (talk below ids rows members harmless leaves group clocks pace start n a term uid preferred log whole under come undisturbed quick) node
    (pair_stands log uid node pair
    (injective below ids members rows harmless n (under.listed n under.member) log (start + clocks (Member n)) come.settled))
    whole (no_traffic start) (world_of ids rows)
    (begins below ids rows members harmless leaves group clocks pace start n a term uid preferred log whole under come undisturbed quick) under.calm
    (known below ids rows members harmless leaves group clocks pace start n a term uid preferred log whole under come undisturbed quick)
    (omega arith) long
