use Rattle.std.proofs.Common.{arith}
use Rattle.service_calm.specs.Calm.{no_traffic}
use Rattle.service_device.proofs.Dialog.{heard_by}
use Rattle.service_device.proofs.DialogGrounds.{begins, known, talk}
use Rattle.service_device.proofs.laws.devices_are_heard_out_in_calm.Goals as goal
use Rattle.bus_spec.specs.Cluster.{world_of}

pub returns : goal.returns
returns c = let below = c.what_service_stands_on.ensures in
    λ ids rows members harmless group clocks pace start n a term uid preferred log whole under come undisturbed quick long.
    let leaves = c.who_has_settled_stays_settled.ensures.row ids rows members harmless in
    heard_by (talk below ids rows members harmless leaves group clocks pace start n a term uid preferred log whole under come undisturbed quick)
    whole (no_traffic start) (world_of ids rows)
    (begins below ids rows members harmless leaves group clocks pace start n a term uid preferred log whole under come undisturbed quick) under.calm
    (known below ids rows members harmless leaves group clocks pace start n a term uid preferred log whole under come undisturbed quick)
    (omega arith) long
