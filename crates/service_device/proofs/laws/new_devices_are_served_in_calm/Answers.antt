use Rattle.std.proofs.Common.{◌+◌, [], refl, arith}
use Rattle.allocatee.specs.Allocatee.{opening}
use Rattle.service_calm.specs.Calm.{Device}
use Rattle.service_device.specs.Served.{time_to_be_committed, time_to_be_served}
use Rattle.service_device.proofs.ServedDevice.{can_be_told, is_served}
use Rattle.service_device.proofs.ServiceFronts.{agrees}
use Rattle.service_device.proofs.laws.new_devices_are_served_in_calm.Goals as goal
use Rattle.bus_spec.specs.Cluster.{world_of}

pub returns : goal.returns
returns c = let below = c.what_service_stands_on.ensures in
    λ ids rows members harmless group clocks pace start n a term uid preferred first next log whole under come place lists undisturbed fits pairs short
    followers quick long.
    let told = c.new_pairs_are_offered_in_calm.ensures ids rows members harmless
    group clocks pace start n a term uid preferred first next log whole under come place lists undisturbed fits followers quick (omega (arith, long)) in
    is_served ids rows (below.allocations ids rows members harmless) below.device_uid below.read
    group clocks pace start n a term [] whole under uid come.whole log (opening uid preferred (start + clocks (Device a)) come.word, come.there, refl)
    (can_be_told group clocks start n a uid preferred log (world_of ids rows) whole come undisturbed.memory short) pairs (omega (arith, quick))
    (start + time_to_be_committed pace) told (omega (arith, long))
    (agrees below ids members rows harmless whole under.harmless n (under.listed n under.member) a term log uid place.device)
    (start + time_to_be_served pace) (omega arith)
