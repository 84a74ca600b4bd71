use Rattle.std.proofs.Common.{List, ◌++◌, sym, subst}
use Rattle.bus_rows.specs.Timed.{Timed, rows_in}
use Rattle.service_alone.specs.Calm.{HasSettled}
use Rattle.service_alone.proofs.Goes.{after_both}
use Rattle.service_device.proofs.KnownTold.{known_device_is_told}
use Rattle.service_device.proofs.ServedBehind.{harmless_to}
use Rattle.service_device.proofs.ServiceFronts.{injective}
use Rattle.service_device.proofs.laws.heard_known_devices_are_told_in_calm.Goals as goal
use Rattle.bus_spec.specs.Cluster.{cluster}

pub returns : goal.returns
returns c = let below = c.what_service_stands_on.ensures in
    λ ids rows members harmless group clocks pace start n a term uid preferred node log heard wait first early later under quick hears pair can room long.
    let whole : List Timed = first ++ (early ++ later) in
    known_device_is_told below.device_uid below.read ids rows (below.allocations ids rows members harmless)
    group clocks pace start n a term uid preferred node log heard wait first early later under quick can room pair
    (λ front rest now cut settled. injective below ids members (rows ++ rows_in front) (harmless_to ids rows whole harmless under.harmless front rest cut) n
    (under.listed n under.member) log now (subst (HasSettled n log now) (sym (after_both (cluster ids) rows (rows_in front))) settled))
    hears long
