use Rattle.std.proofs.Common.{◌+◌, List, ◌++◌, length}
use Rattle.bus_rows.specs.Timed.{Timed, rows_in}
use Rattle.service_alone.specs.Calm.{end_of}
use Rattle.service_device.specs.AskingServed.{serve_within}
use Rattle.service_device.proofs.AskingServed.{has_id, recorded_device_is_served}
use Rattle.service_device.proofs.ServiceFronts.{agrees, fitting_behind, lists_behind, served_laws, telling_laws}
use Rattle.service_device.proofs.laws.recorded_devices_are_served_in_calm.Goals as goal
use Rattle.bus_spec.specs.Cluster.{after_rows, world_of}

pub returns : goal.returns
returns c = let below = c.what_service_stands_on.ensures in
    λ ids rows members harmless group clocks pace start n a term uid preferred log one next heard first early later under asks records its place lists fits
    pairs can others quick long.
    let whole : List Timed = first ++ (early ++ later) in
    let in_n = under.listed n under.member in
    has_id ids a log uid (end_of (end_of start first) early) (heard + serve_within pace (length log))
    (after_rows (after_rows (world_of ids rows) (rows_in first)) (rows_in early)) later
    (recorded_device_is_served (served_laws below) (telling_laws below) below.judged below.device_uid below.read ids rows
    (below.committed ids rows members harmless) (below.entries ids rows members harmless) (below.allocations ids rows members harmless)
    group clocks pace start n a term uid log one next heard first early later under place lists fits can others quick
    (lists_behind below ids members rows harmless whole under.harmless n in_n)
    (λ front rest t cut up. (fitting_behind below ids members rows harmless whole under.harmless n in_n front rest t cut up).commit)
    (agrees below ids members rows harmless whole under.harmless n in_n a term log uid place.device)
    (asks.device, asks.there, asks.its_uid) (records, its) pairs long)
