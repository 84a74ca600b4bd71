use Rattle.std.proofs.Common.{◌++◌, refl}
use Rattle.bus_rows.specs.Timed.{rows_in}
use Rattle.service_leader.proofs.EntriesRows.{led_from_start, leads_if_up}
use Rattle.service_device.proofs.LosesNothing.{loses_nothing}
use Rattle.service_device.proofs.laws.leaders_lose_nothing_in_calm.Goals as goal
use Rattle.bus_spec.specs.Cluster.{after_rows, world_of}

pub returns : goal.returns
returns c = λ ids rows members harmless group clocks pace start n m term early middle late before after under fits in_m other in_step up then_up.
    loses_nothing ids rows (c.what_entries_stand_on.ensures ids rows members harmless) group clocks pace start n m term early middle late
    (led_from_start ids rows group clocks pace start n term (early ++ (middle ++ late)) under.listed under.running under.member under.calm under.harmless under.led fits)
    (leads_if_up n term (after_rows (world_of ids rows) (rows_in early)) (under.led early (middle ++ late) refl).leader) before after up then_up
