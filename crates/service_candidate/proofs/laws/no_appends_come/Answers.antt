use Rattle.std.proofs.Common.{◌∷◌}
use Rattle.bus_rows.specs.Timed.{rows_in}
use Rattle.service_candidate.proofs.ElectionGrounds.{logs_go_on}
use Rattle.service_calm.proofs.Grounds.{calm_laws}
use Rattle.service_candidate.proofs.LogsHold.{hears_none}
use Rattle.service_candidate.proofs.laws.no_appends_come.Goals as goal
use Rattle.bus_spec.specs.Cluster.{after_rows, world_of}

pub returns : goal.returns
returns c = λ ids rows members harmless group clocks pace start m front rest timed listed running none calm in_m nobody nobody_then hears.
    let below = c.what_elections_stand_on.ensures in
    let asks = c.calls_ask_for_the_next_place.ensures in
    let is = running m in_m in
    hears_none (calm_laws below.calm) asks group (λ p i. members.nodes p (listed p i)) clocks pace m is.server.raft_server.store timed rest (after_rows (world_of ids rows) (rows_in front))
    (logs_go_on below ids members asks rows harmless group clocks pace start m front (timed ∷ rest) is.server listed running none calm is.runs nobody nobody_then) in_m hears
