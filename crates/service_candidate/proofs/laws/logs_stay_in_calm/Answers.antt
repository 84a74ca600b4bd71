use Rattle.bus_rows.specs.Timed.{rows_in}
use Rattle.service_candidate.proofs.ElectionGrounds.{logs_go_on}
use Rattle.service_calm.proofs.Grounds.{calm_laws}
use Rattle.service_candidate.proofs.LogsHold.{log_is}
use Rattle.service_candidate.proofs.laws.logs_stay_in_calm.Goals as goal
use Rattle.bus_spec.specs.Cluster.{after_rows, world_of}

pub returns : goal.returns
returns c = λ ids rows members harmless group clocks pace start m front rest before later listed running none calm in_m nobody nobody_then runs runs_then.
    let below = c.what_elections_stand_on.ensures in
    let asks = c.calls_ask_for_the_next_place.ensures in
    log_is (calm_laws below.calm) asks group (λ p i. members.nodes p (listed p i)) clocks pace m before.raft_server.store (after_rows (world_of ids rows) (rows_in front)) rest
    (logs_go_on below ids members asks rows harmless group clocks pace start m front rest before listed running none calm runs nobody nobody_then) in_m later runs_then
