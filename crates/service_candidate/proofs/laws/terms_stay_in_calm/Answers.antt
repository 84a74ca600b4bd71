use Rattle.std.proofs.Common.{◌++◌}
use Rattle.bus_rows.specs.Timed.{rows_in}
use Rattle.service_candidate.proofs.TermsHold.{begins, behind, terms_stay}
use Rattle.service_candidate.proofs.laws.terms_stay_in_calm.Goals as goal
use Rattle.bus_spec.specs.Cluster.{after_rows, world_of}

pub returns : goal.returns
returns c = λ ids rows members harmless group clocks pace start top first front rest listed running many calm harm within nobody.
    let grounds = c.what_elections_stand_on.ensures.calm in
    let goes = begins grounds ids members many group listed clocks pace start rows harmless running (first ++ (front ++ rest)) calm in
    let there = behind grounds ids members many group listed clocks pace first (front ++ rest) front (world_of ids rows) goes harm in
    terms_stay grounds ids members many group listed clocks pace top front rest (after_rows (world_of ids rows) (rows_in first)) there.0 there.1 nobody within
