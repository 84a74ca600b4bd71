use Rattle.std.proofs.Common.{◌++◌}
use Rattle.bus_rows.specs.Timed.{rows_in}
use Rattle.service_candidate.proofs.TermsHold.{begins, behind, two_or_more, votes_stay}
use Rattle.service_candidate.proofs.laws.votes_stay_free.Goals as goal
use Rattle.bus_spec.specs.Cluster.{after_rows, world_of}

pub returns : goal.returns
returns c =
    λ ids rows members harmless group clocks pace start q term first front rest listed running in_q calm harm within below nobody_else nobody m in_m apart.
    let grounds = c.what_elections_stand_on.ensures.calm in
    let many = two_or_more ids m q (listed m in_m) (listed q in_q) apart in
    let goes = begins grounds ids members many group listed clocks pace start rows harmless running (first ++ (front ++ rest)) calm in
    let there = behind grounds ids members many group listed clocks pace first (front ++ rest) front (world_of ids rows) goes harm in
    votes_stay grounds ids members many group listed clocks pace q term front rest (after_rows (world_of ids rows) (rows_in first)) there.0 there.1 within below nobody_else nobody
    m in_m apart
