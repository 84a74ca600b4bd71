use Rattle.std.proofs.Common.{◌+◌, ◌<◌, arith}
use Rattle.service_alone.specs.Calm.{end_of}
use Rattle.service_candidate.specs.Elections.{election_within}
use Rattle.service_cluster.proofs.laws.clusters_in_step_settle.Goals as goal

pub returns : goal.returns
returns c = λ ids rows members harmless group clocks pace start longest whole s ahead long.
    let by_then : start + election_within pace < end_of start whole = omega (arith, long) in
    let won = c.elections_end.ensures ids rows members harmless group clocks pace start whole s.restart ahead by_then in
    c.started_clusters_settle.ensures ids rows members harmless group clocks pace start longest (start + election_within pace) whole
    s won long
