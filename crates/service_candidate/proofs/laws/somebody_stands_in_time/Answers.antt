use Rattle.std.proofs.Common.{◌+◌, arith}
use Rattle.service_candidate.specs.Elections.{longest_wait}
use Rattle.service_candidate.proofs.ElectionGrounds.{found}
use Rattle.service_candidate.proofs.ElectionsEnd.{first_stands, over_by, some_member}
use Rattle.service_candidate.proofs.laws.somebody_stands_in_time.Goals as goal
use Rattle.bus_spec.specs.Cluster.{world_of}

pub returns : goal.returns
returns c = λ ids rows members harmless group clocks pace start whole r long.
    let one = some_member group ids _ (omega arith) r.many in
    first_stands group clocks (start + longest_wait + pace.period) (world_of ids rows) (world_of ids rows) whole
    (found c.what_elections_stand_on.ensures ids members rows harmless group clocks pace start whole r one.0 (start + longest_wait) one.1
    (over_by ids rows group clocks pace start whole r one.0 one.1) (omega arith) long)
