use Rattle.std.proofs.Common.{◌+◌, arith, List, ◌++◌}
use Rattle.bus_rows.specs.declared.row.Row.{Row}
use Rattle.service_leader.proofs.Stretches.{harmless_both}
use Rattle.service_candidate.specs.Elections.{longest_wait}
use Rattle.service_candidate.proofs.ElectionGrounds.{all_know, are_well}
use Rattle.service_candidate.proofs.ElectionsEnd.{all_run, opened_follow, over_at, some_member}
use Rattle.service_candidate.proofs.FurthestStands.{furthest_of, furthest_or_led}
use Rattle.service_candidate.proofs.laws.who_is_furthest_stands.Goals as goal
use Rattle.service_calm.proofs.Grounds.{calm_laws, choice, its_run, shown}
use Rattle.bus_spec.specs.Cluster.{cluster, world_of}
use Rattle.bus_spec.specs.Lawful.{DoNoHarm}

pub returns : goal.returns
returns c =
    let below = c.what_elections_stand_on.ensures in
    let calm = below.calm in
    λ ids rows members harmless group clocks pace start whole r long.
    let reads_said = λ (list : List Row) (fine : DoNoHarm (cluster ids) list). c.vote_requests_read_as_said.ensures ids list members fine in
    let logs_stay = c.logs_stay_in_calm.ensures ids rows members harmless in
    let no_appends = c.no_appends_come.ensures ids rows members harmless in
    let joined = λ (more : List Row) (fine : DoNoHarm (world_of ids rows) more). harmless_both (cluster ids) rows more harmless fine in
    let one = some_member group ids _ (omega arith) r.many in
    let best = furthest_of group (world_of ids rows) one.0 one.1 in
    let running = all_run ids rows group clocks pace start whole r best.0 best.1 in
    furthest_or_led ids rows group clocks pace start whole r members (calm_laws calm) below.leave (are_well below ids members rows harmless group clocks pace start whole r)
    (λ more. calm.same (cluster ids) (rows ++ more))
    (λ more fine. let there = joined more fine in (choice calm ids members (rows ++ more) there, its_run calm ids members (rows ++ more) there, (shown calm ids members (rows ++ more) there).shows))
    (shown calm ids members rows harmless).shows.past calm.one_transfer (λ more fine. reads_said (rows ++ more) (joined more fine)) logs_stay no_appends
    (λ more fine. c.waits_have_reasons.ensures ids (rows ++ more) members (joined more fine)) (start + longest_wait + pace.period) best.0 best.1 best.2
    (c.who_waits_stands.ensures ids rows members harmless group clocks pace _ best.0 (start + longest_wait) whole running (r.listed best.0 best.1) best.1 r.others
    (all_know below ids members rows harmless group clocks pace start whole r best.0 (r.opened best.0 best.1).store (r.opened best.0 best.1).moment (r.opened best.0 best.1).word best.1)
    (opened_follow ids rows group clocks pace start whole r best.0 best.1) (r.left best.0 best.1) r.calm
    (over_at ids rows group clocks pace start whole r best.0 best.1) (omega arith) (omega arith) long)
