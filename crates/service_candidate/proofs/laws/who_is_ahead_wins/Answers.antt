use Rattle.std.proofs.Common.{◌≡◌, ◌+◌, ◌*◌, arith, sym, ◌∙◌, ap}
use Rattle.alloc_spec.specs.AllocatorState.{AllocatorState}
use Rattle.service_candidate.proofs.ElectionGrounds.{all_listed, found}
use Rattle.service_candidate.proofs.ElectionsEnd.{ends, first_stands, furthest_too, is_ahead, top_of_first}
use Rattle.service_candidate.specs.Elections.{OthersFollow}
use Rattle.bus_rows.specs.Timed.{rows_in}
use Rattle.service_candidate.proofs.WhoAsks.{who_follows_asks_nobody}
use Rattle.service_candidate.proofs.laws.who_is_ahead_wins.Goals as goal
use Rattle.bus_spec.specs.Cluster.{after_rows, world_of}
use Rattle.bus_spec.specs.Members.MemberStatus.{Up}

up_same : (a b : AllocatorState) → Up a ≡ Up b → a ≡ b
up_same a b e = cc e

pub returns : goal.returns
returns c =
    let below = c.what_elections_stand_on.ensures in
    λ ids rows members harmless group clocks pace start moment whole r late ahead long.
    let its = found below ids members rows harmless group clocks pace start whole r ahead.first moment ahead.member ahead.over late (omega (arith, long)) in
    let follow : OthersFollow group its.c (after_rows (world_of ids rows) (rows_in its.front)) = λ m server i differs up. let is = its.follow m i in
    ap (λ (t : AllocatorState). t.raft_server.memory.role) (up_same server is.0 (sym up ∙ is.1)) ∙ is.2 in
    let first = c.who_stands_first_wins.ensures ids rows members harmless in
    let ahead_first = is_ahead ids rows group clocks pace start whole r (moment + pace.period) its (ahead.each its.c its.member) in
    ends ids rows group clocks pace start whole r (c.logs_stay_in_calm.ensures ids rows members harmless) (c.no_appends_come.ensures ids rows members harmless)
    (all_listed below ids members rows harmless group clocks pace start whole r)
    (moment + pace.period + 4 * pace.delay) (moment + pace.period)
    (first_stands group clocks (moment + pace.period) (world_of ids rows) (world_of ids rows) whole its)
    (top_of_first ids rows group clocks pace start whole r (c.terms_stay_in_calm.ensures ids rows members harmless) (c.terms_do_not_fall.ensures ids rows)
    (moment + pace.period) its ahead_first)
    (furthest_too ids rows group clocks pace start whole r its.c ahead_first)
    (who_follows_asks_nobody group its.c its.member its.front (world_of ids rows) its.followed its.follow)
    (omega arith) long follow (λ calm behind. first group clocks pace start its.c its.term its.front its.rest its.timed calm behind
    (λ m i differs server up. follow m server i differs up))
