use Rattle.std.proofs.Common.{sym, subst}
use Rattle.raft_model.specs.Runs.{World, initial_world, run}
use Rattle.service_calm.proofs.Grounds.{choice, invariants, its_run, listed_in, made, shown}
use Rattle.service_leader.proofs.EntriesAccepted.{accepts_in}
use Rattle.service_leader.proofs.EntriesJudged.{called_accepts}
use Rattle.service_leader.proofs.laws.calls_to_who_is_in_step_are_accepted.Goals as goal
use Rattle.alloc_spec.specs.ClusterMembers.{AreMembers}
use Rattle.bus_spec.specs.Cluster.{cluster, world_of}
use Rattle.bus_spec.specs.Refinement.{events}

pub returns-clause-runs : goal.returns-clause-runs
returns-clause-runs c = λ members events lawful leader peer request.
    accepts_in c.law_decisions.ensures.one_verdict (run (initial_world members) events) (c.what_calms_stand_on.ensures.invariants members events lawful) leader peer request
    (c.law_fit.ensures.run members events leader lawful)

pub returns-clause-rows : goal.returns-clause-rows
returns-clause-rows c = λ ids rows members harmless n m x request row in_n in_m other harm called.
    let below = c.what_calms_stand_on.ensures in
    let its_choice = choice below ids members rows harmless in
    let its_made = made below ids members rows harmless in
    let world : World = its_run below ids members rows harmless in
    let its = shown below ids members rows harmless in
    called_accepts below.codec its_choice its_made (world_of ids rows) world its.shows
    (below.one_transfer its_choice its_made (world_of ids rows) world (subst AreMembers (sym (below.same (cluster ids) rows)) members) its.shows)
    (λ leader peer asked. accepts_in c.law_decisions.ensures.one_verdict world (invariants below ids members rows harmless)
    leader peer asked (c.law_fit.ensures.run ids (events its_choice (cluster ids) rows) leader its.lawful))
    n m x request row (listed_in below ids rows n in_n) (listed_in below ids rows m in_m) other harm called
