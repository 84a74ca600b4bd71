use Rattle.std.proofs.Common.{sym, subst}
use Rattle.service_candidate.proofs.VoteRows.{waits_on}
use Rattle.service_candidate.proofs.laws.who_asked_waits_on.Goals as goal
use Rattle.service_calm.proofs.Grounds.{choice, its_run, listed_in, made, shown}
use Rattle.alloc_spec.specs.ClusterMembers.{AreMembers}
use Rattle.bus_spec.specs.Cluster.{cluster, world_of}

pub returns : goal.returns
returns c = λ ids rows members harmless n m id moment request row before after in_n harm up up_then waits soon none_stands no_leader none_comes.
    let below = c.what_elections_stand_on.ensures.calm in
    let its_choice = choice below ids members rows harmless in
    let its_made = made below ids members rows harmless in
    let run = its_run below ids members rows harmless in
    let shows = (shown below ids members rows harmless).shows in
    let all = subst AreMembers (sym (below.same (cluster ids) rows)) members in
    waits_on below.frame below.stay its_choice its_made (world_of ids rows) run all shows
    (below.one_transfer its_choice its_made (world_of ids rows) run all shows)
    n m id moment request row before after (listed_in below ids rows n in_n) harm up up_then waits soon none_stands no_leader none_comes
