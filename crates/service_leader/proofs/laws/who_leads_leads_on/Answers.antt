use Rattle.std.proofs.Common.{ℕ, ◌++◌, refl, subst}
use Rattle.raft_model.specs.Lists.{In}
use Rattle.bus_rows.specs.Timed.{rows_in}
use Rattle.service_calm.specs.Calm.{Member, no_traffic}
use Rattle.service_calm.proofs.Grounds.{calm_laws, well}
use Rattle.service_leader.proofs.LeadsOn.{all_play, is_led, play_on}
use Rattle.service_alone.proofs.Goes.{after_both}
use Rattle.bus_agreement.proofs.Concatenations.{first_harmless}
use Rattle.service_leader.proofs.LeadsOnWays.{IsCalmOn, all_run, calm_on}
use Rattle.service_leader.proofs.Stretches.{harmless_both, harmless_rest, rows_both}
use Rattle.service_leader.proofs.TermsRun.{of_run}
use Rattle.service_leader.proofs.laws.who_leads_leads_on.Goals as goal
use Rattle.bus_spec.specs.Cluster.{Cluster, after_rows, cluster, world_of}
use Rattle.bus_spec.specs.Lawful.{DoNoHarm}

pub returns : goal.returns
returns c =
    let below = c.what_calms_stand_on.ensures in
    let laws = calm_laws below in
    λ ids rows members harmless group clocks pace start n term first front rest listed running in_n led calm harm quiet.
    let w : Cluster = world_of ids rows in
    let there : Cluster = after_rows w (rows_in first) in
    let nodes = λ (p : ℕ) (i : In (Member p) group). members.nodes p (listed p i) in
    let behind : IsCalmOn group clocks pace there (front ++ rest) = calm_on group laws nodes clocks pace first (front ++ rest) w (record {
      traffic = no_traffic start;
      calm = calm;
      are = well below ids members rows harmless group listed running;
      flies = λ party. refl;
    }) in
    let both : DoNoHarm w (rows_in first ++ rows_in front) = subst (DoNoHarm w) (rows_both first front) harm in
    is_led group n term (after_rows there (rows_in front)) in_n
    (play_on group n term laws below.codec below.one_transfer nodes clocks pace
    ids members listed (of_run below ids members) (below.same (cluster ids)) (below.grows (cluster ids)) (below.no_harm (cluster ids))
    front rest (rows ++ rows_in first) there behind.traffic (after_both (cluster ids) rows (rows_in first))
    (harmless_both (cluster ids) rows (rows_in first) harmless (first_harmless w (rows_in first) (rows_in front) both))
    behind.calm (harmless_rest w (rows_in first) (rows_in front) both) quiet behind.are behind.flies
    (all_play group n term there led (all_run group there behind.are)))
