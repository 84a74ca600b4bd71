use Rattle.std.proofs.Common.{List, ◌++◌, subst}
use Rattle.bus_rows.specs.declared.row.Row.{Row}
use Rattle.bus_agreement.proofs.Concatenations.{first_harmless}
use Rattle.bus_rows.specs.Timed.{rows_in}
use Rattle.service_leader.proofs.NextCall.{CallLaws}
use Rattle.service_leader.proofs.NoElectionBegins.{no_election_behind}
use Rattle.service_calm.proofs.Grounds.{is_server}
use Rattle.service_leader.proofs.Stretches.{harmless_both, rows_both}
use Rattle.service_leader.proofs.laws.no_election_comes_in_calm.Goals as goal
use Rattle.bus_spec.specs.Cluster.{Cluster, cluster, world_of}
use Rattle.bus_spec.specs.Lawful.{DoNoHarm}

pub returns : goal.returns
returns c = λ ids rows members harmless group clocks pace start n term first later listed running in_n is_led short clocks_go will calm no_harm fits.
    let below = c.what_calms_stand_on.ensures in
    let w : Cluster = world_of ids rows in
    let laws : (list : List Row) → DoNoHarm (cluster ids) list → CallLaws ids list = λ list fine. record {
      me = below.in_step.me;
      stay = c.who_is_listed_stays.ensures;
      call = c.leaders_call_in_time.ensures;
      read = λ more still. c.calls_read_as_said.ensures ids (list ++ more) members (harmless_both (cluster ids) list more fine still);
      follow = c.followers_follow_on_in_calm.ensures;
    } in
    no_election_behind ids rows (laws rows harmless) (c.calls_are_heard.ensures ids rows members harmless)
    (c.who_leads_leads_on.ensures ids rows members harmless) group clocks pace start listed running
    (λ p i server up. (is_server below ids members rows harmless p server (listed p i) up).me)
    clocks_go n term in_n first later is_led short will calm no_harm fits
    (laws (rows ++ rows_in first) (harmless_both (cluster ids) rows (rows_in first) harmless
    (first_harmless w (rows_in first) (rows_in later) (subst (DoNoHarm w) (rows_both first later) no_harm))))
    c.steps_are_in_time.ensures.follows c.followers_follow_on.ensures.frames
