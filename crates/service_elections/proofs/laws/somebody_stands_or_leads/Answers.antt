use Rattle.std.proofs.Common.{◌++◌}
use Rattle.service_leader.proofs.Stretches.{harmless_both}
use Rattle.service_elections.proofs.RoundsGrounds.{its_me, step_laws}
use Rattle.service_elections.proofs.SomebodyLeads.{somebody_stands_or_leads}
use Rattle.service_elections.proofs.laws.somebody_stands_or_leads.Goals as goal
use Rattle.bus_spec.specs.Cluster.{cluster}

pub returns : goal.returns
returns c = let below = c.what_rounds_stand_on.ensures in λ ids rows members harmless.
    somebody_stands_or_leads ids rows (step_laws below) (its_me below ids members rows harmless) (record {
      asks_stands = c.who_asks_stands.ensures ids rows members harmless;
      wins_asked = c.who_wins_has_asked.ensures ids rows members harmless;
      nothing = c.nothing_changes_in_silence.ensures ids rows members harmless;
      step_down = c.leaders_below_step_down.ensures ids rows members harmless;
      lead_at_top = c.who_leads_at_the_top.ensures ids rows members harmless;
      calls_ask = below.ask;
      waits = λ more fine. below.in_time ids (rows ++ more) members (harmless_both (cluster ids) rows more harmless fine);
    })
