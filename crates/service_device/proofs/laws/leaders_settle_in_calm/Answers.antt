use Rattle.std.proofs.Common.{ℕ, ◌+◌, List, ◌++◌}
use Rattle.bus_rows.specs.declared.row.Row.{Row}
use Rattle.bus_rows.specs.Timed.{rows_in}
use Rattle.service_alone.specs.Calm.{end_of}
use Rattle.service_calm.specs.Calm.{Member}
use Rattle.service_device.specs.Settles.{LeadersSettle, settle_within}
use Rattle.service_device.proofs.ServiceFronts.{fitting_behind}
use Rattle.service_device.proofs.SettlesLaw.{leader_settles_in_time, settles_unasked}
use Rattle.service_device.proofs.laws.leaders_settle_in_calm.Goals as goal
use Rattle.alloc_spec.specs.ClusterMembers.{AreMembers}
use Rattle.bus_spec.specs.Cluster.{after_rows, cluster, world_of}
use Rattle.bus_spec.specs.Lawful.{DoNoHarm}

pub returns : goal.returns
returns c =
    let below = c.what_service_stands_on.ensures in
    let settle : (ids : List ℕ) (rows : List Row) → AreMembers ids → DoNoHarm (cluster ids) rows → LeadersSettle ids rows
    = λ ids rows members harmless group clocks pace start n term log more uncommitted one next first later is.
    let under = is.under in
    leader_settles_in_time below ids members rows harmless (c.a_leaders_log_stays.ensures.row ids rows members harmless) c.a_leaders_log_stays.ensures.settles
    group clocks pace start n term log more uncommitted one next first later under
    (fitting_behind below ids members rows harmless (first ++ later) under.harmless n (under.listed n under.member))
    is.new is.few is.fits is.room is.short is.catch_up is.long in
    record {
      settle = settle;
      unasked = λ ids rows members harmless group clocks pace start n term log more uncommitted one next first later is none.
          settles_unasked n term log (clocks (Member n)) (end_of start first) (end_of start first + settle_within pace more uncommitted)
          (after_rows (world_of ids rows) (rows_in first)) later none
          (settle ids rows members harmless group clocks pace start n term log more uncommitted one next first later is);
    }
