-- Rows that meet the premises of entries that come in time: those of `CallsExample`, in which member 1 comes to lead,
-- and behind them the members and the device read their clocks.
use Rattle.std.specs.Prelude.{◌≡◌, ◌+◌, ◌<◌, ◌≤◌, List, [], ◌∷◌, ◌++◌}
use Rattle.bus_rows.specs.declared.row.Row.TheVariants.{ATick, Tick}
use Rattle.alloc_spec.specs.AllocatorState.{AllocatorState}
use Rattle.bus_rows.specs.Timed.{Timed, rows_in}
use Rattle.service_alone.specs.Calm.{end_of}
use Rattle.service_leader.specs.CallsExample.{answer_rows}
use Rattle.service_calm.specs.Calm.{AreCalm, AreRunning, no_traffic}
use Rattle.service_calm.specs.CalmExample.{append_rows, clocks, first_rows, group, leading_row, pace, receiver, sender}
use Rattle.service_calm.specs.CalmExample.{sending_row, start, then_world, two, vote_rows}
use Rattle.service_leader.specs.CallsComeBack.{LeadsNotIfUp, LeadsOn}
use Rattle.service_leader.specs.Entries.{CanExchange, KeepsCalling, calls_left, come_within}
use Rattle.service_leader.specs.LeadsOn.{IsLedThroughout}
use Rattle.service_leader.specs.NoElection.{CallsFit}
use Rattle.bus_spec.specs.Cluster.{Cluster, after_rows, cluster}
use Rattle.bus_spec.specs.Lawful.{DoNoHarm}
use Rattle.bus_spec.specs.Members.MemberStatus.{Up}

-- until member 1 has the vote of member 2, and leads
abbrev pub won_rows : List Timed
won_rows = (sending_row ∷ vote_rows) ++ leading_row ∷ []

abbrev pub won_world : Cluster
won_world = after_rows then_world (rows_in won_rows)

-- who is there reads its clock, twice
abbrev pub clock_rows : List Timed
clock_rows = record { at = 2090; row = Tick 1 2190 0 }
    ∷ record { at = 2090; row = Tick 2 2290 0 }
    ∷ record { at = 2090; row = ATick 1 2130 0 }
    ∷ record { at = 2140; row = Tick 1 2240 0 }
    ∷ record { at = 2140; row = Tick 2 2340 0 }
    ∷ record { at = 2140; row = ATick 1 2180 0 }
    ∷ []

-- its first call is answered, and the rows go on
abbrev pub led_rows : List Timed
led_rows = append_rows ++ (answer_rows ++ clock_rows)

-- They meet each premise: member 1 does not lead when the calm begins, and leads behind the first rows. The log has no
-- entry, so no call is left.
pub record EntriesMayCome : Type 0 where
  pub before : DoNoHarm (cluster two) first_rows
  pub running : AreRunning group then_world
  pub leads_not : LeadsNotIfUp sender then_world
  pub calm : AreCalm group clocks pace (no_traffic start) then_world (won_rows ++ led_rows)
  pub harmless : DoNoHarm then_world (rows_in (won_rows ++ led_rows))
  pub leads_on : LeadsOn sender 1 then_world (won_rows ++ led_rows)
  pub led : IsLedThroughout group sender 1 won_world led_rows
  pub fit : CallsFit sender then_world (won_rows ++ led_rows)
  pub can : CanExchange sender receiver then_world (won_rows ++ led_rows)
  pub calling : KeepsCalling sender receiver pace.delay then_world won_rows led_rows
  pub leader : AllocatorState
  pub leads : (won_world.member sender).status ≡ Up leader
  pub few : calls_left leader receiver ≤ 0
  pub long : end_of start won_rows + come_within pace 0 < end_of start (won_rows ++ led_rows)
