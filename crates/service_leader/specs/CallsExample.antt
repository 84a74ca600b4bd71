-- Rows that meet the premises of a call that comes back: those of `CalmExample`, and behind them member 2 sends its
-- answer to the append request, and member 1 takes it.
use Rattle.std.specs.Prelude.{◌≡◌, ◌+◌, ◌*◌, ◌<◌, List, [], ◌∷◌, ◌++◌}
use Rattle.can_frame.specs.declared.step.What.TheVariants.{App, AppQ}
use Rattle.can_frame.specs.Timing.{call_timeout}
use Rattle.bus_rows.specs.declared.row.Row.TheVariants.{ARx, ATick, Rx, Send, Tick}
use Rattle.alloc_spec.specs.Transfers.{id_of}
use Rattle.bus_rows.specs.Timed.{Timed, rows_in}
use Rattle.service_alone.specs.Calm.{end_of}
use Rattle.service_calm.specs.Calls.{Calls, Lists}
use Rattle.service_leader.specs.CallsComeBack.{HasPlace, LeadsOn}
use Rattle.service_calm.specs.Calm.{AreCalm, no_traffic}
use Rattle.service_calm.specs.CalmExample.{append_offer, append_rows, append_said, calm_rows, clocks, group}
use Rattle.service_calm.specs.CalmExample.{leading_row, leading_world, pace, receiver, sender, sending_row, start}
use Rattle.service_calm.specs.CalmExample.{then_world, vote_rows}
use Rattle.service_calm.specs.Comes.{AreReady, HasMemory, MayComeFirst, Throughout}
use Rattle.bus_spec.specs.Lawful.{DoNoHarm}

-- Member 2 sends its answer, and its NodeStatus, which is due: a frame each. They go out, and come to member 1 and to
-- the device; then both read their clocks.
abbrev pub answer_rows : List Timed
answer_rows = record { at = 2037; row = Send 2 }
    ∷ record { at = 2037; row = Send 2 }
    ∷ record { at = 2047; row = Rx 1 7 2147 }
    ∷ record { at = 2047; row = Rx 1 8 2147 }
    ∷ record { at = 2047; row = ARx 1 7 2087 0 }
    ∷ record { at = 2047; row = ARx 1 8 2087 0 }
    ∷ record { at = 2049; row = ATick 1 2089 0 }
    ∷ record { at = 2056; row = Tick 1 2156 0 }
    ∷ []

abbrev pub long_rows : List Timed
long_rows = calm_rows ++ answer_rows

-- they meet each premise of a call that comes back
pub record MayComeBack : Type 0 where
  pub split : long_rows ≡ (sending_row ∷ vote_rows) ++ leading_row ∷ (append_rows ++ answer_rows)
  pub quick : 4 * pace.delay < call_timeout
  pub lists_receiver : Lists sender receiver then_world
  pub lists_sender : Lists receiver sender then_world
  pub calls : AreReady sender receiver AppQ receiver then_world
  pub first : MayComeFirst sender AppQ receiver calls.receiver (id_of calls.sender.ids AppQ receiver)
  pub answers : AreReady receiver sender App sender then_world
  pub first_answer : MayComeFirst receiver App sender answers.receiver (id_of calls.sender.ids AppQ receiver)
  pub calm : AreCalm group clocks pace (no_traffic start) then_world long_rows
  pub harmless : DoNoHarm then_world (rows_in long_rows)
  pub memory_sender : Throughout (HasMemory sender) then_world long_rows
  pub memory_receiver : Throughout (HasMemory receiver) then_world long_rows
  pub places : Throughout (HasPlace receiver) then_world long_rows
  -- in term 1
  pub leads : LeadsOn sender 1 then_world long_rows
  pub call : Calls sender receiver leading_world leading_row.row append_offer append_said
  pub long : leading_row.at + 4 * pace.delay < end_of leading_row.at (append_rows ++ answer_rows)
