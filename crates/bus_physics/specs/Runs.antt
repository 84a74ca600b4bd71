-- A run of `node` in a trace whose rows happen at times on a physical bus.
use Rattle.std.specs.Prelude.{◌≡◌, ◌⊎◌, ℕ, List, ◌++◌}
use Rattle.alloc_spec.specs.Rules.{Rules}
use Rattle.alloc_spec.specs.ClusterMembers.{AreMembers}
use Rattle.bus_spec.specs.Cluster.{cluster}
use Rattle.bus_spec.specs.Lawful.{AreLawful}
use Rattle.cmd_node.specs.Opening.{RunInput}
use Rattle.cmd_node_laws.specs.Processes.{Point}
use Rattle.cmd_node_laws.specs.Stands.{IsRunIn}
use Rattle.cmd_node_laws.specs.Traces.{Event, MayAllHappen, all_rows}
use Rattle.bus_rows.specs.Timed.{Timed, rows_in}
use Rattle.bus_physics.specs.Physics.{HoldsAreShort, Limits}
use Rattle.bus_physics.specs.Processes.{MayAllDo, after_events}
use Rattle.bus_physics.specs.Schedule.{HappenOnBus, LosesFrames}

-- From some event of the trace on its rows happen at these times on such a bus; up to it they had these times, and
-- nothing was torn or stale, whatever the bus did. All that `IsRunIn` asks holds, but that nothing which is taken from
-- the bus is torn or stale from then on: of that it is asked alone that it was sent.
pub record IsRunOnBus (limits : Limits) (earlier timed : List Timed) (ids : List ℕ) (before during : List Event)
    (rules : Rules) (mine : List ℕ) (given : RunInput) (to : Point) : Type 0 where
  pub members : AreMembers ids
  pub short : HoldsAreShort limits
  pub past : List Event
  pub rest : List Event
  pub split : before ++ during ≡ past ++ rest
  pub was : MayAllHappen past (cluster ids)
  pub lawful : AreLawful (cluster ids) (rows_in earlier)
  pub times_before : rows_in earlier ≡ all_rows past (cluster ids)
  pub times : rows_in timed ≡ all_rows rest (after_events ids past)
  pub happens : HappenOnBus limits ids earlier timed
  pub may : MayAllDo rest (after_events ids past)
  pub stands : MayAllHappen (before ++ during) (cluster ids) → IsRunIn ids before during rules mine given to

-- such a run stands in the trace, or a row of it is torn, since a transfer lost frames
abbrev pub StandOnBus : Rules → List ℕ → Type 0
StandOnBus rules mine = (limits : Limits) (earlier timed : List Timed) (ids : List ℕ) (before during : List Event)
    (given : RunInput) (to : Point) → IsRunOnBus limits earlier timed ids before during rules mine given to →
    IsRunIn ids before during rules mine given to ⊎ LosesFrames ids (earlier ++ timed)
