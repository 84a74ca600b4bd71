-- Where a calm is led: the scene, and a front behind which the leader has called all others.
use Rattle.std.proofs.Common.{ℕ, ◌+◌, ◌*◌, ◌<◌, arith, List, ◌∙◌, ap, length}
use Rattle.bus_rows.specs.declared.row.Row.{Row}
use Rattle.bus_rows.specs.Timed.{Timed}
use Rattle.service_alone.specs.Calm.{Pace, end_of}
use Rattle.service_calm.specs.Calm.{Party}
use Rattle.service_leader.specs.NoElection.{heard_within}
use Rattle.service_leader.proofs.Stretches.{end_both}
use Rattle.service_cluster.specs.ComeBack.{IsCalmOfFit}
use Rattle.service_cluster.proofs.BackFronts.{FirstLater, first_later}
use Rattle.service_cluster.proofs.BackGiven.{BackGiven, Scene, there}
use Rattle.service_cluster.proofs.BackSettles.{goes_from}
use Rattle.service_elections.specs.Rounds.{led_within}
use Rattle.service_elections.specs.Running.{IsLedBy}
use Rattle.bus_spec.specs.Cluster.{world_of}

-- where a member leads and no election comes any more
abbrev pub scene : (ids : List ℕ) (rows : List Row) → BackGiven ids rows → (group : List Party) (clocks : Party → ℕ) (pace : Pace) (start : ℕ)
    (whole : List Timed) (longest : ℕ) → IsCalmOfFit ids rows group clocks pace start longest whole
    → IsLedBy group clocks pace start (start + led_within pace (length ids)) (world_of ids rows) whole → Scene
scene ids rows given group clocks pace start whole longest calm led = record {
  ids = ids;
  rows = rows;
  given = given;
  group = group;
  clocks = clocks;
  pace = pace;
  start = start;
  whole = whole;
  longest = longest;
  calm = calm;
  n = led.n;
  term = led.term;
  member = led.member;
  front = led.front;
  rest = led.rest;
  split = led.split;
  led = led.calm;
}

-- the first front that is later than a call that is heard, and its answer
pub has_called : (g : Scene) → end_of g.start g.front + heard_within g.pace + 2 * g.pace.delay < end_of g.start g.whole
    → FirstLater g.pace.period (end_of g.start g.front) (end_of g.start g.front + heard_within g.pace + 2 * g.pace.delay) g.rest
has_called g long =
    let e = ap (end_of g.start) g.split ∙ end_both g.start g.front g.rest in
    first_later g.group g.clocks g.pace g.n g.member (end_of g.start g.front + heard_within g.pace + 2 * g.pace.delay) g.rest (end_of g.start g.front)
    (there g g.front) (goes_from g g.front g.rest g.split) (omega arith) (omega (arith, e, long))
