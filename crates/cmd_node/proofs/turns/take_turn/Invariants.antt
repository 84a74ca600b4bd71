use Rattle.std.proofs.Common.{◌≤◌, ◌+◌, ◌*◌}
use Rattle.std.specs.Prelude.{Ok}
use Rattle.cmd_node.specs.Another.{NoneCalls}
use Rattle.cmd_node.specs.Quiet.{StayQuiet}
use Rattle.cmd_node.specs.Stands.{AreStanding, Stand}
use Rattle.cmd_node.specs.Steps.{steps_made}
use Rattle.cmd_node.specs.Taking.{AreWorking, KeepsLinks, KeepsNodes}
use Rattle.cmd_node.specs.Turns.{Together, first_turns}
use Rattle.cmd_node.proofs.turns.take_turn.Given as goal

-- those at the places so far have taken their turn
abbrev pub invariant-loop-place : goal.invariant-loop-place
invariant-loop-place g l =
    let coming = g.L.Link.coming in
    let sent = g.L.Link.sent in
    let readings = g.C.Clock.readings in
    record {
      nodes : KeepsNodes l.fn.runners l.runners;
      links : KeepsLinks g.L.Link.faults l.fn.links l.links;
      working : AreWorking l.runners;
      standing : AreStanding l.fn.runners → AreStanding l.runners;
      quiet : AreStanding l.fn.runners → StayQuiet g.L.Link.faults l.fn.runners l.runners l.fn.links l.links (Ok tt);
      few : steps_made l.steps ≤ steps_made l.fn.steps + 2 * l.place;
      turned : (all : Together) → Stand coming sent l.fn.runners l.fn.links (readings l.fn.clock) l.fn.steps all →
          Stand coming sent l.runners l.links (readings l.clock) l.steps (first_turns l.place all);
      uncalled : (all : Together) → Stand coming sent l.fn.runners l.fn.links (readings l.fn.clock) l.fn.steps all → NoneCalls l.place all;
    }
