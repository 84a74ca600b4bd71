use Rattle.std.proofs.Common.{◌≡◌, ◌≤◌, ◌*◌, ◌-◌, length}
use Rattle.cmd_node.specs.Another.{NoneCallsFor}
use Rattle.cmd_node.specs.Runners.{accepts, runners_of}
use Rattle.std.specs.Prelude.{Ok}
use Rattle.cmd_node.specs.Quiet.{StayQuiet}
use Rattle.cmd_node.specs.Stands.{AreStanding, Stand}
use Rattle.cmd_node.specs.Steps.{steps_made}
use Rattle.cmd_node.specs.Taking.{AreWorking, KeepsLinks, KeepsNodes}
use Rattle.cmd_node.specs.Turns.{Together, all_turns}
use Rattle.cmd_node.proofs.runners.Runners.take_turns.Given as goal

-- each has taken as many turns
abbrev pub invariant-turns : goal.invariant-turns
invariant-turns g l =
    let coming = g.L.Link.coming in
    let sent = g.L.Link.sent in
    let readings = g.C.Clock.readings in
    let before = runners_of l.fn.self in
    let now = runners_of l.self in
    record {
      some : l.taken ≤ l.turns;
      accepts : accepts l.self ≡ accepts l.fn.self;
      nodes : KeepsNodes before now;
      links : KeepsLinks g.L.Link.faults l.fn.links l.links;
      working : AreWorking now;
      standing : AreStanding before → AreStanding now;
      quiet : AreStanding before → StayQuiet g.L.Link.faults before now l.fn.links l.links (Ok tt);
      few : steps_made l.steps ≤ 10 * l.taken;
      turned : (all : Together) → Stand coming sent before l.fn.links (readings l.fn.clock) l.fn.steps all →
          Stand coming sent now l.links (readings l.clock) l.steps (all_turns (length before) l.taken all);
      uncalled : (all : Together) → Stand coming sent before l.fn.links (readings l.fn.clock) l.fn.steps all → NoneCallsFor (length before) l.taken all;
    }

abbrev pub decreases-turns : goal.decreases-turns
decreases-turns g l = l.turns - l.taken
