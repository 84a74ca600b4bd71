use Rattle.std.proofs.Common.{◌≤◌}
use Rattle.cmd_soak.specs.Rounds.{Soak}
use Rattle.cmd_soak.specs.Soaking.{Keeps, StandsFor}
use Rattle.cmd_soak.proofs.Standing.{IsSending}
use Rattle.cmd_soak.proofs.soaking.Soaking.send.Given as goal

abbrev pub invariant-loop-left : goal.invariant-loop-left
invariant-loop-left g l = record {
  sending : (s : Soak) → StandsFor l.fn.self s → IsSending l.n l.left s l.self;
  few : l.left ≤ 8;
  keeps : Keeps l.fn.self l.self;
}

abbrev pub decreases-loop-left : goal.decreases-loop-left
decreases-loop-left g l = l.left
