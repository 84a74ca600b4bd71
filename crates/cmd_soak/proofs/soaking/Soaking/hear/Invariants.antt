use Rattle.std.proofs.Common.{◌+◌}
use Rattle.cmd_soak.specs.Rounds.{Soak, for_each, hears}
use Rattle.cmd_soak.specs.Soaking.{Keeps, StandsFor}
use Rattle.cmd_soak.proofs.soaking.Soaking.hear.Given as goal

-- it heard so many of the frames that came
abbrev pub invariant-loop-more : goal.invariant-loop-more
invariant-loop-more g l = record {
  stands : (s : Soak) → StandsFor l.fn.self s → StandsFor l.self (for_each (hears l.n) (s.heard + 1) l.more s);
  keeps : Keeps l.fn.self l.self;
}
