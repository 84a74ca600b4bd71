use Rattle.cmd_soak.specs.Rounds.{Soak, for_each, has_round}
use Rattle.cmd_soak.specs.Soaking.{Keeps, StandsFor}
use Rattle.cmd_soak.proofs.soaking.Soaking.rounds.Given as goal

abbrev pub invariant-loop-done : goal.invariant-loop-done
invariant-loop-done g l = record {
  stands : (s : Soak) → StandsFor l.fn.self s → StandsFor l.self (for_each (has_round l.size) 1 l.done s);
  keeps : Keeps l.fn.self l.self;
}
