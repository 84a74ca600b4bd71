use Rattle.cmd_soak.specs.Rounds.{Soak, for_each, has_turn}
use Rattle.cmd_soak.specs.Soaking.{Keeps, StandsFor}
use Rattle.cmd_soak.proofs.soaking.Soaking.each.Given as goal

-- so many members had their turn
abbrev pub invariant-loop-place : goal.invariant-loop-place
invariant-loop-place g l = record {
  stands : (s : Soak) → StandsFor l.fn.self s → StandsFor l.self (for_each (has_turn l.turn) 1 l.place s);
  keeps : Keeps l.fn.self l.self;
}
