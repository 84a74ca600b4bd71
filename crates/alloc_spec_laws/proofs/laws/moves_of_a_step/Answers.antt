use Rattle.alloc_spec_laws.proofs.StepMoves.{keeps, of_the_machine, opening_keeps, popped_keeps}
use Rattle.alloc_spec_laws.proofs.laws.moves_of_a_step.Goals as goal

pub returns : goal.returns
returns c = record {
  moves = of_the_machine c.laws_below.ensures;
  keeps = keeps c.laws_below.ensures;
  opening = opening_keeps c.laws_below.ensures;
  popped = popped_keeps;
}
