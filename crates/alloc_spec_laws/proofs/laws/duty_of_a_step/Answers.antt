use Rattle.alloc_spec_laws.proofs.Commits.{step_commits}
use Rattle.alloc_spec_laws.proofs.StepDuties.{phases, stands, tells_duly}
use Rattle.alloc_spec_laws.proofs.Wins.{step_wins}
use Rattle.alloc_spec_laws.proofs.laws.duty_of_a_step.Goals as goal

pub returns : goal.returns
returns c = record {
  phases = phases;
  commit = step_commits c.laws_below.ensures;
  tell = tells_duly c.laws_below.ensures;
  tick = stands c.laws_below.ensures;
  win = step_wins c.laws_below.ensures;
}
