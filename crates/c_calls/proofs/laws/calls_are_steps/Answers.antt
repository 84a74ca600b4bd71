use Rattle.std.specs.Prelude.{◌∷◌}
use Rattle.c_calls.specs.Runs.{Learns}
use Rattle.c_calls.proofs.Running.{all_calls, from_opening}
use Rattle.c_calls.proofs.laws.calls_are_steps.Goals as goal

pub returns : goal.returns
returns c = record {
  steps = all_calls;
  opened = from_opening;
  told = λ calls at closed now a b later list count. from_opening (Learns later list count ∷ calls) at closed now a b;
}
