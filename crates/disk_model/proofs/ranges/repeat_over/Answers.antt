use Rattle.std.proofs.Common.{false, slice_index_or, refl, sym, arith}
use Rattle.disk_model.proofs.Runs.{run_after_none}
use Rattle.disk_model.proofs.ranges.repeat_over.Goals as goal

pub loop-i-init : goal.loop-i-init
loop-i-init c = record {
  start = sym (run_after_none (λ k. slice_index_or c.args.marks.now k false) c.args.low c.requires.below);
  behind = omega arith;
  marked = λ i h marked. let unmarked = c.requires.below i h in absurd (cc (marked, unmarked));
  others = λ i h. refl;
  rest = λ i h. refl;
  size = refl;
}
