use Rattle.std.proofs.Common.{◌≡◌, ◌<◌, ◌≤◌, ℕ, true, false, get_or, length, slice_index_or}
use Rattle.disk_model.specs.Restart.{run_start, repeated}
use Rattle.disk_model.proofs.ranges.repeat_over.Given as goal

abbrev pub invariant-loop-i : goal.invariant-loop-i
invariant-loop-i l = record {
  start : l.start ≡ run_start (λ k. slice_index_or l.marks k false) l.i;
  behind : l.start ≤ l.i;
  marked : (i : ℕ) → i < l.i → slice_index_or l.marks i false ≡ true → get_or l.image i 0 ≡ repeated l.pattern (run_start (λ k. slice_index_or l.marks k false) i) i;
  others : (i : ℕ) → slice_index_or l.marks i false ≡ false → get_or l.image i 0 ≡ get_or l.fn.image i 0;
  rest : (i : ℕ) → l.i ≤ i → get_or l.image i 0 ≡ get_or l.fn.image i 0;
  size : length l.image ≡ length l.fn.image;
}
