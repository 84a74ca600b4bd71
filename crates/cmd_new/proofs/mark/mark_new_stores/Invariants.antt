use Rattle.std.proofs.Common.{◌≡◌, ◌≤◌, ◌<◌, ℕ, length}
use Rattle.std.specs.Prelude.{None, slice_index_or}
use Rattle.cmd_new.specs.Marked.{IsKnownAt}
use Rattle.cmd_new.proofs.mark.mark_new_stores.Given as goal

-- the stores so far are known
abbrev pub invariant-loop-place : goal.invariant-loop-place
invariant-loop-place g l = record {
  count : length l.disks ≡ length l.fn.disks;
  known : (k : ℕ) → k < l.place → IsKnownAt g.D.Disk l.fn.disks l.disks k;
  behind : (k : ℕ) → l.place ≤ k → slice_index_or l.disks k None ≡ slice_index_or l.fn.disks k None;
}
