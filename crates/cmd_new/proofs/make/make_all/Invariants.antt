use Rattle.std.proofs.Common.{◌≡◌, ◌≤◌, ◌<◌, ℕ, length}
use Rattle.std.specs.Prelude.{None, slice_index_or}
use Rattle.cmd_new.specs.Made.{IsMadeAt}
use Rattle.cmd_new.proofs.make.make_all.Given as goal

-- new stores were made of the disks so far
abbrev pub invariant-loop-place : goal.invariant-loop-place
invariant-loop-place g l = record {
  count : length l.disks ≡ length l.fn.disks;
  made : (k : ℕ) → k < l.place → IsMadeAt g.D.Disk l.term l.ids l.fn.disks l.disks k;
  behind : (k : ℕ) → l.place ≤ k → slice_index_or l.disks k None ≡ slice_index_or l.fn.disks k None;
}
