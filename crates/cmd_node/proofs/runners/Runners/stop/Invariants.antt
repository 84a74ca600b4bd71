use Rattle.std.proofs.Common.{◌≡◌, ◌<◌, ◌≤◌, ℕ, length, take}
use Rattle.std.specs.Prelude.{Some, None, slice_index_or}
use Rattle.cmd_node.specs.Runners.{runners_of}
use Rattle.cmd_node.specs.Stands.{runner_disk}
use Rattle.cmd_node.specs.declared.runner.Runner.{Runner}
use Rattle.cmd_node.proofs.runners.Runners.stop.Given as goal

-- those behind the ones that are left were stopped, and their disks are back
abbrev pub invariant-stopping : goal.invariant-stopping
invariant-stopping g l = let all = runners_of l.fn.self in record {
  left : l.list.items ≡ take (length l.list.items) all;
  fewer : length l.list.items ≤ length all;
  places : length l.disks ≡ length l.fn.disks;
  stopped : (i : ℕ) (runner : Runner g.row.D.Denot g.row.F.Denot g.D.Disk) → length l.list.items ≤ i → i < length all →
      slice_index_or l.disks i None ≡ Some (runner_disk (slice_index_or all i runner));
  others : (i : ℕ) → length all ≤ i → slice_index_or l.disks i None ≡ slice_index_or l.fn.disks i None;
}

abbrev pub decreases-stopping : goal.decreases-stopping
decreases-stopping g l = length l.list.items
