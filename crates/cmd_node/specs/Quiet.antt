-- Which counts of faults stay: all but the one of the link or the disk that failed.
use Rattle.std.specs.Prelude.{◌≡◌, ℕ, ◌<◌, ◌≤◌, List, length, Option, Some, None, Result, Err}
use Rattle.std.specs.Prelude.{slice_index, slice_index_or, ⊤}
use Rattle.disk_model.specs.declared.disk.Disk.{Ghosts}
use Rattle.cmd_node.specs.Stands.{runner_disk}
use Rattle.cmd_node.specs.declared.fault.Fault.{Fault}
use Rattle.cmd_node.specs.declared.fault.Fault.TheVariants.{Link, Disk}
use Rattle.cmd_node.specs.declared.runner.Runner.{Runner}

module _ {D F : Type 0} {disk : Ghosts D} where
  module _ {L : Type 0} (faults : L → ℕ) where
    -- in turns of these that ended so
    pub record StayQuiet (old new : List (Runner D F disk)) (links_old links_new : List L)
        (result : Result ⊤ Fault) : Type 0 where
      pub links : (i : ℕ) (runner : Runner D F disk) (before after : L) → i < length old →
          (result ≡ Err (Link (slice_index_or old i runner).id) → ⊥) →
          faults (slice_index_or links_new i after) ≡ faults (slice_index_or links_old i before)
      pub disks : (i : ℕ) (before after : Runner D F disk) → i < length old →
          (result ≡ Err (Disk (slice_index_or old i before).id) → ⊥) →
          disk.faults (runner_disk (slice_index_or new i after))
          ≡ disk.faults (runner_disk (slice_index_or old i before))

    -- in a run that ended so, whose allocators are not stopped yet
    pub record RunQuietly (ids : List ℕ) (disks_old disks_new : List (Option D)) (links_old links_new : List L)
        (runners : List (Runner D F disk)) (result : Result ⊤ Fault) : Type 0 where
      pub links : (i : ℕ) (before after : L) → i < length ids →
          (result ≡ Err (Link (slice_index ids i)) → ⊥) →
          faults (slice_index_or links_new i after) ≡ faults (slice_index_or links_old i before)
      pub running : (i : ℕ) (before : D) (runner : Runner D F disk) → i < length runners →
          (result ≡ Err (Disk (slice_index ids i)) → ⊥) → slice_index_or disks_old i None ≡ Some before →
          disk.faults (runner_disk (slice_index_or runners i runner)) ≡ disk.faults before
      pub others : (i : ℕ) (before after : D) → length runners ≤ i → i < length ids →
          (result ≡ Err (Disk (slice_index ids i)) → ⊥) → slice_index_or disks_old i None ≡ Some before →
          slice_index_or disks_new i None ≡ Some after → disk.faults after ≡ disk.faults before
