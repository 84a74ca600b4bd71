-- A run up to the stop of its allocators.
use Rattle.std.specs.Prelude.{◌≡◌, ℕ, ◌<◌, ◌≤◌, List, length, Option, Some, None, Result}
use Rattle.std.specs.Prelude.{IfErr, IsSome, slice_index_or, true, ⊤}
use Rattle.disk_model.specs.declared.disk.Disk.{Ghosts}
use Rattle.raft_model.specs.Lists.{In}
use Rattle.cmd_node.specs.Stands.{runner_disk}
use Rattle.cmd_node.specs.Status.{HasRisen, IsDamagedDisk, IsWhole, OfDisk, OfLink}
use Rattle.cmd_node.specs.declared.fault.Fault.{Fault}
use Rattle.cmd_node.specs.declared.fault.Fault.TheVariants.{Link, Disk, Damaged, AnotherLog}
use Rattle.cmd_node.specs.declared.runner.Runner.{Runner}

module _ {D F : Type 0} {disk : Ghosts D} where
  -- these allocators were stopped, and each disk is at its place; the others stay
  pub record AreStopped (runners : List (Runner D F disk)) (old new : List (Option D)) : Type 0 where
    pub stopped : (i : ℕ) (runner : Runner D F disk) → i < length runners →
        slice_index_or new i None ≡ Some (runner_disk (slice_index_or runners i runner))
    pub others : (i : ℕ) → length runners ≤ i → slice_index_or new i None ≡ slice_index_or old i None
    pub places : length new ≡ length old

  -- their disks tell what they hold
  abbrev pub AreTelling : List (Runner D F disk) → Type 0
  AreTelling runners = (i : ℕ) (runner : Runner D F disk) → i < length runners
      → disk.tells (runner_disk (slice_index_or runners i runner)) ≡ true

  -- why a run ended before its last turn: a link failed, or a call of another log came, once all were opened; of the
  -- disks this is said when the allocators are stopped
  abbrev pub EndsRun : {L : Type 0} → (L → ℕ) → List ℕ → List (Option D) → List (Option D) → List L →
      List L → List (Runner D F disk) → Fault → Type 0
  EndsRun faults ids disks_old disks_new links_old links_new runners (Link id) =
      HasRisen (OfLink faults links_old links_new) ids id × (length runners ≡ length ids)
  EndsRun faults ids disks_old disks_new links_old links_new runners (Disk id) =
      (last : List (Option D)) → AreStopped runners disks_new last →
      HasRisen (OfDisk disk.faults disks_old last) ids id
  EndsRun faults ids disks_old disks_new links_old links_new runners (Damaged id key) =
      IsDamagedDisk disk ids disks_old id key × (length runners < length ids)
  EndsRun faults ids disks_old disks_new links_old links_new runners (AnotherLog id node) =
      In id ids × (length runners ≡ length ids)

  -- some were opened, on the disks at their places, which stood for a state, and the other disks are there
  pub record HasRun {L : Type 0} (faults : L → ℕ) (ids : List ℕ)
      (disks_old disks_new : List (Option D)) (links_old links_new : List L)
      (runners : List (Runner D F disk)) (result : Result ⊤ Fault) : Type 0 where
    pub count : length runners ≤ length ids
    pub places : length disks_new ≡ length disks_old
    pub behind : (i : ℕ) → length runners ≤ i → i < length ids → IsSome (slice_index_or disks_new i None)
    pub whole : (i : ℕ) (before : D) → i < length runners → slice_index_or disks_old i None ≡ Some before →
        IsWhole disk before
    pub failed : IfErr result (EndsRun faults ids disks_old disks_new links_old links_new runners)
