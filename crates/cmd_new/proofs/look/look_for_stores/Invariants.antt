use Rattle.std.proofs.Common.{◌≡◌, ◌≤◌, ◌<◌, ℕ}
use Rattle.std.specs.Prelude.{None, true, false, slice_index_or}
use Rattle.cmd_new.specs.Looks.{AreKept, HasStoreAt, IsFoundAt}
use Rattle.cmd_new.specs.declared.found.Found.TheVariants.{NewStore, UsedStore}
use Rattle.cmd_new.proofs.look.look_for_stores.Given as goal

abbrev pub invariant-loop-place : goal.invariant-loop-place
invariant-loop-place g l = record {
  stores : (k : ℕ) → k < l.place → HasStoreAt g.D.Disk l.fn.disks k;
  all_new : l.used ≡ false → (k : ℕ) → k < l.place → IsFoundAt g.D.Disk l.fn.disks k NewStore;
  one_used : l.used ≡ true → (k : ℕ) × (k < l.place) × IsFoundAt g.D.Disk l.fn.disks k UsedStore;
  kept : AreKept g.D.Disk l.fn.disks l.disks;
  behind : (k : ℕ) → l.place ≤ k → slice_index_or l.disks k None ≡ slice_index_or l.fn.disks k None;
}
