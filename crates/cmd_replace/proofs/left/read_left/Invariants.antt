use Rattle.std.proofs.Common.{◌≡◌, ◌≤◌, ℕ, length}
use Rattle.std.specs.Prelude.{None, slice_index_or}
use Rattle.cmd_replace.specs.Replaced.{AreQuiet, AreRead, LostStays}
use Rattle.store_audit.specs.Reads.{AllStay}
use Rattle.cmd_replace.proofs.left.read_left.Given as goal

abbrev pub invariant-loop-place : goal.invariant-loop-place
invariant-loop-place g l = record {
  count : length l.stores.items ≡ l.place;
  images : length l.images ≡ length l.fn.images;
  read : AreRead g.D.Disk l.ids l.lost l.fn.disks l.place l.images l.stores.items;
  stay : AllStay g.D.Disk l.fn.disks l.disks;
  lost : LostStays g.D.Disk l.ids l.lost l.fn.disks l.disks;
  quiet : AreQuiet g.D.Disk l.ids l.lost l.fn.disks l.disks;
  behind : (k : ℕ) → l.place ≤ k → slice_index_or l.disks k None ≡ slice_index_or l.fn.disks k None;
}
