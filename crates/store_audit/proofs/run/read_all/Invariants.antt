use Rattle.std.proofs.Common.{◌≡◌, length}
use Rattle.store_audit.specs.Reads.{AllStay, AreReadUpTo, AreStoresOf}
use Rattle.store_audit.specs.Stores.{AreReadable}
use Rattle.store_audit.proofs.Disks.{StayQuiet}
use Rattle.store_audit.proofs.run.read_all.Given as goal

abbrev pub invariant-loop-place : goal.invariant-loop-place
invariant-loop-place g l = record {
  count : length l.stores.items ≡ l.place;
  read : AreStoresOf g.D.Disk l.fn.disks l.stores.items;
  readable : AreReadable l.stores.items;
  stay : AllStay g.D.Disk l.fn.disks l.disks;
  quiet : StayQuiet g.D.Disk l.fn.disks l.disks;
  order : AreReadUpTo g.D.Disk l.place l.fn.disks l.disks;
}
