use Rattle.std.proofs.Common.{◌≡◌, ◌≤◌, ℕ}
use Rattle.std.specs.Prelude.{None, slice_index_or}
use Rattle.listed_entry.specs.Listed.{ArePassed}
use Rattle.store_audit.specs.Reads.{AllStay}
use Rattle.listed_entry.proofs.find.find_listed.Given as goal

abbrev pub invariant-loop-place : goal.invariant-loop-place
invariant-loop-place g l = record {
  passed : ArePassed g.D.Disk l.fn.list l.place l.fn.stores l.stores;
  behind : (k : ℕ) → l.place ≤ k → slice_index_or l.stores k None ≡ slice_index_or l.fn.stores k None;
  stay : AllStay g.D.Disk l.fn.stores l.stores;
}
