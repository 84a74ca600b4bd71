use Rattle.std.proofs.Common.{◌≡◌, ◌≤◌, ◌+◌, ◌*◌, ◌++◌, length, take}
use Rattle.std.specs.List.{flat_map}
use Rattle.store_audit.specs.Report.{mark_at}
use Rattle.store_audit.proofs.marks.write_marks.Given as goal

abbrev pub invariant-loop-store : goal.invariant-loop-store
invariant-loop-store l = record {
  text : l.line ≡ l.fn.line ++ flat_map (mark_at l.place) (take l.store-index l.stores);
  len : length l.line ≤ length l.fn.line + 20 * l.store-index;
}
