use Rattle.std.proofs.Common.{◌≡◌, ◌≤◌}
use Rattle.cmd_replace.specs.Guard.{supporters}
use Rattle.cmd_replace.proofs.guard.count_supporters.Given as goal

abbrev pub invariant-loop-place : goal.invariant-loop-place
invariant-loop-place l = record {
  count : l.count ≡ supporters l.ids l.lost l.stores l.leader l.place;
  few : l.count ≤ l.place;
}
