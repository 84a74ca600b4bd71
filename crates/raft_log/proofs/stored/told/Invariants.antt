use Rattle.std.proofs.Common.{◌≡◌, length, take}
use Rattle.raft_log.specs.Stored.{told_origins}
use Rattle.raft_log.proofs.stored.told.Given as goal

abbrev pub invariant-loop-origin : goal.invariant-loop-origin
invariant-loop-origin l = record {
  count : length l.told.items ≡ l.origin-index;
  items : l.told.items ≡ told_origins (take l.origin-index l.origins);
}
