use Rattle.std.proofs.Common.{◌≡◌, ◌<◌, ℕ}
use Rattle.store_audit.specs.Stores.{HasCommitted, stored_entry}
use Rattle.store_audit.proofs.compare.other_at.Given as goal

abbrev pub invariant-loop-index : goal.invariant-loop-index
invariant-loop-index l = record {
  behind : l.first < l.index;
  same : (k : ℕ) → l.first < k → k < l.index → HasCommitted l.stores l.place k → stored_entry l.stores k l.place ≡ stored_entry l.stores l.first l.place;
}
