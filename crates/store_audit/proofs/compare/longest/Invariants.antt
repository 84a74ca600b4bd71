use Rattle.std.proofs.Common.{◌<◌, ◌≤◌, ℕ, length}
use Rattle.store_audit.specs.Stores.{store_at}
use Rattle.store_audit.proofs.compare.longest.Given as goal

abbrev pub invariant-loop-next : goal.invariant-loop-next
invariant-loop-next l = record {
  exists : l.longest < length l.stores;
  most : (k : ℕ) → k < l.next → (store_at l.stores k).commit ≤ (store_at l.stores l.longest).commit;
  first : (k : ℕ) → k < l.longest → (store_at l.stores k).commit < (store_at l.stores l.longest).commit;
  below : l.longest < l.next;
}
