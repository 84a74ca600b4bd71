use Rattle.std.proofs.Common.{◌≡◌, ℕ, [], length}
use Rattle.kv_store.specs.Table.{value_at}
use Rattle.kv_store.proofs.table.Table.empty.Given as goal

abbrev pub invariant-loop : goal.invariant-loop
invariant-loop l = record {
  count : length l.values.items ≡ l.counter;
  empty : (k : ℕ) → value_at l.values.items k ≡ [];
}
