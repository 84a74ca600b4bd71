use Rattle.std.proofs.Common.{◌≡◌, ◌<◌, ◌≤◌, ℕ}
use Rattle.kv_store.specs.Image.{chosen_copy, length_byte, value_in}
use Rattle.kv_store.specs.TableViews.{table_copy, table_map}
use Rattle.kv_store.proofs.table.Table.refill.Given as goal

abbrev pub invariant-loop-key : goal.invariant-loop-key
invariant-loop-key l = record {
  whole : (k : ℕ) → k < l.key → length_byte l.image k ≤ 32;
  values : (k : ℕ) → k < l.key → value_in l.image k ≡ table_map l.self k;
  copies : (k : ℕ) → k < l.key → chosen_copy l.image k ≡ table_copy l.self k;
}
