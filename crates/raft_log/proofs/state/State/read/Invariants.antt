use Rattle.std.proofs.Common.{◌≡◌, ◌+◌, length}
use Rattle.kv_store.specs.TableViews.{table_map}
use Rattle.raft_log.specs.Rules.{KeepsRules, entries_of, origins_of}
use Rattle.raft_log.proofs.state.State.read.Given as goal

abbrev pub invariant-loop-place : goal.invariant-loop-place
invariant-loop-place l = record {
  entries : l.log.items ≡ entries_of (table_map l.table) l.place;
  origins : l.origins.items ≡ origins_of (table_map l.table) l.place;
  count : length l.log.items ≡ l.place;
  count_origins : length l.origins.items ≡ l.place;
  rules : KeepsRules (table_map l.table) (5 + l.place);
}
