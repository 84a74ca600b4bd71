use Rattle.std.proofs.Common.{◌≡◌, ◌<◌, ℕ}
use Rattle.std.specs.Prelude.{false}
use Rattle.cluster_discovery.specs.Members.{is_on_list}
use Rattle.listed_entry.specs.Listed.{node_at}
use Rattle.listed_entry.proofs.find.listed_in.Given as goal

abbrev pub invariant-loop-entry : goal.invariant-loop-entry
invariant-loop-entry l = (k : ℕ) → k < l.entry-index → is_on_list l.list (node_at l.entries k) ≡ false
