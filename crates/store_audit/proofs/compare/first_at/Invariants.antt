use Rattle.std.proofs.Common.{◌<◌, ℕ}
use Rattle.store_audit.specs.Stores.{HasCommitted}
use Rattle.store_audit.proofs.compare.first_at.Given as goal

abbrev pub invariant-loop-index : goal.invariant-loop-index
invariant-loop-index l = (k : ℕ) → k < l.index → HasCommitted l.stores l.place k → ⊥
