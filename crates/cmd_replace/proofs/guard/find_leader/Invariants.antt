use Rattle.std.proofs.Common.{◌<◌, ℕ}
use Rattle.std.specs.Prelude.{IfSome, IsNone}
use Rattle.cmd_replace.specs.Guard.{IsElected, MayReplace}
use Rattle.cmd_replace.proofs.guard.find_leader.Given as goal

abbrev pub invariant-loop-place : goal.invariant-loop-place
invariant-loop-place l = record {
  found : IfSome l.found (λ place. IsElected l.ids l.lost l.stores place);
  none : IsNone l.found → (k : ℕ) → k < l.place → IsElected l.ids l.lost l.stores k → ⊥;
  before : (k : ℕ) → k < l.place → MayReplace l.ids l.lost l.stores k → ⊥;
}
