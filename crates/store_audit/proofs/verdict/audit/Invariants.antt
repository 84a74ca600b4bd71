use Rattle.std.proofs.Common.{◌≤◌, ℕ}
use Rattle.store_audit.specs.Stores.{AgreeAt}
use Rattle.store_audit.proofs.verdict.audit.Given as goal

abbrev pub invariant-loop-earlier : goal.invariant-loop-earlier
invariant-loop-earlier l = (place : ℕ) → 1 ≤ place → place ≤ l.earlier → AgreeAt l.stores place
