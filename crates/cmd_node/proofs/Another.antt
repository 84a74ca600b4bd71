-- No call of another log came so far.
use Rattle.std.proofs.Common.{◌≡◌, ℕ, ◌+◌, sym, subst, inl, inr, arith}
use Rattle.std.proofs.lemmas.Bool.Decides.{eqb_tells}
use Rattle.std.specs.Prelude.{None}
use Rattle.cmd_node.specs.Another.{NoneCalls, NoneCallsFor, caller_at}
use Rattle.cmd_node.specs.Turns.{Together, all_turns, first_turns}

-- nor in the turn of the next one
pub nor_next : (count : ℕ) (all : Together) → NoneCalls count all → caller_at count (first_turns count all) ≡ None → NoneCalls (count + 1) all
nor_next count all none next i low = elim (eqb_tells i count) [
  | inl h ↦ subst (λ k. caller_at k (first_turns k all) ≡ None) (sym h.1) next
  | inr h ↦ none i (let other = h.1 in omega (arith, low, other))
]

-- nor in the next turns of all
pub nor_all_next : (count turns : ℕ) (all : Together) → NoneCallsFor count turns all → NoneCalls count (all_turns count turns all) →
    NoneCallsFor count (turns + 1) all
nor_all_next count turns all none next n low = elim (eqb_tells n turns) [
  | inl h ↦ subst (λ k. NoneCalls count (all_turns count k all)) (sym h.1) next
  | inr h ↦ none n (let other = h.1 in omega (arith, low, other))
]
