-- All node IDs.
use Rattle.std.proofs.Common.{ℕ, zero, suc, ◌+◌, ◌<◌, ◌≤◌, inl, inr, arith}
use Rattle.alloc_handlers.proofs.Words.{cases_lt, range_with_len}
use Rattle.raft_model.specs.Lists.{In}
use Rattle.alloc_spec.specs.Step.{all_nodes}

in_range : (count from node : ℕ) → from ≤ node → node < from + count → In node (range_with_len from count)
in_range zero from node least below = absurd (omega (arith, least, below))
in_range (suc count) from node least below =
    elim (cases_lt from node) as (λ _. In node (range_with_len from (suc count))) [
      | inl above ↦ inr (in_range count (from + 1) node (omega (arith, above)) (omega (arith, below)))
      | inr under ↦ inl (omega (arith, least, under))
    ]

pub in_all_nodes : (node : ℕ) → node < 128 → In node all_nodes
unfolding all_nodes
in_all_nodes node below = in_range 128 0 node (omega arith) (omega arith)
