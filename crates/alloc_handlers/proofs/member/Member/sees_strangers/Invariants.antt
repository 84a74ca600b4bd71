use Rattle.std.proofs.Common.{◌≡◌, ◌<◌, ℕ, false, get_or}
use Rattle.alloc_handlers.proofs.Words.{AllocatorState, StandsFor, is_stranger}
use Rattle.alloc_handlers.proofs.member.Member.sees_strangers.Given as goal

-- no node so far is a stranger
abbrev pub invariant-loop-node : goal.invariant-loop-node
invariant-loop-node g l = (t : AllocatorState) → StandsFor l.self t → (i : ℕ) → i < l.node-index → is_stranger t (get_or l.node-items i 0) ≡ false
