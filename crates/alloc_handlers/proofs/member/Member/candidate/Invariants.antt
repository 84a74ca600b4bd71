use Rattle.std.proofs.Common.{◌≡◌, ◌-◌, find}
use Rattle.alloc_handlers.proofs.Words.{AllocatorState, StandsFor, candidate, is_candidate, range_with_len}
use Rattle.alloc_handlers.proofs.member.Member.candidate.Given as goal

-- those that are left have the same first candidate as all
abbrev pub invariant-loop-node : goal.invariant-loop-node
invariant-loop-node g l = (t : AllocatorState) → StandsFor l.self t → find (is_candidate t) (range_with_len l.node (126 - l.node)) ≡ candidate t
