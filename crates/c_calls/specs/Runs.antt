-- Calls that a caller makes of an open node, one after another, and what they come to in the definition.
use Rattle.std.specs.Prelude.{◌+◌, ◌%◌, ℕ, suc, List, [], ◌∷◌, ⊤}
use Rattle.alloc_spec.specs.AllocatorState.{AllocatorState}
use Rattle.alloc_spec.specs.Rules.{with_told}
use Rattle.alloc_spec.specs.Step.{Rx, Tick, after_pop, step}
use Rattle.c_calls.specs.declared.node.Node.{Node}
use Rattle.c_calls.specs.At.{Calls, OnlyTells, first_bytes, heard, low}

-- a call with its arguments: a tick, a frame or a list of members that was answered by 0, the taking of a frame, and
-- what only tells
pub data Call : Type 0 where
  Ticks : (now a b : ℕ) → Call
  Hears : (now a b : ℕ) → Call
  Learns : (now a b : ℕ) → Call
  Takes : (now a b result : ℕ) → Call
  Tells : (op now a b result : ℕ) → Call

abbrev pub Made : Call → Node → Node → Type 0
Made (Ticks now a b) old new = Calls old new 2 now a b 0
Made (Hears now a b) old new = Calls old new 3 now a b 0
Made (Learns now a b) old new = Calls old new 8 now a b 0
Made (Takes now a b result) old new = Calls old new 4 now a b result
Made (Tells op now a b result) old new = OnlyTells op × Calls old new op now a b result

-- the calls were made of the nodes `at`, each of the one that the call before it left
abbrev pub Run : List Call → (ℕ → Node) → Type 0
Run [] at = ⊤
Run (call ∷ calls) at = Made call (at 0) (at 1) × Run calls (λ k. at (suc k))

-- ---- in the definition: steps under numbers that follow each other, and frames that go out between them

-- the number of the last step, after a call
abbrev pub counted : Call → ℕ → ℕ
counted (Ticks now a b) last = (last + 1) % 18446744073709551616
counted (Hears now a b) last = (last + 1) % 18446744073709551616
counted (Learns now a b) last = last
counted (Takes now a b result) last = last
counted (Tells op now a b result) last = last

-- what a call makes of an allocator, with the number of its step
abbrev pub after_call : Call → ℕ → AllocatorState → AllocatorState
after_call (Ticks now a b) number t = (step t number (Tick now (low a))).step_state.allocator
after_call (Hears now a b) number t = (step t number (Rx (heard now a b))).step_state.allocator
after_call (Learns now a b) number t = with_told (first_bytes b a) t
after_call (Takes now a b result) number t = after_pop t
after_call (Tells op now a b result) number t = t

-- what calls make of it, in order
abbrev pub after_calls : List Call → ℕ → AllocatorState → AllocatorState
after_calls [] last t = t
after_calls (call ∷ calls) last t = after_calls calls (counted call last) (after_call call (counted call last) t)
