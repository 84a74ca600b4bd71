-- A call of another log that comes to an allocator in its turn: the turn ends there, and with it the run.
use Rattle.std.specs.Prelude.{◌≡◌, ℕ, ◌<◌, Option, None, Some}
use Rattle.outside.specs.Readings.{next_reading}
use Rattle.outside.specs.Traffic.{next_item}
use Rattle.alloc_server.specs.AnotherLog.{another_log}
use Rattle.alloc_spec.specs.AllocatorState.{AllocatorState}
use Rattle.alloc_spec.specs.Step.{Event}
use Rattle.cmd_node.specs.Frames.{event_in}
use Rattle.cmd_node.specs.Turn.{Turning, turn_after_tick}
use Rattle.cmd_node.specs.Turns.{Together, all_turns, first_turns, turning_at}

-- the member that calls so, if an event is such a call
abbrev pub event_caller : AllocatorState → Option Event → Option ℕ
event_caller t None = None
event_caller t (Some event) = another_log t event

-- if the next item of its link is one
abbrev pub next_caller : ℕ → Turning → Option ℕ
next_caller moment t = event_caller t.running.allocator (event_in moment (next_item t.running.coming))

-- in a turn: that item comes behind the step at its clock
abbrev pub caller_in_turn : ℕ → Turning → Option ℕ
caller_in_turn moment t = next_caller moment (turn_after_tick moment t)

-- in the turn of the one at a place, when all stand like this
abbrev pub caller_at : ℕ → Together → Option ℕ
caller_at place before = caller_in_turn (next_reading before.readings) (turning_at place before)

-- no such call comes to the first of them in a turn of each
abbrev pub NoneCalls : ℕ → Together → Type 0
NoneCalls count all = (i : ℕ) → i < count → caller_at i (first_turns i all) ≡ None

-- nor to all in so many turns
abbrev pub NoneCallsFor : ℕ → ℕ → Together → Type 0
NoneCallsFor count turns all = (n : ℕ) → n < turns → NoneCalls count (all_turns count n all)
