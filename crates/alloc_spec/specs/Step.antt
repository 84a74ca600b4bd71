-- A step of a server, where no put fails: time, the event, and how each step ends.
use Rattle.std.specs.Prelude.{ℕ, max, List}
use Rattle.std.specs.List.{range_with_len}
use Rattle.can_frame.specs.declared.step.Seen.TheVariants.{Dropped, Part, Ticked}
use Rattle.can_frame.specs.Sizes.{node_ids}
use Rattle.raft_core.specs.Handled.{moves_of_expire}
use Rattle.raft_core.specs.Times.{given_at, overdue}
use Rattle.transfer_rx.specs.Reassembly.{Answer, Arrival, Continues, Drops, Gives, answer, next}
use Rattle.transfer_rx.specs.Sessions.{Session}
use Rattle.transfer_tx.specs.Queue.{left_behind}
use Rattle.alloc_spec.specs.Accepted.{setting_for}
use Rattle.alloc_spec.specs.AllocatorState.{AllocatorState}
use Rattle.alloc_spec.specs.StepState.{StepState, initial_state, with_moves}
use Rattle.alloc_spec.specs.Tick.{clock_phase}
use Rattle.alloc_spec.specs.Delivered.{StepResult, delivery_phase}
use Rattle.alloc_spec.specs.Ending.{end_phase}

-- what happens at a server, with its moment
pub data Event : Type 0 where
  Tick : (now word : ℕ) → Event
  -- a frame of the bus
  Rx : (arrival : Arrival) → Event

-- ---- time: the moment is the greatest so far, and calls of 1,000 ms or more are given up

abbrev pub moment_of : Event → ℕ
moment_of (Tick now word) = now
moment_of (Rx arrival) = arrival.moment

abbrev pub at_moment : ℕ → AllocatorState → AllocatorState
at_moment now t = record t { now = max t.now now }

unfoldable pub all_nodes : List ℕ
all_nodes = range_with_len 0 node_ids

abbrev pub expiry_phase : ℕ → StepState → StepState
expiry_phase step g =
    with_moves step (given_at g.allocator.now) (moves_of_expire (overdue g.allocator.times g.allocator.now all_nodes)) g

abbrev pub begin_phase : ℕ → ℕ → AllocatorState → StepState
begin_phase step now t = expiry_phase step (initial_state (at_moment now t))

-- ---- the event

abbrev pub with_answer : ℕ → Answer → StepState → StepResult
with_answer step (Gives delivery) g = delivery_phase step delivery g
with_answer step Continues g = record { seen = Part; step_state = g }
with_answer step (Drops why) g = record { seen = Dropped why; step_state = g }

-- the frame as it comes at the step's moment
abbrev pub at_step : AllocatorState → Arrival → Arrival
at_step t arrival = record arrival { moment = t.now }

-- the receiver has these sessions
abbrev pub at_sessions : List Session → StepState → StepState
at_sessions sessions g = record g { allocator = record g.allocator { sessions = sessions } }

abbrev pub with_sessions : Arrival → StepState → StepState
with_sessions arrival g =
    at_sessions (next (setting_for g.allocator.me) g.allocator.sessions (at_step g.allocator arrival)) g

-- the receiver takes the frame, and the server what it delivers
abbrev pub receive_phase : ℕ → Arrival → StepState → StepResult
receive_phase step arrival g =
    with_answer step (answer (setting_for g.allocator.me) g.allocator.sessions (at_step g.allocator arrival))
    (with_sessions arrival g)

abbrev pub event_phase : ℕ → Event → StepState → StepResult
event_phase step (Tick now word) g = record { seen = Ticked; step_state = clock_phase step word g }
event_phase step (Rx arrival) g = receive_phase step arrival g

-- ---- the step

abbrev pub with_end_phase : ℕ → StepResult → StepResult
with_end_phase step step_result = record step_result { step_state = end_phase step step_result.step_state }

-- what the receiver answered is taken, and the step ends
abbrev pub takes_answer : ℕ → Answer → StepState → StepResult
takes_answer step a g = with_end_phase step (with_answer step a g)

unfoldable pub step : AllocatorState → ℕ → Event → StepResult
step t number event = with_end_phase number (event_phase number event (begin_phase number (moment_of event) t))

-- ---- between steps

-- the next frame has gone out
abbrev pub after_pop : AllocatorState → AllocatorState
after_pop t = record t { queue = left_behind t.queue }
