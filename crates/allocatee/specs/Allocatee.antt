-- A device that asks for a node ID (`Asking`), with its receiver. A step takes an event: a reading of its clock, or a
-- frame.
use Rattle.std.specs.Prelude.{ℕ, max, Bool, List, [], Option, None, Some}
use Rattle.can_frame.specs.declared.step.Seen.{Seen}
use Rattle.can_frame.specs.declared.step.Seen.TheVariants.{Bad, Dropped, Part, Ticked, Took}
use Rattle.can_frame.specs.declared.step.Sent.{Sent}
use Rattle.can_frame.specs.Kinds.{is_anonymous}
use Rattle.dsdl_codec.specs.declared.allocation.Allocation.{Allocation}
use Rattle.dsdl_codec.specs.Allocation.{allocation_of}
use Rattle.transfer_rx.specs.Reassembly.{Answer, Arrival, Continues, Drops, Gives, answer, next}
use Rattle.transfer_rx.specs.Sessions.{Session}
use Rattle.allocatee.specs.Accepted.{setting}
use Rattle.allocatee.specs.Asking.{Asking, asking_from, at_moment, after_allocation, without_first_frame, clock_phase}

pub record Device : Type 0 where
  pub asking : Asking
  pub sessions : List Session

abbrev pub opening : List ℕ → ℕ → ℕ → ℕ → Device
opening uid preferred now word = record { asking = asking_from uid preferred now word; sessions = [] }

-- ---- its events; of the word come its waits and the discriminators of its frames

pub data Event : Type 0 where
  -- the allocatee reads its clock
  Tick : (now word : ℕ) → Event
  -- a frame comes
  Rx : (arrival : Arrival) (word : ℕ) → Event

-- what a step saw and offered, and what it leaves
pub record StepResult : Type 0 where
  pub seen : Seen
  pub sent : List Sent
  pub device : Device

-- ---- a frame

-- an Allocation is taken; a payload that reads as none does nothing
abbrev pub after_reading : ℕ → Bool → Option Allocation → Asking → Asking
after_reading word anonymous None a = a
after_reading word anonymous (Some message) a = after_allocation word anonymous message a

abbrev pub seen_of_reading : Option Allocation → Seen
seen_of_reading None = Bad
seen_of_reading (Some message) = Took

abbrev pub after_receiver_answer : ℕ → Answer → Asking → Asking
after_receiver_answer word (Gives delivery) a =
    after_reading word (is_anonymous delivery.ident.kind) (allocation_of delivery.payload) a
after_receiver_answer word Continues a = a
after_receiver_answer word (Drops why) a = a

abbrev pub seen_of : Answer → Seen
seen_of (Gives delivery) = seen_of_reading (allocation_of delivery.payload)
seen_of Continues = Part
seen_of (Drops why) = Dropped why

-- the frame as it comes at the step's moment
abbrev pub at_step : Device → Arrival → Arrival
at_step d arrival = record arrival { moment = max d.asking.moment arrival.moment }

abbrev pub answer_to : Device → Arrival → Answer
answer_to d arrival = answer setting d.sessions (at_step d arrival)

-- ---- the step

abbrev pub tick_result : ℕ → ℕ → ℕ → Device → StepResult
tick_result number now word d = record {
  seen = Ticked;
  sent = (clock_phase number word (at_moment now d.asking)).sent;
  device = record d { asking = (clock_phase number word (at_moment now d.asking)).asking };
}

abbrev pub receipt_result : Arrival → ℕ → Device → StepResult
receipt_result arrival word d = record {
  seen = seen_of (answer_to d arrival);
  sent = [];
  device = record {
    asking = after_receiver_answer word (answer_to d arrival) (at_moment arrival.moment d.asking);
    sessions = next setting d.sessions (at_step d arrival);
  };
}

unfoldable pub step : Device → ℕ → Event → StepResult
step d number (Tick now word) = tick_result number now word d
step d number (Rx arrival word) = receipt_result arrival word d

-- ---- between steps

-- the next frame has gone out
abbrev pub after_pop : Device → Device
after_pop d = record d { asking = without_first_frame d.asking }
