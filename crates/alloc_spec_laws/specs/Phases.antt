-- A step in its phases, as far as it has come.
use Rattle.std.specs.Prelude.{◌≡◌, ◌≢◌, ◌<◌, ℕ, ◌++◌, Bool, [], ◌∷◌, None}
use Rattle.can_frame.specs.declared.step.What.TheVariants.{Alloc}
use Rattle.can_frame.specs.Zeros.{zeros}
use Rattle.raft_model.specs.Duty as duty
use Rattle.raft_model.specs.Duty.{TellDuty}
use Rattle.raft_model.specs.Moves.{next_entry}
use Rattle.raft_model.specs.Handlers.{offers_of_all}
use Rattle.raft_model.specs.Server.Role.{Leader}
use Rattle.alloc_spec.specs.Ending.{commit_phase, tell_phase}
use Rattle.alloc_spec.specs.Exchange.{allocation_payload}
use Rattle.alloc_spec.specs.StepState.{StepState}
use Rattle.alloc_spec.specs.Step.{Event, begin_phase, event_phase, moment_of, step}
use Rattle.alloc_spec.specs.AllocatorState.{AllocatorState, members_of}
use Rattle.alloc_spec.specs.Transfers.{Offer, has_room}

-- when its event is done
abbrev pub when_seen : AllocatorState → ℕ → Event → StepState
when_seen t number event = (event_phase number event (begin_phase number (moment_of event) t)).step_state

-- when a leader has committed
abbrev pub when_committed : AllocatorState → ℕ → Event → StepState
when_committed t number event = commit_phase number (when_seen t number event)

-- when a pair is told; then only the calls are left
abbrev pub when_told : AllocatorState → ℕ → Event → StepState
when_told t number event = tell_phase number (when_committed t number event)

-- the frames of the next pair that is to be told have room
abbrev pub has_room_to_tell : AllocatorState → Bool
has_room_to_tell t =
    has_room t.queue (allocation_payload (next_entry t.raft_server).node (next_entry t.raft_server).uid)

-- the Allocation that tells it: its node ID and its unique ID, under the transfer ID that comes next
abbrev pub told_allocation : AllocatorState → Offer
told_allocation t = record {
  what = Alloc;
  to = 0;
  id = t.ids.alloc;
  payload = allocation_payload (next_entry t.raft_server).node (next_entry t.raft_server).uid;
  re = 0;
  says = None;
  fitted = has_room_to_tell t;
}

-- a leader's duty to tell: its moves are those of the Raft model's phase, and tell one place. A pair is listed, whether
-- it fits or not; a place with a unique ID of zeros is not
pub record TellsDuly (number : ℕ) (g told : StepState) : Type 0 where
  pub moves : told.moves ≡ g.moves ++ duty.tell_phase (has_room_to_tell g.allocator) g.allocator.raft_server
  pub tells : g.allocator.raft_server.memory.role ≡ Leader
      → TellDuty g.allocator.me number (has_room_to_tell g.allocator) g.allocator.raft_server told.allocator.raft_server
      (offers_of_all (members_of g.allocator) g.allocator.me number g.allocator.raft_server
      (duty.tell_phase (has_room_to_tell g.allocator) g.allocator.raft_server))
  pub lists : g.allocator.raft_server.memory.role ≡ Leader
      → g.allocator.raft_server.memory.told < g.allocator.raft_server.store.commit
      → (next_entry g.allocator.raft_server).uid ≢ zeros → told.offers ≡ g.offers ++ told_allocation g.allocator ∷ []
  pub passes : (next_entry g.allocator.raft_server).uid ≡ zeros → told.offers ≡ g.offers

-- of every step that ends
abbrev pub InEveryStep : (StepState → Type 0) → Type 0
InEveryStep Fact = (t : AllocatorState) (number : ℕ) (event : Event) → Fact (step t number event).step_state
