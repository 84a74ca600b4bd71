-- A server, its queue and its step without marks and numbers of steps: the maps that forget them. Two servers are alike
-- where these maps give the same of both.
use Rattle.std.specs.Prelude.{List, [], map, Option, None, Some}
use Rattle.raft_model.specs.Messages.{Request}
use Rattle.raft_model.specs.Server.{Memory, RaftServer}
use Rattle.transfer_rx.specs.Unmarked.{no_mark, unmarked, unmarked_arrival}
use Rattle.transfer_tx.specs.Queue.{Queued}
use Rattle.alloc_spec.specs.Delivered.{StepResult}
use Rattle.alloc_spec.specs.StepState.{StepState}
use Rattle.alloc_spec.specs.Step.{Event}
use Rattle.alloc_spec.specs.Step.Event.{Rx, Tick}
use Rattle.alloc_spec.specs.AllocatorState.{AllocatorState}
use Rattle.alloc_spec.specs.Transfers.{Offer}

-- a pending call without the number of its step
abbrev pub unnumbered : Request → Request
unnumbered request = record request { step = 0 }

abbrev pub unnumbered_call : Option Request → Option Request
unnumbered_call None = None
unnumbered_call (Some request) = Some (unnumbered request)

abbrev pub unmarked_memory : Memory → Memory
unmarked_memory memory = record memory { pending = λ peer. unnumbered_call (memory.pending peer) }

abbrev pub unmarked_raft_server : RaftServer → RaftServer
unmarked_raft_server raft_server = record raft_server { memory = unmarked_memory raft_server.memory }

abbrev pub unmarked_frame : Queued → Queued
unmarked_frame frame = record frame { mark = no_mark }

abbrev pub unmarked_frames : List Queued → List Queued
unmarked_frames frames = map unmarked_frame frames

-- a server whose sessions and queue have no marks, and whose pending calls no step
abbrev pub unmarked_server : AllocatorState → AllocatorState
unmarked_server t = record t {
  raft_server = unmarked_raft_server t.raft_server;
  sessions = map unmarked t.sessions;
  queue = unmarked_frames t.queue;
}

-- a transfer as it is told of, with its bytes
abbrev pub unmarked_offer : Offer → Offer
unmarked_offer offer = record offer { re = 0; says = None }

-- a step so far: the server, the puts and the transfers
abbrev pub unmarked_step_state : StepState → StepState
unmarked_step_state g =
    record { allocator = unmarked_server g.allocator; moves = []; puts = g.puts; offers = map unmarked_offer g.offers }

abbrev pub unmarked_step_result : StepResult → StepResult
unmarked_step_result step_result =
    record { seen = step_result.seen; step_state = unmarked_step_state step_result.step_state }

abbrev pub unmarked_event : Event → Event
unmarked_event (Tick now word) = Tick now word
unmarked_event (Rx arrival) = Rx (unmarked_arrival arrival)
