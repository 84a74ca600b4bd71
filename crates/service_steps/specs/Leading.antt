-- A leader leads until it hears of a higher term.
use Rattle.std.specs.Prelude.{◌≡◌, ◌⊎◌, ◌<◌, ℕ, Some}
use Rattle.dsdl_codec.specs.declared.append_answer.AppendAnswer.{AppendAnswer}
use Rattle.dsdl_codec.specs.declared.append_request.AppendRequest.{AppendRequest}
use Rattle.dsdl_codec.specs.declared.vote_answer.VoteAnswer.{VoteAnswer}
use Rattle.dsdl_codec.specs.declared.vote_request.VoteRequest.{VoteRequest}
use Rattle.dsdl_codec.specs.AppendAnswer.{append_answer_of}
use Rattle.dsdl_codec.specs.AppendRequest.{append_request_of}
use Rattle.dsdl_codec.specs.VoteAnswer.{vote_answer_of}
use Rattle.dsdl_codec.specs.VoteRequest.{vote_request_of}
use Rattle.raft_model.specs.Server.Role.{Leader}
use Rattle.transfer_rx.specs.Reassembly.{Arrival, Delivery, Gives, answer}
use Rattle.alloc_spec.specs.Accepted.{setting_for}
use Rattle.alloc_spec.specs.AllocatorState.{AllocatorState}
use Rattle.alloc_spec.specs.Step.{step}
use Rattle.alloc_spec.specs.Step.Event.{Rx, Tick}
use Rattle.service_steps.specs.Requests.{moment_at}

-- a transfer whose payload reads as a message of Raft with a higher term
abbrev pub TellsHigher : ℕ → Delivery → Type 0
TellsHigher term delivery =
    ((message : AppendRequest) × (append_request_of delivery.payload ≡ Some message) × (term < message.term))
    ⊎ ((message : VoteRequest) × (vote_request_of delivery.payload ≡ Some message) × (term < message.term))
    ⊎ ((message : AppendAnswer) × (append_answer_of delivery.payload ≡ Some message) × (term < message.term))
    ⊎ ((message : VoteAnswer) × (vote_answer_of delivery.payload ≡ Some message) × (term < message.term))

-- the frame completes one
pub record HearsHigher (t : AllocatorState) (arrival : Arrival) : Type 0 where
  pub delivery : Delivery
  pub gives : answer (setting_for t.me) t.sessions (record arrival { moment = moment_at t arrival }) ≡ Gives delivery
  pub higher : TellsHigher t.raft_server.store.term delivery

abbrev pub LeadsOnAtTicks : Type 0
LeadsOnAtTicks = (t : AllocatorState) (number now word : ℕ) → t.raft_server.memory.role ≡ Leader →
    (step t number (Tick now word)).step_state.allocator.raft_server.memory.role ≡ Leader

abbrev pub LeadsOnAtFrames : Type 0
LeadsOnAtFrames = (t : AllocatorState) (number : ℕ) (arrival : Arrival) → t.raft_server.memory.role ≡ Leader →
    ((step t number (Rx arrival)).step_state.allocator.raft_server.memory.role ≡ Leader) ⊎ HearsHigher t arrival
