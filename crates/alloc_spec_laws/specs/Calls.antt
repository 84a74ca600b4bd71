-- What is kept of a server's pending calls, and which transfers made them.
use Rattle.std.specs.Prelude.{◌≡◌, ◌⊎◌, ℕ, true, Some, is_some, if◌then◌else◌}
use Rattle.can_frame.specs.declared.step.What.{What}
use Rattle.can_frame.specs.declared.step.What.TheVariants.{AppQ, VoteQ}
use Rattle.raft_model.specs.Lists.{In}
use Rattle.raft_model.specs.Messages.{Request}
use Rattle.raft_model.specs.Messages.Message.{Requests}
use Rattle.alloc_spec.specs.StepState.{StepState}
use Rattle.alloc_spec.specs.AllocatorState.{AllocatorState}
use Rattle.alloc_spec.specs.Transfers.{Offer}

-- a transfer ID and a moment are kept for each pending call, and for nothing else
abbrev pub KeepsCalls : AllocatorState → Type 0
KeepsCalls t = (peer : ℕ) → is_some (t.times.sending peer) ≡ is_some (t.raft_server.memory.pending peer)

-- the call to a peer was pending before, under the same transfer ID since the same moment
pub record StaysPending (before after : AllocatorState) (peer : ℕ) : Type 0 where
  pub pending : after.raft_server.memory.pending peer ≡ before.raft_server.memory.pending peer
  pub sending : after.times.sending peer ≡ before.times.sending peer

-- the kind of transfer that carries a request
abbrev pub carrier : Request → What
carrier request = if request.append then AppQ else VoteQ

-- the step made the call to a peer: it offered this very request to it in a transfer that fitted, and keeps the ID of
-- that transfer with its own moment
pub record IsCalled (number : ℕ) (step_state : StepState) (peer : ℕ) (request : Request) : Type 0 where
  pub offer : Offer
  pub offered : In offer step_state.offers
  pub fitted : offer.fitted ≡ true
  pub what : offer.what ≡ carrier request
  pub to : offer.to ≡ peer
  pub says : offer.says ≡ Some (Requests request)
  pub step : request.step ≡ number
  pub kept : step_state.allocator.times.sending peer
      ≡ Some (record { id = offer.id; moment = step_state.allocator.now })

-- each call that is pending after a step was pending before it, or the step made it
abbrev pub CallsAreMade : ℕ → AllocatorState → StepState → Type 0
CallsAreMade number before step_state = (peer : ℕ) (request : Request) →
    step_state.allocator.raft_server.memory.pending peer ≡ Some request
    → StaysPending before step_state.allocator peer ⊎ IsCalled number step_state peer request
