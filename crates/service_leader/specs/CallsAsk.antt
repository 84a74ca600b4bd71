-- What a leader asks with a call, and that it waits for the answer.
use Rattle.std.specs.Prelude.{◌≡◌, ℕ, ◌-◌, true, Some}
use Rattle.can_frame.specs.declared.step.What.TheVariants.{AppQ}
use Rattle.raft_model.specs.Lists.{In}
use Rattle.raft_model.specs.Messages.{Request}
use Rattle.raft_model.specs.Messages.Message.{Requests}
use Rattle.raft_model.specs.Moves.Leading.{append_request}
use Rattle.raft_model.specs.Server.Role.{Leader}
use Rattle.alloc_spec.specs.AllocatorState.{AllocatorState}
use Rattle.alloc_spec.specs.Step.{Event, step}
use Rattle.alloc_spec.specs.Transfers.{Offer}

-- the request by which a server that is to call member m in this step calls it: with the entry at the member's next
-- place, where its log has one there, and with the place before
abbrev pub next_request : (m number : ℕ) → AllocatorState → Request
next_request m number t =
    append_request t.me number t.raft_server.store m (t.raft_server.memory.next m - 1) true

-- The call says this request, and the server leads and waits for its answer: with the pending request it keeps the
-- call's transfer ID, and the moment of the step.
pub record AsksNext (m number : ℕ) (offer : Offer) (after : AllocatorState) : Type 0 where
  pub leads : after.raft_server.memory.role ≡ Leader
  pub says : offer.says ≡ Some (Requests (next_request m number after))
  pub pending : after.raft_server.memory.pending m ≡ Some (next_request m number after)
  pub kept : after.times.sending m ≡ Some (record { id = offer.id; moment = after.now })

-- each call of a step for which the queue has room, by what the step leaves: its store, and the member's next place
abbrev pub CallsAskNext : Type 0
CallsAskNext = (t : AllocatorState) (number : ℕ) (event : Event) (m : ℕ) (offer : Offer) →
    In offer (step t number event).step_state.offers → offer.what ≡ AppQ → offer.to ≡ m → offer.fitted ≡ true →
    AsksNext m number offer (step t number event).step_state.allocator
