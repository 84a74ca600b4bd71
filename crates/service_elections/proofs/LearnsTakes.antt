-- An append answer that comes in time to its call leaves the caller in no lower term than the answer's, whatever its
-- role is.
use Rattle.std.proofs.Common.{◌≡◌, ℕ, ◌+◌, ◌<◌, ◌≤◌, arith, Bool, true, [], ◌∷◌, ◌∙◌, ap, inl, inr, Some}
use Rattle.std.specs.Prelude.{max}
use Rattle.can_frame.specs.declared.step.What.TheVariants.{App}
use Rattle.dsdl_codec.specs.declared.append_answer.AppendAnswer.{AppendAnswer}
use Rattle.dsdl_codec.specs.AppendAnswer.{append_answer_of}
use Rattle.raft_core.specs.Handled.{answer_of}
use Rattle.raft_core.specs.Times.{given_at}
use Rattle.raft_model.specs.Lists.{In}
use Rattle.raft_model.specs.Messages.{Answer, Request}
use Rattle.raft_model.specs.Moves.Elections.{term_puts}
use Rattle.raft_model.specs.Moves.Move.{TakeAppendAnswer}
use Rattle.raft_model.specs.Server.{Role, Store, put_all}
use Rattle.bus_rows.specs.declared.row.Row.{Row}
use Rattle.transfer_rx.specs.Reassembly.{Arrival}
use Rattle.alloc_spec.specs.AllocatorState.{AllocatorState, members_of}
use Rattle.alloc_spec.specs.Delivered.{StepResult, took}
use Rattle.alloc_spec.specs.Services.{answers_call, append_answered}
use Rattle.alloc_spec.specs.Step.{step, with_end_phase}
use Rattle.alloc_spec.specs.Step.Event.{Rx}
use Rattle.alloc_spec.specs.StepState.{StepState, with_moves}
use Rattle.alloc_spec.specs.Transfers.{SentTransfer}
use Rattle.alloc_spec_laws.proofs.Choices.{lt_tells}
use Rattle.service_leader.proofs.AnswersAwaited.{IsAwaited, append_ends, comes_awaited, to_end}
use Rattle.service_leader.proofs.RaftPhases.{Keeps, OfRole}
use Rattle.service_candidate.proofs.VotesTaken.{raised_term, same_term}
use Rattle.service_calm.specs.Comes.{Delivers, delivery_of}
use Rattle.service_leader.proofs.Deliveries.{come, step_taken}
use Rattle.bus_spec.specs.Cluster.{Cluster, arrival_at, frame_at}

-- A server waits for the answer to its call: it lists member m, the pending call to m is this request, an append
-- request, and with it are kept its transfer ID and the moment at which it was made.
pub record WaitsForAppend (m id moment : ℕ) (request : Request) (t : AllocatorState) : Type 0 where
  pub listed : In m (members_of t)
  pub append : request.append ≡ true
  pub pending : t.raft_server.memory.pending m ≡ Some request
  pub kept : t.times.sending m ≡ Some (record { id = id; moment = moment })

-- what is stored of a term is no lower than it
pub least_term : (store : Store) (term : ℕ) → term ≤ (put_all store (term_puts store term)).term
least_term store term = elim (lt_tells store.term term) [
  | inl z ↦ let e = raised_term store term z.1 in omega (arith, e)
  | inr z ↦ let e = same_term store term z.1 in let low = z.1 in omega (arith, e, low)
]

module _ (n moment : ℕ) (y : SentTransfer) (request : Request) (says : AppendAnswer) (w : Cluster) (row : Row) (delivers : Delivers n y w row)
    (me : delivers.server.me ≡ n) (what : y.offer.what ≡ App) (read : append_answer_of y.offer.payload ≡ Some says)
    (waits : WaitsForAppend y.by y.offer.id moment request delivers.server) (soon : max delivers.server.now delivers.ms < moment + 1000) where
  abbrev t : AllocatorState
  t = delivers.server

  abbrev m : ℕ
  m = y.by

  abbrev number : ℕ
  number = w.rows + 1

  abbrev arrival : Arrival
  arrival = arrival_at (frame_at w.frames delivers.k) delivers.ms

  -- as the answer comes
  abbrev g : StepState
  g = come n y w row delivers

  abbrev taken : Answer
  taken = answer_of y.step m request says.term says.success

  its : IsAwaited y request t g
  its = comes_awaited n moment y request w row delivers waits.listed waits.pending waits.kept soon

  step_is : step t number (Rx arrival) ≡ with_end_phase number (took (answers_call number (append_answered (delivery_of y) says) (Some request) g))
  step_is = step_taken n y w row delivers me ∙ ap (λ (s : StepResult). with_end_phase number s) (append_ends number y request t g its says what read waits.append)

  abbrev moved : StepState
  moved = with_moves number (given_at g.allocator.now) (TakeAppendAnswer taken ∷ []) g

  -- the term of the answer, or a higher one
  abbrev IsRaised : Role → ℕ → (ℕ → Bool) → Type 0
  IsRaised role term votes = says.term ≤ term

  raised : Keeps (OfRole IsRaised) moved
  raised = least_term g.allocator.raft_server.store says.term

  pub learns : says.term ≤ (step t number (Rx arrival)).step_state.allocator.raft_server.store.term
  learns = to_end IsRaised (append_answered (delivery_of y) says) request t number (Rx arrival) g step_is raised
