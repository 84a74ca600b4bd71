-- An answer that comes in time to its call is taken by the caller.
use Rattle.std.proofs.Common.{◌≡◌, ℕ, ◌+◌, ◌<◌, arith, Bool, true, false, [], ◌∷◌, refl, sym, ◌∙◌, ap, subst, inl, inr, Option, None, Some}
use Rattle.std.specs.Prelude.{◌==◌, ◌&&◌, max, if◌then◌else◌}
use Rattle.std.proofs.lemmas.Bool.Decides.{eqb_tells}
use Rattle.can_frame.specs.declared.step.What.TheVariants.{App}
use Rattle.dsdl_codec.specs.declared.append_answer.AppendAnswer.{AppendAnswer}
use Rattle.dsdl_codec.specs.AppendAnswer.{append_answer_of}
use Rattle.raft_core.specs.Handled.{answer_of}
use Rattle.raft_core.specs.Times.{given_at}
use Rattle.raft_model.specs.Decisions.{commit_index}
use Rattle.raft_model.specs.Duty.{commit_moves}
use Rattle.raft_model.specs.Lists.{at, at_here, at_other}
use Rattle.raft_model.specs.Messages.{Answer, Request}
use Rattle.raft_model.specs.Moves.Appending.{acknowledges, matched_after, matched_memory, next_after}
use Rattle.raft_model.specs.Moves.Elections.{is_leader, memory_without_call, stepped_down}
use Rattle.raft_model.specs.Moves.Leading.{append_request, vote_request}
use Rattle.raft_model.specs.Moves.Move.{TakeAppendAnswer}
use Rattle.raft_model.specs.Server.{Memory, Store}
use Rattle.raft_model.specs.Server.Role.{Follower, Leader}
use Rattle.bus_rows.specs.declared.row.Row.{Row}
use Rattle.transfer_rx.specs.Reassembly.{Arrival}
use Rattle.alloc_spec.specs.AllocatorState.{AllocatorState, members_of}
use Rattle.alloc_spec.specs.Delivered.{StepResult, took}
use Rattle.alloc_spec.specs.Ending.{commit_phase}
use Rattle.alloc_spec.specs.Services.{answers_call, append_answered}
use Rattle.alloc_spec.specs.Step.{step, with_end_phase}
use Rattle.alloc_spec.specs.Step.Event.{Rx}
use Rattle.alloc_spec.specs.StepState.{StepState, with_moves}
use Rattle.alloc_spec.specs.Transfers.{SentTransfer}
use Rattle.alloc_spec.proofs.Blanks.{move_with_blank}
use Rattle.alloc_spec_laws.proofs.Choices.{lt_tells}
use Rattle.service_steps.proofs.Begins.{IsAsBefore}
use Rattle.service_steps.proofs.Ends.{IsKept, rest_keeps}
use Rattle.service_steps.proofs.FollowUps.{begun, same_number}
use Rattle.service_leader.specs.Answers.{TakesAnswer, WaitsForAnswer}
use Rattle.service_calm.specs.Comes.{Delivers, delivery_of}
use Rattle.service_leader.proofs.AnswersAwaited.{IsAwaited, append_ends, comes_awaited, to_end}
use Rattle.service_leader.proofs.Deliveries.{come, step_taken}
use Rattle.bus_spec.specs.Cluster.{Cluster, arrival_at, frame_at}

-- ---- as the step ends

-- what is known of peer m, and that a call to it that is pending is a new one
abbrev Known : (number m matched next : ℕ) → StepState → Type 0
Known number m matched next g = (g.allocator.raft_server.memory.matched m ≡ matched) × (g.allocator.raft_server.memory.next m ≡ next)
    × ((again : Request) → g.allocator.raft_server.memory.pending m ≡ Some again → again.step ≡ number)

new_call : (number m peer : ℕ) (pending : ℕ → Option Request) (request : Request) → request.step ≡ number
    → ((again : Request) → pending m ≡ Some again → again.step ≡ number) → (again : Request) → at pending peer (Some request) m ≡ Some again → again.step ≡ number
new_call number m peer pending request is old again e = elim (eqb_tells m peer) [
  | inl z ↦ by (sym (at_here pending peer m (Some request) z.1) ∙ e)
  | inr z ↦ old again (sym (at_other pending peer m (Some request) z.1) ∙ e)
]
  where
    by : Some request ≡ Some again → again.step ≡ number
    by f = let same : request ≡ again = cc f in ap (λ (r : Request). r.step) (sym same) ∙ is

known_kept : (number m matched next : ℕ) → IsKept number (Known number m matched next)
known_kept number m matched next = record {
  passes = λ g e h. h;
  tells = λ given g e h. h;
  votes = λ given peer g h. (
    h.0,
    h.1,
    new_call number m peer g.allocator.raft_server.memory.pending (vote_request g.allocator.me number g.allocator.raft_server.store peer) refl h.2,
  );
  appends = λ given peer previous with_entry g h. (
    h.0,
    h.1,
    new_call number m peer g.allocator.raft_server.memory.pending
        (append_request g.allocator.me number g.allocator.raft_server.store peer previous with_entry) refl h.2,
  );
  sends = λ what to payload says g h. h;
}

-- a commit leaves the memory
committing : (P : Memory → Type 0) (number : ℕ) (g : StepState) → P g.allocator.raft_server.memory → P (commit_phase number g).allocator.raft_server.memory
committing P number g h = by (is_leader g.allocator.raft_server.memory.role) (commit_index (members_of g.allocator) g.allocator.me g.allocator.raft_server)
  where
    by : (leads : Bool) (index : Option ℕ) → P (with_moves number (given_at g.allocator.now) (if leads then commit_moves index else []) g).allocator.raft_server.memory
    by true None = h
    by true (Some index) = h
    by false index = h

-- ---- the move

module _ (n moment : ℕ) (y : SentTransfer) (request : Request) (says : AppendAnswer) (w : Cluster) (row : Row) (delivers : Delivers n y w row)
    (me : delivers.server.me ≡ n) (what : y.offer.what ≡ App) (read : append_answer_of y.offer.payload ≡ Some says)
    (waits : WaitsForAnswer y.by y.offer.id moment request delivers.server) (soon : max delivers.server.now delivers.ms < moment + 1000) where
  abbrev t : AllocatorState
  t = delivers.server

  abbrev m : ℕ
  m = y.by

  abbrev number : ℕ
  number = w.rows + 1

  abbrev arrival : Arrival
  arrival = arrival_at (frame_at w.frames delivers.k) delivers.ms

  -- as the answer comes
  abbrev g : StepState
  g = come n y w row delivers

  abbrev taken : Answer
  taken = answer_of y.step m request says.term says.success

  before : IsAsBefore t.raft_server g.allocator.raft_server
  before = begun t number arrival

  its : IsAwaited y request t g
  its = comes_awaited n moment y request w row delivers waits.listed waits.pending waits.kept soon

  step_is : step t number (Rx arrival) ≡ with_end_phase number (took (answers_call number (append_answered (delivery_of y) says) (Some request) g))
  step_is = step_taken n y w row delivers me ∙ ap (λ (s : StepResult). with_end_phase number s) (append_ends number y request t g its says what read waits.append)

  abbrev moved : StepState
  moved = with_moves number (given_at g.allocator.now) (TakeAppendAnswer taken ∷ []) g

  same_term : g.allocator.raft_server.store.term ≡ request.term
  same_term = ap (λ (s : Store). s.term) before.store ∙ sym waits.term

  leads : g.allocator.raft_server.memory.role ≡ Leader
  leads = before.role ∙ waits.leads

  -- an answer of its own term counts
  module _ (equal : says.term ≡ request.term) where
    memory_is : moved.allocator.raft_server.memory ≡ matched_memory g.allocator.raft_server.memory taken
    memory_is = elim (lt_tells g.allocator.raft_server.store.term says.term) [
      | inl z ↦ absurd (omega (arith, z.1, equal, same_term))
      | inr z ↦ ap (λ (b : Bool). if b then stepped_down g.allocator.raft_server.memory m else (if acknowledges g.allocator.raft_server taken
          then matched_memory g.allocator.raft_server.memory taken else memory_without_call g.allocator.raft_server.memory m)) z.0
          ∙ ap (λ (b : Bool). if b then matched_memory g.allocator.raft_server.memory taken else memory_without_call g.allocator.raft_server.memory m) counts
    ]
      where
        counts : acknowledges g.allocator.raft_server taken ≡ true
        counts = (λ i. is_leader (leads i) && (equal i == same_term i)) ∙ same_number request.term

    known : Known number m (matched_after t.raft_server.memory taken) (next_after t.raft_server.memory taken) moved
    known = subst (λ (memory : Memory). (memory.matched m ≡ matched_after t.raft_server.memory taken) × (memory.next m ≡ next_after t.raft_server.memory taken)
        × ((again : Request) → memory.pending m ≡ Some again → again.step ≡ number)) (sym memory_is) (
          at_here g.allocator.raft_server.memory.matched m m (matched_after g.allocator.raft_server.memory taken) refl ∙ same_matched,
          at_here g.allocator.raft_server.memory.next m m (next_after g.allocator.raft_server.memory taken) refl ∙ same_next,
          λ again e. absurd (cc (sym (at_here g.allocator.raft_server.memory.pending m m None refl) ∙ e)),
        )
      where
        same_matched : matched_after g.allocator.raft_server.memory taken ≡ matched_after t.raft_server.memory taken
        same_matched = ap (λ (f : ℕ → ℕ). matched_after (record t.raft_server.memory { matched = f }) taken) its.keeps.matched

        same_next : next_after g.allocator.raft_server.memory taken ≡ next_after t.raft_server.memory taken
        same_next = λ i. next_after (record t.raft_server.memory { matched = its.keeps.matched i; next = its.keeps.next i }) taken

    known_then : Known number m (matched_after t.raft_server.memory taken) (next_after t.raft_server.memory taken)
        (answers_call number (append_answered (delivery_of y) says) (Some request) g)
    known_then = move_with_blank (Known number m (matched_after t.raft_server.memory taken) (next_after t.raft_server.memory taken)) number (given_at g.allocator.now)
        (TakeAppendAnswer taken) g known (λ blank. known)

    pub takes : TakesAnswer number taken t (step t number (Rx arrival)).step_state.allocator
    takes = record { own_term = equal ∙ waits.term; waited = waits.pending; matched = at_end.0; next = at_end.1; ended = at_end.2 }
      where
        at_end : Known number m (matched_after t.raft_server.memory taken) (next_after t.raft_server.memory taken) (step t number (Rx arrival)).step_state
        at_end = subst (λ (s : StepResult). Known number m (matched_after t.raft_server.memory taken) (next_after t.raft_server.memory taken) s.step_state) (sym step_is)
            (rest_keeps number (Known number m (matched_after t.raft_server.memory taken) (next_after t.raft_server.memory taken))
            (known_kept number m (matched_after t.raft_server.memory taken) (next_after t.raft_server.memory taken))
            (answers_call number (append_answered (delivery_of y) says) (Some request) g)
            (committing (λ memory. (memory.matched m ≡ matched_after t.raft_server.memory taken) × (memory.next m ≡ next_after t.raft_server.memory taken)
            × ((again : Request) → memory.pending m ≡ Some again → again.step ≡ number)) number
            (answers_call number (append_answered (delivery_of y) says) (Some request) g) known_then))

  -- one of a higher term makes a follower
  module _ (higher : request.term < says.term) where
    down : moved.allocator.raft_server.memory.role ≡ Follower
    down = elim (lt_tells g.allocator.raft_server.store.term says.term) [
      | inl z ↦ ap (λ (b : Bool). (if b then stepped_down g.allocator.raft_server.memory m else (if acknowledges g.allocator.raft_server taken
          then matched_memory g.allocator.raft_server.memory taken else memory_without_call g.allocator.raft_server.memory m)).role) z.0
      | inr z ↦ absurd (omega (arith, z.1, higher, same_term))
    ]

    pub steps_down : (step t number (Rx arrival)).step_state.allocator.raft_server.memory.role ≡ Follower
    steps_down = to_end (λ role term votes. role ≡ Follower) (append_answered (delivery_of y) says) request t number (Rx arrival) g step_is down
