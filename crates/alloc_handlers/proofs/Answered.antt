-- An answer to a call: where the call waits for it, it is taken.
use Rattle.std.proofs.Common.{◌≡◌, ℕ, Bool, true, false, [], ◌∷◌, Option, Some, None, Result, Ok, if◌then◌else◌, refl, sym, ap, subst, ◌∙◌}
use Rattle.alloc_handlers.proofs.Words.{Durable, Fault, Ghosts, GoesTo, IsInStep, IsReady, MakesMoves, Member, Move, Offered, PutsGoOn, Raft, Request, Sending, StepState, answers_call, awaits, given_at, is_awaited, members_of, raft_me, result_err, with_blank}
use Rattle.alloc_handlers.proofs.Taking.{is_step_state, made_moves}

none_awaits : (sending : Option Sending) (append : Bool) (id : ℕ) → awaits None sending append id ≡ true → ⊥
none_awaits sending append id is = cc

module _ {D : Type 0} {disk : Ghosts D} {start durable : Durable D disk} {old : Member D disk} {raft : Raft} {g : StepState} {result : Result Bool Fault}
    (ready : IsReady old) (h : IsInStep start old g) (laws : PutsGoOn D disk) (step from id : ℕ) (append : Bool) (move : Request → Move)
    (refused : is_awaited g.allocator.raft_server g.allocator.times from append id ≡ false → (result ≡ Ok false) × (raft ≡ old.raft) × (durable ≡ old.durable))
    (taken : is_awaited g.allocator.raft_server g.allocator.times from append id ≡ true → (request : Request) → g.allocator.raft_server.memory.pending from ≡ Some request
    → MakesMoves (members_of g.allocator) (raft_me old.raft) step (given_at old.latest) (with_blank (members_of g.allocator) (raft_me old.raft) step g.allocator.times g.allocator.raft_server (move request ∷ [])) g.allocator.raft_server g.allocator.times old.durable durable raft (result_err result)) where
  abbrev Comes : StepState → Type 0
  Comes later = GoesTo start (record old { durable = durable; raft = raft }) later (result_err result)

  unanswered : (result ≡ Ok false) × (raft ≡ old.raft) × (durable ≡ old.durable) → Comes g
  unanswered same =
      subst (λ (f : Option Fault). GoesTo start (record old { durable = durable; raft = raft }) g f) (sym (ap result_err same.0))
      (subst (λ (d : Durable D disk). GoesTo start (record old { durable = d; raft = raft }) g None) (sym same.2)
      (subst (λ (r : Raft). GoesTo start (record old { raft = r }) g None) (sym same.1) (is_step_state h)))

  by_pending : (pending : Option Request) → g.allocator.raft_server.memory.pending from ≡ pending → is_awaited g.allocator.raft_server g.allocator.times from append id ≡ true → Comes (answers_call step move pending g)
  by_pending None is awaited = absurd (none_awaits (g.allocator.times.sending from) append id (ap (λ (p : Option Request). awaits p (g.allocator.times.sending from) append id) (sym is) ∙ awaited))
  by_pending (Some request) is awaited = made_moves ready h laws step given_at (λ me. with_blank (members_of g.allocator) me step g.allocator.times g.allocator.raft_server (move request ∷ [])) (taken awaited request is)

  by_awaited : (b : Bool) → is_awaited g.allocator.raft_server g.allocator.times from append id ≡ b → Comes (if b then answers_call step move (g.allocator.raft_server.memory.pending from) g else g)
  by_awaited true is = by_pending (g.allocator.raft_server.memory.pending from) refl is
  by_awaited false is = unanswered (refused is)

  pub ended_call : Comes (if is_awaited g.allocator.raft_server g.allocator.times from append id then answers_call step move (g.allocator.raft_server.memory.pending from) g else g)
  ended_call = by_awaited (is_awaited g.allocator.raft_server g.allocator.times from append id) refl
