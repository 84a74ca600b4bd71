-- The answer that comes in time to a call is the one for which the caller waits.
use Rattle.std.proofs.Common.{◌≡◌, ℕ, ◌+◌, ◌<◌, arith, Bool, true, false, List, [], ◌∷◌, refl, sym, ◌∙◌, ap, subst, inl, inr, Option, None, Some}
use Rattle.std.specs.Prelude.{◌-◌, ◌==◌, ◌&&◌, max, not, if◌then◌else◌}
use Rattle.std.proofs.lemmas.Bool.Decides.{leb_tells}
use Rattle.can_frame.specs.declared.step.What.TheVariants.{App, Vote}
use Rattle.dsdl_codec.specs.declared.append_answer.AppendAnswer.{AppendAnswer}
use Rattle.dsdl_codec.specs.declared.vote_answer.VoteAnswer.{VoteAnswer}
use Rattle.dsdl_codec.specs.AppendAnswer.{append_answer_of}
use Rattle.dsdl_codec.specs.VoteAnswer.{vote_answer_of}
use Rattle.raft_core.specs.Handled.{moves_of_expire}
use Rattle.raft_core.specs.Times.{HandedIn, Sending, Times, awaits, given_at, is_awaited, is_overdue, overdue, times_after, times_after_all}
use Rattle.raft_model.specs.Handlers.{server_after, server_after_all}
use Rattle.raft_model.specs.Lists.{In, at_other}
use Rattle.raft_model.specs.Messages.{Request}
use Rattle.raft_model.specs.Moves.{Move}
use Rattle.raft_model.specs.Moves.Move.{GiveUp}
use Rattle.raft_model.specs.Server.{RaftServer, Role}
use Rattle.bus_rows.specs.declared.row.Row.{Row}
use Rattle.alloc_spec.specs.AllocatorState.{AllocatorState, members_of}
use Rattle.alloc_spec.specs.Delivered.{StepResult, delivery_phase, took}
use Rattle.alloc_spec.specs.Services.{answers_call, append_answered, is_listed, vote_answered}
use Rattle.alloc_spec.specs.Step.{Event, all_nodes, at_moment, begin_phase, step, with_end_phase}
use Rattle.alloc_spec.specs.StepState.{StepState, with_moves}
use Rattle.alloc_spec.specs.Transfers.{SentTransfer, kind_of, number_of}
use Rattle.alloc_spec.proofs.Blanks.{move_with_blank}
use Rattle.alloc_spec_laws.proofs.Choices.{either}
use Rattle.service_steps.proofs.FollowUps.{same_number}
use Rattle.service_leader.proofs.Deliveries.{answer_taken, come, vote_answer_taken}
use Rattle.service_leader.proofs.RaftPhases.{Keeps, OfRole, at_end, role_ends}
use Rattle.service_calm.specs.Comes.{Delivers, delivery_of}
use Rattle.service_calm.proofs.Calls.{on_list}
use Rattle.bus_spec.specs.Cluster.{Cluster}

-- ---- calls that are given up

-- who is not overdue is not among those that are given up
pub not_given_up : (times : Times) (now m : ℕ) → is_overdue (times.sending m) now ≡ false → (nodes : List ℕ) → In m (overdue times now nodes) → ⊥
not_given_up times now m young [] = λ i. i
not_given_up times now m young (node ∷ nodes) =
    either (λ (l : List ℕ). In m l → ⊥) (is_overdue (times.sending node) now) (node ∷ overdue times now nodes) (overdue times now nodes)
    (λ e i. elim i [
      | inl same ↦ cc (sym young ∙ (ap (λ (k : ℕ). is_overdue (times.sending k) now) same ∙ e))
      | inr j ↦ not_given_up times now m young nodes j
    ])
    (λ e i. not_given_up times now m young nodes i)

-- what is kept of peer m while calls to others are given up
pub record KeepsCall (m : ℕ) (before now : RaftServer) (times then_times : Times) : Type 0 where
  pub pending : now.memory.pending m ≡ before.memory.pending m
  pub sending : then_times.sending m ≡ times.sending m
  pub matched : now.memory.matched ≡ before.memory.matched
  pub next : now.memory.next ≡ before.memory.next

pub kept_call : (m : ℕ) (list : List ℕ) (me number : ℕ) (given : HandedIn) (nodes : List ℕ) → (In m nodes → ⊥) → (server : RaftServer) (times : Times)
    → KeepsCall m server (server_after_all list me number server (moves_of_expire nodes)) times (times_after_all list me number given server (moves_of_expire nodes) times)
kept_call m list me number given [] out server times = record { pending = refl; sending = refl; matched = refl; next = refl }
kept_call m list me number given (node ∷ nodes) out server times =
    let rest = kept_call m list me number given nodes (λ i. out (inr i)) (server_after list me number server (GiveUp node))
    (times_after list me given server (GiveUp node) times) in record {
      pending = rest.pending ∙ at_other server.memory.pending node m None (λ e. out (inl e));
      sending = rest.sending ∙ at_other times.sending node m None (λ e. out (inl e));
      matched = rest.matched;
      next = rest.next;
    }

-- a call of less than the call timeout is not overdue
pub is_young : (call : Sending) (now : ℕ) → now < call.moment + 1000 → is_overdue (Some call) now ≡ false
is_young call now soon = elim (leb_tells 1000 (now - call.moment)) [
  | inl z ↦ absurd (omega (arith, z.1, soon))
  | inr z ↦ z.0
]

-- so what is kept of such a call is as before when a step has begun
pub young_kept : (t : AllocatorState) (number m now : ℕ) (sending : Sending) → t.times.sending m ≡ Some sending → max t.now now < sending.moment + 1000
    → KeepsCall m t.raft_server (begin_phase number now t).allocator.raft_server t.times (begin_phase number now t).allocator.times
young_kept t number m now sending kept soon =
    let young = ap (λ (s : Option Sending). is_overdue s (max t.now now)) kept ∙ is_young sending (max t.now now) soon in
    kept_call m (members_of (at_moment now t)) t.me number (given_at (max t.now now)) (overdue t.times (max t.now now) all_nodes)
    (not_given_up t.times (max t.now now) m young all_nodes) t.raft_server t.times

-- ---- the answer that is awaited

-- as an answer to a call comes, its maker is on the list, what is kept of the call is as before, and the answer is awaited
pub record IsAwaited (y : SentTransfer) (request : Request) (t : AllocatorState) (g : StepState) : Type 0 where
  pub listed : is_listed (delivery_of y) g.allocator ≡ true
  pub keeps : KeepsCall y.by t.raft_server g.allocator.raft_server t.times g.allocator.times
  pub pending : g.allocator.raft_server.memory.pending y.by ≡ Some request
  pub awaited : (append : Bool) → request.append ≡ append → is_awaited g.allocator.raft_server g.allocator.times y.by append y.offer.id ≡ true

-- so it is with each that comes before the call timeout
pub comes_awaited : (n moment : ℕ) (y : SentTransfer) (request : Request) (w : Cluster) (row : Row) (delivers : Delivers n y w row) → In y.by (members_of delivers.server)
    → delivers.server.raft_server.memory.pending y.by ≡ Some request
    → delivers.server.times.sending y.by ≡ Some (record { id = y.offer.id; moment = moment }) → max delivers.server.now delivers.ms < moment + 1000
    → IsAwaited y request delivers.server (come n y w row delivers)
comes_awaited n moment y request w row delivers listed waited kept soon =
    record { listed = on_list (members_of t) y.by listed; keeps = keeps; pending = keeps.pending ∙ waited; awaited = awaited }
  where
    t : AllocatorState
    t = delivers.server

    g : StepState
    g = come n y w row delivers

    keeps : KeepsCall y.by t.raft_server g.allocator.raft_server t.times g.allocator.times
    keeps = young_kept t (w.rows + 1) y.by delivers.ms (record { id = y.offer.id; moment = moment }) kept soon

    of_its_kind : (append : Bool) → request.append ≡ append → (if append then request.append else not request.append) ≡ true
    of_its_kind true e = e
    of_its_kind false e = ap not e

    awaited : (append : Bool) → request.append ≡ append → is_awaited g.allocator.raft_server g.allocator.times y.by append y.offer.id ≡ true
    awaited append e = (λ i. awaits ((keeps.pending ∙ waited) i) ((keeps.sending ∙ kept) i) append y.offer.id)
        ∙ (ap (λ (b : Bool). b && (y.offer.id == y.offer.id)) (of_its_kind append e) ∙ same_number y.offer.id)

-- ---- the call ends

module _ (number : ℕ) (y : SentTransfer) (request : Request) (t : AllocatorState) (g : StepState) (its : IsAwaited y request t g) where
  ends_call : (append : Bool) → request.append ≡ append → (move : Request → Move)
      → (if is_awaited g.allocator.raft_server g.allocator.times y.by append y.offer.id then answers_call number move (g.allocator.raft_server.memory.pending y.by) g else g)
      ≡ answers_call number move (Some request) g
  ends_call append e move = ap (λ (b : Bool). if b then answers_call number move (g.allocator.raft_server.memory.pending y.by) g else g) (its.awaited append e)
      ∙ ap (λ (p : Option Request). answers_call number move p g) its.pending

  -- by an append answer
  pub append_ends : (says : AppendAnswer) → y.offer.what ≡ App → append_answer_of y.offer.payload ≡ Some says → request.append ≡ true
      → delivery_phase number (delivery_of y) g ≡ took (answers_call number (append_answered (delivery_of y) says) (Some request) g)
  append_ends says what read append = answer_taken number (delivery_of y) says g (ap kind_of what) (ap number_of what) read its.listed
      ∙ ap took (ends_call true append (append_answered (delivery_of y) says))

  -- by a vote answer
  pub vote_ends : (says : VoteAnswer) → y.offer.what ≡ Vote → vote_answer_of y.offer.payload ≡ Some says → request.append ≡ false
      → delivery_phase number (delivery_of y) g ≡ took (answers_call number (vote_answered (delivery_of y) says) (Some request) g)
  vote_ends says what read vote = vote_answer_taken number (delivery_of y) says g (ap kind_of what) (ap number_of what) read its.listed
      ∙ ap took (ends_call false vote (vote_answered (delivery_of y) says))

-- what the move leaves of role, term and votes, the step leaves
pub to_end : (P : Role → ℕ → (ℕ → Bool) → Type 0) (move : Request → Move) (request : Request) (t : AllocatorState) (number : ℕ) (event : Event) (g : StepState)
    → step t number event ≡ with_end_phase number (took (answers_call number move (Some request) g))
    → Keeps (OfRole P) (with_moves number (given_at g.allocator.now) (move request ∷ []) g) → Keeps (OfRole P) (step t number event).step_state
to_end P move request t number event g is h = subst (λ (s : StepResult). Keeps (OfRole P) s.step_state) (sym is)
    (at_end number (OfRole P) (role_ends number P) (answers_call number move (Some request) g)
    (move_with_blank (Keeps (OfRole P)) number (given_at g.allocator.now) (move request) g h (λ blank. h)))
