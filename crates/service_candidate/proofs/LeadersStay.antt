-- A leader leads on through a step, or its term rises: whatever comes.
use Rattle.std.proofs.Common.{◌≡◌, ℕ, ◌+◌, ◌<◌, ◌≤◌, arith, List, Option, None, Some, inl, inr, refl, sym, ap, subst}
use Rattle.std.specs.Prelude.{◌⊎◌}
use Rattle.dsdl_codec.specs.declared.append_answer.AppendAnswer.{AppendAnswer}
use Rattle.dsdl_codec.specs.declared.append_request.AppendRequest.{AppendRequest}
use Rattle.dsdl_codec.specs.declared.vote_answer.VoteAnswer.{VoteAnswer}
use Rattle.dsdl_codec.specs.declared.vote_request.VoteRequest.{VoteRequest}
use Rattle.dsdl_codec.specs.AppendAnswer.{append_answer_of}
use Rattle.dsdl_codec.specs.AppendRequest.{append_request_of}
use Rattle.dsdl_codec.specs.VoteAnswer.{vote_answer_of}
use Rattle.dsdl_codec.specs.VoteRequest.{vote_request_of}
use Rattle.raft_model.specs.Moves.{Move, puts}
use Rattle.raft_model.specs.Moves.Appending.{append_puts}
use Rattle.raft_model.specs.Moves.Elections.{grant_puts, with_term}
use Rattle.raft_model.specs.Moves.Move.{AnswerAgain, CallForVote, CallToAppend, CommitTo, GiveUp, ProposeEntry, TakeAppendAnswer, TakeAppendRequest, TakeVoteAnswer, TakeVoteRequest, TellNothing, TellPair, TimeOut}
use Rattle.raft_model.specs.Handlers.{server_after}
use Rattle.raft_model.specs.Server.{RaftServer, Store}
use Rattle.raft_model.specs.Server.Role.{Leader}
use Rattle.transfer_rx.specs.Reassembly.{Answer as Received, Continues, Delivery, Drops, Gives, answer}
use Rattle.alloc_spec.specs.Accepted.{setting_for}
use Rattle.alloc_spec.specs.AllocatorState.{AllocatorState}
use Rattle.alloc_spec.specs.Step.{Event, step}
use Rattle.alloc_spec.specs.Step.Event.{Rx, Tick}
use Rattle.alloc_spec_laws.proofs.Choices.{lt_tells}
use Rattle.service_steps.specs.Requests.{moment_at}
use Rattle.service_steps.proofs.LeadsOn.{leads_on_at_ticks}
use Rattle.service_leader.proofs.TermsKept.{BringsWithin, IsKeptByMoves, TellsWithin, kept_at_frame}
use Rattle.service_leader.proofs.TermsRoles.{LeadsAt, leads_through}
use Rattle.service_leader.proofs.TermsSaid.{answered, append_rises, grant_rises, puts_rise, risen}

-- ---- moves

-- the server leads in this term, or is in a higher one
abbrev pub LeadsOrRises : ℕ → RaftServer → Type 0
LeadsOrRises top server = LeadsAt top server ⊎ (top < server.store.term)

-- who hears a term is in no lower one
pub least_term : (store : Store) (k : ℕ) → k ≤ (with_term store k).term
least_term store k = elim (lt_tells store.term k) [
  | inl z ↦ rw (z.0) omega arith
  | inr z ↦ rw (z.0) z.1
]

module _ (most top : ℕ) where
  -- a term is not above, or the server is above `top` behind the move
  heard : (members : List ℕ) (me number : ℕ) (server : RaftServer) (move : Move) (term : ℕ) → (term ≤ top → BringsWithin top server move)
      → term ≤ (server_after members me number server move).store.term → LeadsAt top server → LeadsOrRises top (server_after members me number server move)
  heard members me number server move term brings reached leads = elim (lt_tells top term) [
    | inl z ↦ inr (omega (arith, z.1, reached))
    | inr z ↦ inl (leads_through top members me number server move (brings z.1) leads)
  ]

  leads_or_rises : IsKeptByMoves most (LeadsOrRises top)
  leads_or_rises members me number server move is (inr above) =
      let r = risen (puts members me server move) server.store (puts_rise members me server move) in inr (omega (arith, r, above))
  leads_or_rises members me number server TimeOut is (inl leads) = absurd is
  leads_or_rises members me number server (TakeVoteRequest request granted) is (inl leads) =
      heard members me number server (TakeVoteRequest request granted) request.term (λ low. low)
      (let l = least_term server.store request.term in
      let a = answered server request.term (grant_puts (with_term server.store request.term) request granted)
      (grant_rises (with_term server.store request.term) request granted (with_term server.store request.term).term) in omega (arith, l, a)) leads
  leads_or_rises members me number server (TakeVoteAnswer got) is (inl leads) =
      heard members me number server (TakeVoteAnswer got) got.term (λ low. low) (least_term server.store got.term) leads
  leads_or_rises members me number server (TakeAppendRequest request verdict) is (inl leads) =
      heard members me number server (TakeAppendRequest request verdict) request.term (λ low. (low, is.1))
      (let l = least_term server.store request.term in
      let a = answered server request.term (append_puts (with_term server.store request.term) request verdict)
      (append_rises (with_term server.store request.term) request verdict (with_term server.store request.term).term) in omega (arith, l, a)) leads
  leads_or_rises members me number server (TakeAppendAnswer got) is (inl leads) =
      heard members me number server (TakeAppendAnswer got) got.term (λ low. low) (least_term server.store got.term) leads
  leads_or_rises members me number server (ProposeEntry entry) is (inl leads) = inl (leads_through top members me number server (ProposeEntry entry) tt leads)
  leads_or_rises members me number server (CommitTo index) is (inl leads) = inl (leads_through top members me number server (CommitTo index) tt leads)
  leads_or_rises members me number server TellPair is (inl leads) = inl (leads_through top members me number server TellPair tt leads)
  leads_or_rises members me number server TellNothing is (inl leads) = inl (leads_through top members me number server TellNothing tt leads)
  leads_or_rises members me number server (CallForVote peer) is (inl leads) = inl (leads_through top members me number server (CallForVote peer) tt leads)
  leads_or_rises members me number server (CallToAppend peer previous with_entry) is (inl leads) =
      inl (leads_through top members me number server (CallToAppend peer previous with_entry) tt leads)
  leads_or_rises members me number server (AnswerAgain place) is (inl leads) = inl (leads_through top members me number server (AnswerAgain place) tt leads)
  leads_or_rises members me number server (GiveUp peer) is (inl leads) = inl (leads_through top members me number server (GiveUp peer) tt leads)

-- ---- steps

-- the term of what is read, if something is
abbrev term_in : {A : Type 0} → (A → ℕ) → Option A → ℕ
term_in term None = 0
term_in term (Some a) = term a

term_is : {A : Type 0} (term : A → ℕ) (o : Option A) (a : A) → o ≡ Some a → term_in term o ≡ term a
term_is term o a e = ap (term_in term) e

-- no term that a delivery tells is above this
abbrev most_in : Delivery → ℕ
most_in d = (term_in (λ (m : AppendRequest). m.term) (append_request_of d.payload) + term_in (λ (m : VoteRequest). m.term) (vote_request_of d.payload))
    + (term_in (λ (m : AppendAnswer). m.term) (append_answer_of d.payload) + term_in (λ (m : VoteAnswer). m.term) (vote_answer_of d.payload))

abbrev most_of : Received → ℕ
most_of (Gives d) = most_in d
most_of Continues = 0
most_of (Drops why) = 0

tells_most : (d : Delivery) → TellsWithin (most_in d) d
tells_most d = record {
  append_request = λ kind number message read.
      let e = term_is (λ (m : AppendRequest). m.term) (append_request_of d.payload) message read in omega (arith, e);
  vote_request = λ kind one thirty message read.
      let e = term_is (λ (m : VoteRequest). m.term) (vote_request_of d.payload) message read in omega (arith, e);
  append_answer = λ kind number message read.
      let e = term_is (λ (m : AppendAnswer). m.term) (append_answer_of d.payload) message read in omega (arith, e);
  vote_answer = λ kind one thirty message read.
      let e = term_is (λ (m : VoteAnswer). m.term) (vote_answer_of d.payload) message read in omega (arith, e);
}

-- a leader leads on, or is in a higher term behind the step
pub leader_steps : (t : AllocatorState) (number : ℕ) (event : Event) → t.raft_server.memory.role ≡ Leader
    → ((step t number event).step_state.allocator.raft_server.memory.role ≡ Leader)
    ⊎ (t.raft_server.store.term < (step t number event).step_state.allocator.raft_server.store.term)
leader_steps t number (Tick now word) leads = inl (leads_on_at_ticks t number now word leads)
leader_steps t number (Rx arrival) leads =
    let got : Received = answer (setting_for t.me) t.sessions (record arrival { moment = moment_at t arrival }) in
    elim (kept_at_frame number (most_of got) (LeadsOrRises t.raft_server.store.term) (leads_or_rises (most_of got) t.raft_server.store.term) t arrival (inl (leads, refl))
    (λ d gives. subst (λ (r : Received). TellsWithin (most_of r) d) (sym gives) (tells_most d))) [
      | inl still ↦ inl still.0
      | inr rises ↦ inr rises
    ]
