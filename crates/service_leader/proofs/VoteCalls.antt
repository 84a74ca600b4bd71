-- A candidate asks a peer for its vote, unless a call to it is pending or it has answered.
use Rattle.std.proofs.Common.{◌≡◌, ℕ, true, false, [], ◌∷◌, refl, sym, subst, Option, None, Some}
use Rattle.can_frame.specs.declared.step.What.TheVariants.{VoteQ}
use Rattle.raft_core.specs.Calls.{due, due_unless}
use Rattle.raft_core.specs.Times.{given_call}
use Rattle.raft_model.specs.Messages.{Request}
use Rattle.raft_model.specs.Messages.Message.{Requests}
use Rattle.raft_model.specs.Moves.{Move}
use Rattle.raft_model.specs.Moves.Leading.{vote_request}
use Rattle.raft_model.specs.Moves.Move.{CallForVote}
use Rattle.raft_model.specs.Server.{Role}
use Rattle.raft_model.specs.Server.Role.{Candidate}
use Rattle.alloc_spec.specs.Ending.{calls_owed, calls_peer, vote_call_bytes}
use Rattle.alloc_spec.specs.StepState.{StepState, with_moves, with_transfer}
use Rattle.alloc_spec.specs.Transfers.{Offer, has_room, id_of}
use Rattle.alloc_spec_laws.proofs.Choices.{either}

module _ (number q : ℕ) (g : StepState) where
  -- the request to the peer
  abbrev pub vote_asked : Request
  vote_asked = vote_request g.allocator.me number g.allocator.raft_server.store q

  -- its offer
  abbrev pub vote_offer : Offer
  vote_offer = record {
    what = VoteQ;
    to = q;
    id = id_of g.allocator.ids VoteQ q;
    payload = vote_call_bytes vote_asked;
    re = 0;
    says = Some (Requests vote_asked);
    fitted = has_room g.allocator.queue (vote_call_bytes vote_asked);
  }

  -- the step as it is when the request was offered, and when the call was made
  abbrev pub vote_offered : StepState
  vote_offered = with_transfer number VoteQ q (vote_call_bytes vote_asked) (Some (Requests vote_asked)) g

  abbrev pub vote_called : StepState
  vote_called = with_moves number (given_call g.allocator.now (id_of g.allocator.ids VoteQ q)) (CallForVote q ∷ []) vote_offered

  -- what the call leaves, case by case
  pub candidate_calls : (P : StepState → Type 0) → ((r : Request) → g.allocator.raft_server.memory.pending q ≡ Some r → P g)
      → (g.allocator.times.answered q ≡ true → P g) → (vote_offer.fitted ≡ true → P vote_called) → (vote_offer.fitted ≡ false → P vote_offered)
      → g.allocator.raft_server.memory.role ≡ Candidate → P (calls_peer number q g)
  candidate_calls P some answered fits none role = subst (λ (r : Role). P (calls_owed number
      (due_unless (g.allocator.raft_server.memory.pending q) (due r g.allocator.raft_server g.allocator.times q g.allocator.now)) g))
      (sym role) (go (g.allocator.raft_server.memory.pending q) refl)
    where
      go : (p : Option Request) → g.allocator.raft_server.memory.pending q ≡ p
          → P (calls_owed number (due_unless p (due Candidate g.allocator.raft_server g.allocator.times q g.allocator.now)) g)
      go (Some r) e = some r e
      go None e = either (λ (call : Option Move). P (calls_owed number call g)) (g.allocator.times.answered q) None (Some (CallForVote q)) answered
          (λ a. either P (has_room g.allocator.queue (vote_call_bytes vote_asked)) vote_called vote_offered fits none)
