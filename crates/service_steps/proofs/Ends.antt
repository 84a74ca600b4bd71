-- What the end of a step keeps.
use Rattle.std.proofs.Common.{◌≡◌, ℕ, Bool, true, List, [], ◌∷◌, drop, Option, Some, None}
use Rattle.can_frame.specs.declared.step.What.{What}
use Rattle.can_frame.specs.declared.step.What.TheVariants.{Alloc, AppQ, VoteQ}
use Rattle.raft_core.specs.Calls.{owed}
use Rattle.raft_core.specs.Times.{HandedIn, given_at, given_call}
use Rattle.raft_model.specs.Messages.{Message, Request}
use Rattle.raft_model.specs.Messages.Message.{Requests}
use Rattle.raft_model.specs.Moves.{Move, next_entry}
use Rattle.raft_model.specs.Moves.Leading.{append_request, vote_request}
use Rattle.raft_model.specs.Moves.Move.{CallForVote, CallToAppend, TellNothing, TellPair}
use Rattle.alloc_spec.specs.Ending.{append_call_bytes, call_phase, calls_all, calls_owed, calls_peer, commit_phase, end_phase, has_to_tell, tell_phase, tells_next, vote_call_bytes}
use Rattle.alloc_spec.specs.Exchange.{allocation_payload, gives_pair}
use Rattle.alloc_spec.specs.StepState.{StepState, with_moves, with_transfer}
use Rattle.alloc_spec.specs.AllocatorState.{is_zero, members_of}
use Rattle.alloc_spec.specs.Transfers.{has_room, id_of}
use Rattle.alloc_spec_laws.proofs.Choices.{either}

-- the moves of telling and calling change nothing of it, nor does a transfer that is offered
pub record IsKept (number : ℕ) (Keeps : StepState → Type 0) : Type 0 where
  pub passes : (g : StepState) → has_to_tell g.allocator.raft_server ≡ true → Keeps g
      → Keeps (with_moves number (given_at g.allocator.now) (TellNothing ∷ []) g)
  pub tells : (given : HandedIn) (g : StepState) → has_to_tell g.allocator.raft_server ≡ true → Keeps g
      → Keeps (with_moves number given (TellPair ∷ []) g)
  pub votes : (given : HandedIn) (peer : ℕ) (g : StepState) → Keeps g → Keeps (with_moves number given (CallForVote peer ∷ []) g)
  pub appends : (given : HandedIn) (peer previous : ℕ) (with_entry : Bool) (g : StepState) → Keeps g
      → Keeps (with_moves number given (CallToAppend peer previous with_entry ∷ []) g)
  pub sends : (what : What) (to : ℕ) (payload : List ℕ) (says : Option Message) (g : StepState) → Keeps g
      → Keeps (with_transfer number what to payload says g)

module _ (number : ℕ) (Keeps : StepState → Type 0) (k : IsKept number Keeps) where
  pub tell_keeps : (g : StepState) → Keeps g → Keeps (tell_phase number g)
  tell_keeps g h =
      let payload : List ℕ = allocation_payload (next_entry g.allocator.raft_server).node (next_entry g.allocator.raft_server).uid in
      either Keeps (has_to_tell g.allocator.raft_server) (tells_next number g) g
      (λ e. either Keeps (is_zero (next_entry g.allocator.raft_server).uid)
      (with_moves number (given_at g.allocator.now) (TellNothing ∷ []) g) (gives_pair number TellPair g.allocator.raft_server.memory.told g)
      (λ z. k.passes g e h)
      (λ z. either Keeps (has_room g.allocator.queue payload)
      (with_moves number (given_at g.allocator.now) (TellPair ∷ []) (with_transfer number Alloc 0 payload None g))
      (with_transfer number Alloc 0 payload None g)
      (λ r. k.tells (given_at g.allocator.now) (with_transfer number Alloc 0 payload None g) e (k.sends Alloc 0 payload None g h))
      (λ r. k.sends Alloc 0 payload None g h))) (λ e. h)

  owed_keeps : (call : Option Move) (g : StepState) → Keeps g → Keeps (calls_owed number call g)
  owed_keeps None g h = h
  owed_keeps (Some (CallForVote peer)) g h =
      let request : Request = vote_request g.allocator.me number g.allocator.raft_server.store peer in
      let s = k.sends VoteQ peer (vote_call_bytes request) (Some (Requests request)) g h in
      either Keeps (has_room g.allocator.queue (vote_call_bytes request)) _ _ (λ e. k.votes (given_call g.allocator.now (id_of g.allocator.ids VoteQ peer)) peer _ s) (λ e. s)
  owed_keeps (Some (CallToAppend peer previous with_entry)) g h =
      let request : Request = append_request g.allocator.me number g.allocator.raft_server.store peer previous with_entry in
      let s = k.sends AppQ peer (append_call_bytes request) (Some (Requests request)) g h in
      either Keeps (has_room g.allocator.queue (append_call_bytes request)) _ _ (λ e. k.appends (given_call g.allocator.now (id_of g.allocator.ids AppQ peer)) peer previous with_entry _ s) (λ e. s)
  owed_keeps (Some move) g h = h

  pub calls_keep : (peers : List ℕ) (g : StepState) → Keeps g → Keeps (calls_all number peers g)
  calls_keep [] g h = h
  calls_keep (peer ∷ peers) g h = calls_keep peers (calls_peer number peer g)
      (owed_keeps (owed g.allocator.raft_server g.allocator.times peer g.allocator.now) g h)

  pub call_phase_keeps : (g : StepState) → Keeps g → Keeps (call_phase number g)
  call_phase_keeps g h = calls_keep (drop 1 (members_of g.allocator)) g h

  -- behind the commit
  pub rest_keeps : (g : StepState) → Keeps (commit_phase number g) → Keeps (end_phase number g)
  rest_keeps g h = call_phase_keeps (tell_phase number (commit_phase number g)) (tell_keeps (commit_phase number g) h)
