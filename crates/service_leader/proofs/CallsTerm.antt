-- Each append request that a step offers says the term that its server has when the step is over.
use Rattle.std.proofs.Common.{◌≡◌, ℕ, ◌≤◌, arith, List, [], ◌∷◌, ◌++◌, drop, sym, ap, subst, inl, inr, Option, None, Some}
use Rattle.can_frame.specs.declared.step.What.{What}
use Rattle.can_frame.specs.declared.step.What.TheVariants.{AppQ, VoteQ}
use Rattle.raft_core.specs.Calls.{owed}
use Rattle.raft_model.specs.Lists.{In}
use Rattle.raft_model.specs.Messages.{Message, Request}
use Rattle.raft_model.specs.Messages.Message.{Requests}
use Rattle.raft_model.specs.Moves.{Move}
use Rattle.raft_model.specs.Moves.Leading.{append_request, vote_request}
use Rattle.raft_model.specs.Moves.Move.{CallForVote, CallToAppend}
use Rattle.alloc_spec.specs.AllocatorState.{AllocatorState, members_of}
use Rattle.alloc_spec.specs.Ending.{append_call_bytes, calls_all, calls_owed, calls_peer, vote_call_bytes}
use Rattle.alloc_spec.specs.Step.{Event, step}
use Rattle.alloc_spec.specs.StepState.{StepState}
use Rattle.alloc_spec.specs.Transfers.{Offer, has_room}
use Rattle.alloc_spec_laws.specs.Phases.{when_told}
use Rattle.alloc_spec_laws.proofs.Choices.{either}
use Rattle.alloc_spec_laws.proofs.DistinctTransfers.{rank, sent}
use Rattle.alloc_spec_laws.proofs.Lists.{in_append}
use Rattle.service_calm.proofs.PeerMoves.{told_only}

-- where the offer is an append request, it says this term
abbrev IsOfTerm : ℕ → Offer → Type 0
IsOfTerm term offer = offer.what ≡ AppQ → (request : Request) → offer.says ≡ Some (Requests request) → request.term ≡ term

-- so does each of these
abbrev pub AreOfTerm : ℕ → List Offer → Type 0
AreOfTerm term offers = (offer : Offer) → In offer offers → IsOfTerm term offer

one_more : (term : ℕ) (offers : List Offer) (offer : Offer) → AreOfTerm term offers → IsOfTerm term offer → AreOfTerm term (offers ++ offer ∷ [])
one_more term offers offer all own other i = elim (in_append other offers (offer ∷ []) i) [
  | inl j ↦ all other j
  | inr (inl e) ↦ subst (IsOfTerm term) (sym e) own
  | inr (inr j) ↦ absurd j
]

same_request : (a b : Request) → ◌≡◌ {A = Option Message} (Some (Requests a)) (Some (Requests b)) → a ≡ b
same_request a b e = cc (e)

abbrev OfOwnTerm : StepState → Type 0
OfOwnTerm g = AreOfTerm g.allocator.raft_server.store.term g.offers

module _ (number : ℕ) where
  makes_call : (call : Option Move) (g : StepState) → OfOwnTerm g → OfOwnTerm (calls_owed number call g)
  makes_call None g h = h
  makes_call (Some (CallForVote q)) g h =
      let request : Request = vote_request g.allocator.me number g.allocator.raft_server.store q in
      let offer : Offer = sent VoteQ q (vote_call_bytes request) (Some (Requests request)) g in
      let more : AreOfTerm g.allocator.raft_server.store.term (g.offers ++ offer ∷ [])
      = one_more g.allocator.raft_server.store.term g.offers offer h (λ what. absurd (cc (what))) in
      either OfOwnTerm (has_room g.allocator.queue (vote_call_bytes request)) _ _ (λ e. more) (λ e. more)
  makes_call (Some (CallToAppend q previous with_entry)) g h =
      let request : Request = append_request g.allocator.me number g.allocator.raft_server.store q previous with_entry in
      let offer : Offer = sent AppQ q (append_call_bytes request) (Some (Requests request)) g in
      let more : AreOfTerm g.allocator.raft_server.store.term (g.offers ++ offer ∷ [])
      = one_more g.allocator.raft_server.store.term g.offers offer h (λ what said e. ap (λ (r : Request). r.term) (sym (same_request request said e))) in
      either OfOwnTerm (has_room g.allocator.queue (append_call_bytes request)) _ _ (λ e. more) (λ e. more)
  makes_call (Some move) g h = h

  makes_calls : (peers : List ℕ) (g : StepState) → OfOwnTerm g → OfOwnTerm (calls_all number peers g)
  makes_calls [] g h = h
  makes_calls (q ∷ peers) g h = makes_calls peers (calls_peer number q g) (makes_call (owed g.allocator.raft_server g.allocator.times q g.allocator.now) g h)

told_none : (t : AllocatorState) (number : ℕ) (event : Event) (term : ℕ) → AreOfTerm term (when_told t number event).offers
told_none t number event term offer i what request e =
    absurd (omega (arith, (told_only t number event).each offer i, subst (λ (w : What). 8 ≤ rank w) (sym what) (omega arith)))

pub says_its_term : (t : AllocatorState) (number : ℕ) (event : Event) → OfOwnTerm (step t number event).step_state
unfolding step
says_its_term t number event = makes_calls number (drop 1 (members_of (when_told t number event).allocator)) (when_told t number event)
    (told_none t number event (when_told t number event).allocator.raft_server.store.term)
