-- A vote request that a step offers says the term and the log that its server has when the step is over, as a candidate.
use Rattle.std.proofs.Common.{◌≡◌, ℕ, ◌≤◌, arith, true, false, Bool, List, [], ◌∷◌, ◌++◌, length, drop, refl, sym, ◌∙◌, ap, subst, inl, inr, Option, None, Some}
use Rattle.can_frame.specs.Log.{last_term}
use Rattle.can_frame.specs.declared.step.What.{What}
use Rattle.can_frame.specs.declared.step.What.TheVariants.{AppQ, VoteQ}
use Rattle.raft_core.specs.Calls.{owed}
use Rattle.raft_model.specs.Lists.{In}
use Rattle.raft_model.specs.Messages.{Message, Request}
use Rattle.raft_model.specs.Messages.Message.{Requests}
use Rattle.raft_model.specs.Moves.{Move}
use Rattle.raft_model.specs.Moves.Leading.{append_request, vote_request}
use Rattle.raft_model.specs.Moves.Move.{CallForVote, CallToAppend}
use Rattle.raft_model.specs.Server.{Store}
use Rattle.raft_model.specs.Server.Role.{Candidate}
use Rattle.alloc_spec.specs.AllocatorState.{AllocatorState, members_of}
use Rattle.alloc_spec.specs.Ending.{append_call_bytes, calls_all, calls_owed, calls_peer, vote_call_bytes}
use Rattle.alloc_spec.specs.Step.{Event, step}
use Rattle.alloc_spec.specs.StepState.{StepState}
use Rattle.alloc_spec.specs.Transfers.{Offer, has_room}
use Rattle.alloc_spec_laws.specs.Phases.{when_told}
use Rattle.alloc_spec_laws.proofs.Choices.{either}
use Rattle.alloc_spec_laws.proofs.DistinctTransfers.{rank, sent}
use Rattle.alloc_spec_laws.proofs.Lists.{in_append}
use Rattle.service_calm.proofs.CallsOffered.{all_keep, called}
use Rattle.service_calm.proofs.PeerMoves.{told_only}

-- ---- what it says

-- where the offer is a vote request, it says this term and this log
pub record SaysStore (store : Store) (request : Request) : Type 0 where
  pub term : request.term ≡ store.term
  pub last : request.previous ≡ length store.log
  pub last_term_is : request.previous_term ≡ last_term store.log

abbrev IsOfStore : Store → Offer → Type 0
IsOfStore store offer = offer.what ≡ VoteQ → (request : Request) → offer.says ≡ Some (Requests request) → SaysStore store request

abbrev AreOfStore : Store → List Offer → Type 0
AreOfStore store offers = (offer : Offer) → In offer offers → IsOfStore store offer

one_more : (store : Store) (offers : List Offer) (offer : Offer) → AreOfStore store offers → IsOfStore store offer → AreOfStore store (offers ++ offer ∷ [])
one_more store offers offer all own other i = elim (in_append other offers (offer ∷ []) i) [
  | inl j ↦ all other j
  | inr (inl e) ↦ subst (IsOfStore store) (sym e) own
  | inr (inr j) ↦ absurd j
]

same_request : (a b : Request) → ◌≡◌ {A = Option Message} (Some (Requests a)) (Some (Requests b)) → a ≡ b
same_request a b e = cc e

says_own : (me number peer : ℕ) (store : Store) (request : Request) → Some (Requests (vote_request me number store peer)) ≡ Some (Requests request) → SaysStore store request
says_own me number peer store request e = subst (SaysStore store) (same_request (vote_request me number store peer) request e)
    (record { term = refl; last = refl; last_term_is = refl })

abbrev OfOwnStore : StepState → Type 0
OfOwnStore g = AreOfStore g.allocator.raft_server.store g.offers

module _ (number : ℕ) where
  makes_call : (call : Option Move) (g : StepState) → OfOwnStore g → OfOwnStore (calls_owed number call g)
  makes_call None g h = h
  makes_call (Some (CallForVote q)) g h =
      let request : Request = vote_request g.allocator.me number g.allocator.raft_server.store q in
      let offer : Offer = sent VoteQ q (vote_call_bytes request) (Some (Requests request)) g in
      let more : AreOfStore g.allocator.raft_server.store (g.offers ++ offer ∷ [])
      = one_more g.allocator.raft_server.store g.offers offer h (λ what said e. says_own g.allocator.me number q g.allocator.raft_server.store said e) in
      either OfOwnStore (has_room g.allocator.queue (vote_call_bytes request)) _ _ (λ e. more) (λ e. more)
  makes_call (Some (CallToAppend q previous with_entry)) g h =
      let request : Request = append_request g.allocator.me number g.allocator.raft_server.store q previous with_entry in
      let offer : Offer = sent AppQ q (append_call_bytes request) (Some (Requests request)) g in
      let more : AreOfStore g.allocator.raft_server.store (g.offers ++ offer ∷ [])
      = one_more g.allocator.raft_server.store g.offers offer h (λ what. absurd (cc (what))) in
      either OfOwnStore (has_room g.allocator.queue (append_call_bytes request)) _ _ (λ e. more) (λ e. more)
  makes_call (Some move) g h = h

  makes_calls : (peers : List ℕ) (g : StepState) → OfOwnStore g → OfOwnStore (calls_all number peers g)
  makes_calls [] g h = h
  makes_calls (q ∷ peers) g h = makes_calls peers (calls_peer number q g) (makes_call (owed g.allocator.raft_server g.allocator.times q g.allocator.now) g h)

told_none : (t : AllocatorState) (number : ℕ) (event : Event) (offer : Offer) → In offer (when_told t number event).offers → offer.what ≡ VoteQ → ⊥
told_none t number event offer i what =
    absurd (omega (arith, (told_only t number event).each offer i, subst (λ (w : What). 8 ≤ rank w) (sym what) (omega arith)))

pub says_its_store : (t : AllocatorState) (number : ℕ) (event : Event) → OfOwnStore (step t number event).step_state
unfolding step
says_its_store t number event = makes_calls number (drop 1 (members_of (when_told t number event).allocator)) (when_told t number event)
    (λ offer i what. absurd (told_none t number event offer i what))

-- ---- who says it

-- a vote request is offered by a candidate
abbrev OfCandidate : StepState → Type 0
OfCandidate g = (offer : Offer) → In offer g.offers → offer.what ≡ VoteQ → g.allocator.raft_server.memory.role ≡ Candidate

candidate_votes : (number q : ℕ) (request : Request) (payload : List ℕ) (fits : Bool) (g : StepState) → g.allocator.raft_server.memory.role ≡ Candidate → OfCandidate g
    → OfCandidate (called number VoteQ q (CallForVote q) request payload fits g)
candidate_votes number q request payload true g role h = λ offer i what. role
candidate_votes number q request payload false g role h = λ offer i what. role

candidate_appends : (number q previous : ℕ) (request : Request) (payload : List ℕ) (fits : Bool) (g : StepState) → OfCandidate g
    → OfCandidate (called number AppQ q (CallToAppend q previous true) request payload fits g)
candidate_appends number q previous request payload true g h = λ offer i what. elim (in_append offer g.offers (_ ∷ []) i) [
  | inl j ↦ h offer j what
  | inr (inl e) ↦ absurd (cc (sym (ap (λ (o : Offer). o.what) e) ∙ what))
  | inr (inr j) ↦ absurd j
]
candidate_appends number q previous request payload false g h = λ offer i what. elim (in_append offer g.offers (_ ∷ []) i) [
  | inl j ↦ h offer j what
  | inr (inl e) ↦ absurd (cc (sym (ap (λ (o : Offer). o.what) e) ∙ what))
  | inr (inr j) ↦ absurd j
]

pub candidates_ask : (t : AllocatorState) (number : ℕ) (event : Event) → OfCandidate (step t number event).step_state
unfolding step
candidates_ask t number event = all_keep number OfCandidate (candidate_votes number) (candidate_appends number)
    (drop 1 (members_of (when_told t number event).allocator)) (when_told t number event)
    (λ offer i what. absurd (told_none t number event offer i what))
