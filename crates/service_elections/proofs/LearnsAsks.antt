-- A vote request for which the queue had room is pending when the step is over.
use Rattle.std.proofs.Common.{◌≡◌, ◌≢◌, ℕ, true, false, List, [], ◌∷◌, refl, sym, ◌∙◌, ap, inl, inr, arith, drop, Some}
use Rattle.std.specs.Prelude.{◌⊎◌}
use Rattle.can_frame.specs.declared.step.What.TheVariants.{VoteQ}
use Rattle.raft_model.specs.Lists.{In}
use Rattle.raft_model.specs.Messages.{Request}
use Rattle.raft_model.specs.Server.{Role}
use Rattle.raft_model.specs.Server.Role.{Candidate, Follower, Leader}
use Rattle.alloc_spec.specs.AllocatorState.{AllocatorState, members_of}
use Rattle.alloc_spec.specs.Ending.{calls_all, calls_peer}
use Rattle.alloc_spec.specs.Step.{Event, begin_phase, moment_of, step}
use Rattle.alloc_spec.specs.StepState.{StepState}
use Rattle.alloc_spec.specs.Transfers.{Offer}
use Rattle.alloc_spec_laws.specs.Apart.{AreAllApart}
use Rattle.alloc_spec_laws.specs.Phases.{when_committed, when_told}
use Rattle.alloc_spec_laws.proofs.DistinctTransfers.{rank}
use Rattle.alloc_spec_laws.proofs.EndOffers.{tells}
use Rattle.alloc_spec_laws.proofs.Transfers.{event_offers}
use Rattle.service_leader.proofs.SentPends.{HasSent, IsPending, now_pending, only_offered, same_offer}
use Rattle.service_leader.proofs.VoteCalls.{candidate_calls, vote_asked, vote_called, vote_offer, vote_offered}
use Rattle.service_candidate.proofs.WhoAsks.{who_asks_stands}
use Rattle.service_calm.proofs.CallsOffered.{same_after}

module _ (number m : ℕ) where
  -- a vote request to peer m that had room is among these offers
  abbrev HasAsk : List Offer → Type 0
  HasAsk offers = HasSent VoteQ m offers

  abbrev IsVote : Request → Type 0
  IsVote asked = asked.append ≡ false

  -- a vote request to the peer is pending
  abbrev IsAsked : StepState → Type 0
  IsAsked g = IsPending VoteQ m IsVote g.offers g.allocator.raft_server.memory.pending g.allocator.times.sending g.allocator.now

  abbrev Keeps : StepState → Type 0
  Keeps g = (g.allocator.raft_server.memory.role ≡ Candidate) × (HasAsk g.offers → IsAsked g)

  -- the call to a peer q
  module _ (q : ℕ) (g : StepState) (h : Keeps g) where
    -- it is offered only
    kept_offered : (vote_offer number q g).fitted ≡ false → Keeps (vote_offered number q g)
    kept_offered full = (
      h.0,
      only_offered VoteQ m IsVote g.offers g.allocator.raft_server.memory.pending g.allocator.times.sending g.allocator.now h.1
          q (vote_asked number q g) (vote_offer number q g) refl refl refl full,
    )

    kept_called : (vote_offer number q g).fitted ≡ true → Keeps (vote_called number q g)
    kept_called room = (
      h.0,
      now_pending VoteQ m IsVote g.offers g.allocator.raft_server.memory.pending g.allocator.times.sending g.allocator.now h.1
          q (vote_asked number q g) (vote_offer number q g) refl refl refl room (λ e. refl),
    )

    one : Keeps (calls_peer number q g)
    one = candidate_calls number q g Keeps (λ r e. h) (λ a. h) kept_called kept_offered h.0

  all : (peers : List ℕ) (g : StepState) → Keeps g → Keeps (calls_all number peers g)
  all [] g h = h
  all (q ∷ peers) g h = all peers (calls_peer number q g) (one q g h)

-- a call is none before the calls
none_before : (t : AllocatorState) (number : ℕ) (event : Event) (m : ℕ) → HasAsk number m (when_told t number event).offers → ⊥
none_before t number event m c =
    let low = (tells number (when_committed t number event) (event_offers number event (begin_phase number (moment_of event) t) refl)).each c.0 c.1 in
    let high = ap rank c.2 in omega (arith, low, high)

-- a vote request of a candidate that had room is pending when the step is over
ask_pends : (t : AllocatorState) (number : ℕ) (event : Event) (m : ℕ) → (step t number event).step_state.allocator.raft_server.memory.role ≡ Candidate
    → HasAsk number m (step t number event).step_state.offers → IsAsked number m (step t number event).step_state
unfolding step
ask_pends t number event m stands has = (all number m (drop 1 (members_of (when_told t number event).allocator)) (when_told t number event)
    (sym (same_after t number event).0 ∙ stands, λ c. absurd (none_before t number event m c))).1 has

is_or_not : (role : Role) → (role ≡ Candidate) ⊎ (role ≢ Candidate)
is_or_not Follower = inr (λ e. cc e)
is_or_not Candidate = inl refl
is_or_not Leader = inr (λ e. cc e)

-- Who asks for a vote is a candidate behind the step, and waits for the answer, which it keeps with the transfer ID and
-- the moment.
pub record IsAskedNow (m : ℕ) (offer : Offer) (after : AllocatorState) : Type 0 where
  pub stands : after.raft_server.memory.role ≡ Candidate
  pub asked : Request
  pub vote : asked.append ≡ false
  pub pending : after.raft_server.memory.pending m ≡ Some asked
  pub kept : after.times.sending m ≡ Some (record { id = offer.id; moment = after.now })

module _ (apart : (t : AllocatorState) (number : ℕ) (event : Event) → AreAllApart (step t number event).step_state.offers) (t : AllocatorState) (number : ℕ) (event : Event)
    (m : ℕ) (offer : Offer) (offered : In offer (step t number event).step_state.offers) (what : offer.what ≡ VoteQ) (to : offer.to ≡ m) (fitted : offer.fitted ≡ true) where
  stands : (step t number event).step_state.allocator.raft_server.memory.role ≡ Candidate
  stands = elim (is_or_not (step t number event).step_state.allocator.raft_server.memory.role) [
    | inl e ↦ e
    | inr other ↦ absurd (who_asks_stands t number event other (offer, offered, what))
  ]

  kept : IsAsked number m (step t number event).step_state
  kept = ask_pends t number event m stands (offer, offered, what, to, fitted)

  -- one request is sent to each peer at most
  same : kept.offer ≡ offer
  same = let after = (step t number event).step_state in
      same_offer VoteQ m (IsVote number m) after.offers after.allocator.raft_server.memory.pending after.allocator.times.sending after.allocator.now kept
      offer offered what to fitted (λ a. absurd (cc a)) (apart t number event)

  pub asked_now : IsAskedNow m offer (step t number event).step_state.allocator
  asked_now = record {
    stands = stands;
    asked = kept.asked;
    vote = kept.asks;
    pending = kept.pending_is;
    kept = kept.kept ∙ (λ i. Some (record { id = (same i).id; moment = (step t number event).step_state.allocator.now }));
  }
