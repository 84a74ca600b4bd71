-- After a step the call that waits for a node that was called in it is the one of this step.
use Rattle.std.proofs.Common.{◌≡◌, ℕ, ◌≤◌, Bool, true, false, List, [], ◌∷◌, refl, sym, ap, ◌∙◌, arith, ◌⊎◌, inl, inr, Option, Some, None}
use Rattle.std.specs.Prelude.{◌==◌, drop, if◌then◌else◌}
use Rattle.std.proofs.lemmas.Bool.Decides.{eqb_tells}
use Rattle.can_frame.specs.declared.step.What.{What}
use Rattle.can_frame.specs.declared.step.What.TheVariants.{AppQ, VoteQ}
use Rattle.raft_core.specs.Calls.{owed}
use Rattle.raft_core.specs.Times.{given_call}
use Rattle.raft_model.specs.Lists.{In, at}
use Rattle.raft_model.specs.Messages.{Request}
use Rattle.raft_model.specs.Messages.Message.{Requests}
use Rattle.raft_model.specs.Moves.{Move, memory_after}
use Rattle.raft_model.specs.Moves.Leading.{append_request, memory_with_call, vote_request}
use Rattle.raft_model.specs.Moves.Move.{CallForVote, CallToAppend}
use Rattle.raft_model.specs.Server.{Memory}
use Rattle.alloc_spec.specs.Ending.{append_call_bytes, calls_all, calls_by, calls_owed, calls_peer, commit_phase, tell_phase, vote_call_bytes}
use Rattle.alloc_spec.specs.Step.{Event, begin_phase, event_phase, moment_of, step}
use Rattle.alloc_spec.specs.StepState.{StepState, with_moves, with_transfer}
use Rattle.alloc_spec.specs.AllocatorState.{AllocatorState, members_of}
use Rattle.alloc_spec.specs.Transfers.{Offer, has_room, id_of}
use Rattle.alloc_spec_laws.proofs.Choices.{either}
use Rattle.alloc_spec_laws.proofs.DistinctTransfers.{rank, sent}
use Rattle.alloc_spec_laws.proofs.EndOffers.{Told, tells}
use Rattle.alloc_spec_laws.proofs.Lists.{in_append}
use Rattle.alloc_spec_laws.proofs.Transfers.{event_offers}
use Rattle.bus_agreement.proofs.Lists.{never, tell}

eqb_same : (a b : ℕ) → a ≡ b → (a == b) ≡ true
eqb_same a b e = elim (eqb_tells a b) [ inl s ↦ s.0 | inr apart ↦ absurd (apart.1 e) ]

the_same : (a b : Request) → Some a ≡ Some b → a ≡ b
the_same a b e = cc (e)

module _ (number : ℕ) where
  -- where a call to a node was offered and fitted, what waits for this node was made in this step
  abbrev pub Settled : StepState → Type 0
  Settled g = (offer : Offer) → In offer g.offers → 8 ≤ rank offer.what → offer.fitted ≡ true → (request : Request)
      → g.allocator.raft_server.memory.pending offer.to ≡ Some request → request.step ≡ number

  module _ (what : What) (peer : ℕ) (move : Move) (request : Request) (payload : List ℕ) (g : StepState) (made_now : request.step ≡ number)
      (memory : (members : List ℕ) → memory_after members g.allocator.me number g.allocator.raft_server move ≡ memory_with_call g.allocator.raft_server.memory peer request)
      (old : Settled g) where
    asking : StepState
    asking = with_transfer number what peer payload (Some (Requests request)) g

    new : Offer
    new = sent what peer payload (Some (Requests request)) g

    fits_not : has_room g.allocator.queue payload ≡ false → Settled (with_transfer number what peer payload (Some (Requests request)) g)
    fits_not full offer i high fitted asked pending = elim (in_append offer g.offers (sent what peer payload (Some (Requests request)) g ∷ []) i) [
      | inl j ↦ old offer j high fitted asked pending
      | inr (inl e) ↦ never (sym full ∙ (ap (λ (o : Offer). o.fitted) (sym e) ∙ fitted))
      | inr (inr j) ↦ absurd j
    ]

    fits_in : Settled (with_moves number (given_call g.allocator.now (id_of g.allocator.ids what peer)) (move ∷ [])
        (with_transfer number what peer payload (Some (Requests request)) g))
    fits_in offer i high fitted asked pending = by (tell (offer.to == peer)) where
      pends : (memory_after (members_of g.allocator) g.allocator.me number g.allocator.raft_server move).pending offer.to
          ≡ at g.allocator.raft_server.memory.pending peer (Some request) offer.to
      pends = ap (λ (m : Memory). m.pending offer.to) (memory (members_of g.allocator))

      by : ((offer.to == peer) ≡ true) ⊎ ((offer.to == peer) ≡ false) → asked.step ≡ number
      by (inl here) =
          let same : Some asked ≡ Some request = sym pending ∙ (pends
          ∙ ap (λ (b : Bool). if b then Some request else g.allocator.raft_server.memory.pending offer.to) here) in
          ap (λ (r : Request). r.step) (the_same asked request same) ∙ made_now
      by (inr there) = elim (in_append offer g.offers (sent what peer payload (Some (Requests request)) g ∷ []) i) [
        | inl j ↦ old offer j high fitted asked (sym (pends
            ∙ ap (λ (b : Bool). if b then Some request else g.allocator.raft_server.memory.pending offer.to) there) ∙ pending)
        | inr (inl e) ↦ never (sym there ∙ same_to (ap (λ (o : Offer). o.to) e))
        | inr (inr j) ↦ absurd j
      ]
        where
          same_to : offer.to ≡ peer → (offer.to == peer) ≡ true
          same_to e = eqb_same offer.to peer e

    pub one_call : Settled (calls_by number what peer move request payload g)
    one_call = either (λ (k : StepState). Settled k) (has_room g.allocator.queue payload) _ _ (λ e. fits_in) (λ e. fits_not e)

  some_call : (call : Option Move) (g : StepState) → Settled g → Settled (calls_owed number call g)
  some_call None g old = old
  some_call (Some (CallForVote peer)) g old =
      one_call VoteQ peer (CallForVote peer) (vote_request g.allocator.me number g.allocator.raft_server.store peer)
      (vote_call_bytes (vote_request g.allocator.me number g.allocator.raft_server.store peer)) g refl (λ members. refl) old
  some_call (Some (CallToAppend peer previous with_entry)) g old =
      one_call AppQ peer (CallToAppend peer previous with_entry) (append_request g.allocator.me number g.allocator.raft_server.store peer previous with_entry)
      (append_call_bytes (append_request g.allocator.me number g.allocator.raft_server.store peer previous with_entry)) g refl (λ members. refl) old
  some_call (Some move) g old = old

  all_calls : (peers : List ℕ) (g : StepState) → Settled g → Settled (calls_all number peers g)
  all_calls [] g old = old
  all_calls (peer ∷ peers) g old =
      all_calls peers (calls_peer number peer g) (some_call (owed g.allocator.raft_server g.allocator.times peer g.allocator.now) g old)

  none_called : (g : StepState) → Told g → Settled g
  none_called g told offer i high fitted request pending = absurd (omega (arith, high, told.each offer i))

abbrev told_by : AllocatorState → ℕ → Event → StepState
told_by t number event = tell_phase number (commit_phase number (event_phase number event (begin_phase number (moment_of event) t)).step_state)

pub settled : (t : AllocatorState) (number : ℕ) (event : Event) → Settled number (step t number event).step_state
unfolding step
settled t number event = all_calls number (drop 1 (members_of (told_by t number event).allocator)) (told_by t number event)
    (none_called number (told_by t number event) (tells number (commit_phase number (event_phase number event (begin_phase number (moment_of event) t)).step_state)
    (event_offers number event (begin_phase number (moment_of event) t) refl)))
