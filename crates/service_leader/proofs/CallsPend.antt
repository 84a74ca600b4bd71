-- A leader's call for which its queue had room is pending when the step is over.
use Rattle.std.proofs.Common.{◌≡◌, ◌≢◌, ℕ, true, false, List, [], ◌∷◌, refl, sym, ◌∙◌, ap, subst, inl, inr, arith, drop, Option, None, Some}
use Rattle.std.specs.Prelude.{◌⊎◌, ◌-◌, ◌||◌, length, nat_le}
use Rattle.can_frame.specs.declared.step.What.TheVariants.{AppQ}
use Rattle.raft_core.specs.Calls.{due, due_unless}
use Rattle.raft_core.specs.Times.{given_call, is_silent}
use Rattle.raft_model.specs.Lists.{In}
use Rattle.raft_model.specs.Messages.{Request}
use Rattle.raft_model.specs.Messages.Message.{Requests}
use Rattle.raft_model.specs.Moves.{Move}
use Rattle.raft_model.specs.Moves.Leading.{append_request}
use Rattle.raft_model.specs.Moves.Move.{CallForVote, CallToAppend}
use Rattle.raft_model.specs.Server.{Role}
use Rattle.raft_model.specs.Server.Role.{Candidate, Follower, Leader}
use Rattle.alloc_spec.specs.AllocatorState.{AllocatorState, members_of}
use Rattle.alloc_spec.specs.Ending.{append_call_bytes, calls_all, calls_owed, calls_peer}
use Rattle.alloc_spec.specs.Step.{Event, step}
use Rattle.alloc_spec.specs.StepState.{StepState, with_moves, with_transfer}
use Rattle.alloc_spec.specs.Transfers.{Offer, has_room, id_of}
use Rattle.alloc_spec_laws.specs.Phases.{when_told}
use Rattle.alloc_spec_laws.proofs.Choices.{either}
use Rattle.alloc_spec_laws.proofs.DistinctTransfers.{rank}
use Rattle.alloc_spec_laws.proofs.Lists.{in_append}
use Rattle.service_leader.specs.CallsAsk.{AsksNext, next_request}
use Rattle.service_leader.proofs.VoteCalls.{vote_called, vote_offer, vote_offered}
use Rattle.service_leader.proofs.SentPends.{HasSent, IsPending, now_pending, only_offered, same_offer}
use Rattle.alloc_spec_laws.specs.Apart.{AreAllApart}
use Rattle.service_calm.proofs.CallsOffered.{same_after}
use Rattle.service_calm.proofs.PeerMoves.{told_only}

module _ (number m : ℕ) where
  -- an append request to peer m that had room is among these offers
  abbrev pub HasCall : List Offer → Type 0
  HasCall offers = HasSent AppQ m offers

  -- one of those is the pending call to the peer: what it says, its transfer ID and this moment are kept
  pub record IsKept (g : StepState) : Type 0 where
    pub offer : Offer
    pub offered : In offer g.offers
    pub what : offer.what ≡ AppQ
    pub to : offer.to ≡ m
    pub fitted : offer.fitted ≡ true
    pub asked : Request
    pub is : asked ≡ next_request m number g.allocator
    pub says : offer.says ≡ Some (Requests asked)
    pub step : asked.step ≡ number
    pub append : asked.append ≡ true
    pub term : asked.term ≡ g.allocator.raft_server.store.term
    pub pending : g.allocator.raft_server.memory.pending m ≡ Some asked
    pub sending : g.allocator.times.sending m ≡ Some (record { id = offer.id; moment = g.allocator.now })

  -- a request asks for the peer's next place
  abbrev IsNext : AllocatorState → Request → Type 0
  IsNext t asked = asked ≡ next_request m number t

  -- a call to the peer is pending, and asks so
  abbrev IsCalled : StepState → Type 0
  IsCalled g = IsPending AppQ m (IsNext g.allocator) g.offers g.allocator.raft_server.memory.pending g.allocator.times.sending g.allocator.now

  abbrev Keeps : StepState → Type 0
  Keeps g = (g.allocator.raft_server.memory.role ≡ Leader) × (HasCall g.offers → IsCalled g)

  -- the call to a peer q
  module _ (q : ℕ) (g : StepState) (h : Keeps g) where
    abbrev asked : Request
    asked = append_request g.allocator.me number g.allocator.raft_server.store q (g.allocator.raft_server.memory.next q - 1) true

    abbrev offered : StepState
    offered = with_transfer number AppQ q (append_call_bytes asked) (Some (Requests asked)) g

    abbrev called : StepState
    called = with_moves number (given_call g.allocator.now (id_of g.allocator.ids AppQ q)) (CallToAppend q (g.allocator.raft_server.memory.next q - 1) true ∷ []) offered

    abbrev own : Offer
    own = record {
      what = AppQ;
      to = q;
      id = id_of g.allocator.ids AppQ q;
      payload = append_call_bytes asked;
      re = 0;
      says = Some (Requests asked);
      fitted = has_room g.allocator.queue (append_call_bytes asked);
    }

    -- it is offered only
    kept_offered : has_room g.allocator.queue (append_call_bytes asked) ≡ false → Keeps offered
    kept_offered full = (
      h.0,
      only_offered AppQ m (IsNext g.allocator) g.offers g.allocator.raft_server.memory.pending g.allocator.times.sending g.allocator.now h.1 q asked own refl refl refl full,
    )

    kept_called : has_room g.allocator.queue (append_call_bytes asked) ≡ true → Keeps called
    kept_called room = (
      h.0,
      now_pending AppQ m (IsNext g.allocator) g.offers g.allocator.raft_server.memory.pending g.allocator.times.sending g.allocator.now h.1 q asked own refl refl refl room
          (λ e. ap (λ (p : ℕ). next_request p number g.allocator) (sym e)),
    )

    by : (p : Option Request) → Keeps (calls_owed number (due_unless p (due Leader g.allocator.raft_server g.allocator.times q g.allocator.now)) g)
    by (Some other) = h
    by None = either (λ (call : Option Move). Keeps (calls_owed number call g))
        (nat_le (g.allocator.raft_server.memory.next q) (length g.allocator.raft_server.store.log) || is_silent (g.allocator.times.appended q) g.allocator.now)
        (Some (CallToAppend q (g.allocator.raft_server.memory.next q - 1) true)) None
        (λ a. either Keeps (has_room g.allocator.queue (append_call_bytes asked)) called offered kept_called kept_offered) (λ a. h)

    one : Keeps (calls_peer number q g)
    one = subst (λ (role : Role). Keeps (calls_owed number (due_unless (g.allocator.raft_server.memory.pending q) (due role g.allocator.raft_server g.allocator.times q g.allocator.now)) g))
        (sym h.0) (by (g.allocator.raft_server.memory.pending q))

  all : (peers : List ℕ) (g : StepState) → Keeps g → Keeps (calls_all number peers g)
  all [] g h = h
  all (q ∷ peers) g h = all peers (calls_peer number q g) (one q g h)

-- a call is none before the calls
none_before : (t : AllocatorState) (number : ℕ) (event : Event) (m : ℕ) → HasCall number m (when_told t number event).offers → ⊥
none_before t number event m c =
    let low = (told_only t number event).each c.0 c.1 in
    let high = ap rank c.2 in omega (arith, low, high)

-- ---- the whole step

-- a call of a leader that had room is pending when the step is over
is_called : (t : AllocatorState) (number : ℕ) (event : Event) (m : ℕ) → (step t number event).step_state.allocator.raft_server.memory.role ≡ Leader
    → HasCall number m (step t number event).step_state.offers → IsCalled number m (step t number event).step_state
unfolding step
is_called t number event m leads has = (all number m (drop 1 (members_of (when_told t number event).allocator)) (when_told t number event)
    (sym (same_after t number event).0 ∙ leads, λ c. absurd (none_before t number event m c))).1 has

-- ---- who does not lead calls nobody to append

module _ (number m : ℕ) (role : Role) (other : role ≢ Leader) where
  -- no call was offered
  abbrev IsSilent : StepState → Type 0
  IsSilent g = (g.allocator.raft_server.memory.role ≡ role) × (HasCall number m g.offers → ⊥)

  module _ (q : ℕ) (g : StepState) (h : IsSilent g) where
    silent_still : HasCall number m (vote_offered number q g).offers → ⊥
    silent_still c = elim (in_append c.0 g.offers _ c.1) [
      | inl i ↦ h.1 (c.0, i, c.2, c.3, c.4)
      | inr (inl e) ↦ cc (sym (ap (λ (o : Offer). o.what) e) ∙ c.2)
      | inr (inr i) ↦ i
    ]

    by_role : (r : Role) → r ≡ role → (p : Option Request) → IsSilent (calls_owed number (due_unless p (due r g.allocator.raft_server g.allocator.times q g.allocator.now)) g)
    by_role r e (Some request) = h
    by_role Follower e None = h
    by_role Leader e None = absurd (other (sym e))
    by_role Candidate e None = either (λ (call : Option Move). IsSilent (calls_owed number call g)) (g.allocator.times.answered q) None (Some (CallForVote q)) (λ a. h)
        (λ a. either IsSilent (vote_offer number q g).fitted
        (vote_called number q g) (vote_offered number q g)
        (λ r. (h.0, silent_still)) (λ r. (h.0, silent_still)))

    silent_one : IsSilent (calls_peer number q g)
    silent_one = subst (λ (r : Role). IsSilent (calls_owed number (due_unless (g.allocator.raft_server.memory.pending q) (due r g.allocator.raft_server g.allocator.times q g.allocator.now)) g))
        (sym h.0) (by_role role refl (g.allocator.raft_server.memory.pending q))

  silent_all : (peers : List ℕ) (g : StepState) → IsSilent g → IsSilent (calls_all number peers g)
  silent_all [] g h = h
  silent_all (q ∷ peers) g h = silent_all peers (calls_peer number q g) (silent_one q g h)

-- who does not lead when a step is over sent no call in it
pub who_calls_leads : (t : AllocatorState) (number : ℕ) (event : Event) (m : ℕ) → (step t number event).step_state.allocator.raft_server.memory.role ≢ Leader
    → HasCall number m (step t number event).step_state.offers → ⊥
unfolding step
who_calls_leads t number event m other = (silent_all number m (when_told t number event).allocator.raft_server.memory.role
    (λ e. other ((same_after t number event).0 ∙ e)) (drop 1 (members_of (when_told t number event).allocator)) (when_told t number event)
    (refl, none_before t number event m)).1

-- ---- what is asked

is_or_not : (role : Role) → (role ≡ Leader) ⊎ (role ≢ Leader)
is_or_not Follower = inr (λ e. cc e)
is_or_not Candidate = inr (λ e. cc e)
is_or_not Leader = inl refl

module _ (apart : (t : AllocatorState) (number : ℕ) (event : Event) → AreAllApart (step t number event).step_state.offers) (t : AllocatorState) (number : ℕ) (event : Event)
    (m : ℕ) (offer : Offer) (offered : In offer (step t number event).step_state.offers) (what : offer.what ≡ AppQ) (to : offer.to ≡ m) (fitted : offer.fitted ≡ true) where
  leads : (step t number event).step_state.allocator.raft_server.memory.role ≡ Leader
  leads = elim (is_or_not (step t number event).step_state.allocator.raft_server.memory.role) [
    | inl e ↦ e
    | inr other ↦ absurd (who_calls_leads t number event m other (offer, offered, what, to, fitted))
  ]

  kept : IsCalled number m (step t number event).step_state
  kept = is_called t number event m leads (offer, offered, what, to, fitted)

  -- one call is sent to each peer at most
  same : kept.offer ≡ offer
  same = let after = (step t number event).step_state in
      same_offer AppQ m (IsNext number m after.allocator) after.offers after.allocator.raft_server.memory.pending after.allocator.times.sending after.allocator.now kept
      offer offered what to fitted (λ a. absurd (cc a)) (apart t number event)

  -- a call asks for the next place
  pub asks_next : AsksNext m number offer (step t number event).step_state.allocator
  asks_next = record {
    leads = leads;
    says = ap (λ (o : Offer). o.says) (sym same) ∙ (kept.says ∙ ap (λ (r : Request). Some (Requests r)) kept.asks);
    pending = kept.pending_is ∙ ap (λ (r : Request). Some r) kept.asks;
    kept = kept.kept ∙ (λ i. Some (record { id = (same i).id; moment = (step t number event).step_state.allocator.now }));
  }
