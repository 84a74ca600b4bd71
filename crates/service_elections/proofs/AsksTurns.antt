-- The calls of a candidate at the end of a step: it asks each peer that has not answered and to which no call is
-- pending, and nobody else.
use Rattle.std.proofs.Common.{◌≡◌, ◌≢◌, ℕ, arith, Bool, true, false, List, [], ◌∷◌, ◌++◌, drop, refl, sym, ◌∙◌, ap, subst, inl, inr, Option, None, Some}
use Rattle.std.specs.Prelude.{◌⊎◌}
use Rattle.std.proofs.lemmas.Bool.Decides.{eqb_tells}
use Rattle.can_frame.specs.declared.step.What.TheVariants.{VoteQ}
use Rattle.raft_core.specs.Calls.{due, due_unless}
use Rattle.raft_core.specs.Times.{Sending}
use Rattle.raft_model.specs.Lists.{In, at_here, at_other}
use Rattle.raft_model.specs.Messages.{Request}
use Rattle.raft_model.specs.Messages.Message.{Requests}
use Rattle.raft_model.specs.Moves.{Move}
use Rattle.raft_model.specs.Moves.Leading.{vote_request}
use Rattle.raft_model.specs.Moves.Move.{CallForVote}
use Rattle.raft_model.specs.Server.{Role}
use Rattle.raft_model.specs.Server.Role.{Candidate}
use Rattle.alloc_spec.specs.AllocatorState.{AllocatorState, members_of}
use Rattle.alloc_spec.specs.Ending.{calls_all, calls_owed, calls_peer, vote_call_bytes}
use Rattle.alloc_spec.specs.Step.{Event, step}
use Rattle.alloc_spec.specs.StepState.{StepState}
use Rattle.alloc_spec.specs.Transfers.{Offer, has_room, id_of}
use Rattle.alloc_spec_laws.specs.Phases.{when_told}
use Rattle.alloc_spec_laws.proofs.Choices.{either}
use Rattle.alloc_spec_laws.proofs.DistinctTransfers.{rank}
use Rattle.alloc_spec_laws.proofs.Lists.{in_append, in_back, in_front}
use Rattle.service_elections.proofs.AsksKept.{settled_then}
use Rattle.service_calm.proofs.CallsOffered.{called, same_after}
use Rattle.service_calm.proofs.PeerMoves.{told_only}

-- a request to the peer for its vote is among these offers
abbrev pub HasAskedIn : ℕ → List Offer → Type 0
HasAskedIn m offers = (offer : Offer) × In offer offers × (offer.what ≡ VoteQ) × (offer.to ≡ m)

module _ (number : ℕ) where
  -- peer m is asked, and where the request found room, its answer is awaited
  pub record HasAsked (m : ℕ) (g : StepState) : Type 0 where
    pub offer : Offer
    pub offered : In offer g.offers
    pub what : offer.what ≡ VoteQ
    pub to : offer.to ≡ m
    pub request : Request
    pub vote : request.append ≡ false
    pub made : request.step ≡ number
    pub waits : offer.fitted ≡ true → (g.allocator.raft_server.memory.pending m ≡ Some request)
        × (g.allocator.times.sending m ≡ Some (record { id = offer.id; moment = g.allocator.now }))

  abbrev asking : ℕ → StepState → Request
  asking q g = vote_request g.allocator.me number g.allocator.raft_server.store q

  abbrev asks : ℕ → Bool → StepState → StepState
  asks q fits g = called number VoteQ q (CallForVote q) (asking q g) (vote_call_bytes (asking q g)) fits g

  abbrev asking_offer : ℕ → Bool → StepState → Offer
  asking_offer q fits g = record {
    what = VoteQ;
    to = q;
    id = id_of g.allocator.ids VoteQ q;
    payload = vote_call_bytes (asking q g);
    re = 0;
    says = Some (Requests (asking q g));
    fitted = fits;
  }

  abbrev Stands : StepState → Type 0
  Stands g = g.allocator.raft_server.memory.role ≡ Candidate

  -- the turn of a peer
  module _ (P : StepState → Type 0) (q : ℕ) (g : StepState) where
    turn : (role : Role) → role ≡ Candidate → ((r : Request) → g.allocator.raft_server.memory.pending q ≡ Some r → P g) → (g.allocator.times.answered q ≡ true → P g)
        → (g.allocator.raft_server.memory.pending q ≡ None → g.allocator.times.answered q ≡ false → (fits : Bool) → P (asks q fits g))
        → P (calls_owed number (due_unless (g.allocator.raft_server.memory.pending q) (due role g.allocator.raft_server g.allocator.times q g.allocator.now)) g)
    turn role stands some answered asked = subst (λ (r : Role). P (calls_owed number
        (due_unless (g.allocator.raft_server.memory.pending q) (due r g.allocator.raft_server g.allocator.times q g.allocator.now)) g))
        (sym stands) (go (g.allocator.raft_server.memory.pending q) refl)
      where
        go : (p : Option Request) → g.allocator.raft_server.memory.pending q ≡ p
            → P (calls_owed number (due_unless p (due Candidate g.allocator.raft_server g.allocator.times q g.allocator.now)) g)
        go (Some r) e = some r e
        go None e = either (λ (call : Option Move). P (calls_owed number call g)) (g.allocator.times.answered q) None (Some (CallForVote q)) answered
            (λ a. asked e a (has_room g.allocator.queue (vote_call_bytes (asking q g))))

  stands_on : (q : ℕ) (fits : Bool) (g : StepState) → Stands g → Stands (asks q fits g)
  stands_on q true g h = h
  stands_on q false g h = h

  -- what a candidate's calls keep
  module _ (P : StepState → Type 0)
      (each : (q : ℕ) (g : StepState) → P g → g.allocator.raft_server.memory.pending q ≡ None → g.allocator.times.answered q ≡ false → (fits : Bool) → P (asks q fits g)) where
    one : (q : ℕ) (g : StepState) → Stands g → P g → Stands (calls_peer number q g) × P (calls_peer number q g)
    one q g stands h = turn (λ (x : StepState). Stands x × P x) q g g.allocator.raft_server.memory.role stands (λ r e. (stands, h)) (λ e. (stands, h))
        (λ e a fits. (stands_on q fits g stands, each q g h e a fits))

    pub all : (peers : List ℕ) (g : StepState) → Stands g → P g → Stands (calls_all number peers g) × P (calls_all number peers g)
    all [] g stands h = (stands, h)
    all (q ∷ peers) g stands h = let next = one q g stands h in all peers (calls_peer number q g) next.0 next.1

  -- ---- who is asked

  asked_here : (m q : ℕ) (fits : Bool) (g : StepState) → m ≡ q → HasAsked m (asks q fits g)
  asked_here m q true g same = record {
    offer = asking_offer q true g;
    offered = in_back (asking_offer q true g) g.offers (asking_offer q true g ∷ []) (inl refl);
    what = refl;
    to = sym same;
    request = asking q g;
    vote = refl;
    made = refl;
    waits = λ f. (
      at_here g.allocator.raft_server.memory.pending q m (Some (asking q g)) same,
      at_here g.allocator.times.sending q m (Some (record { id = id_of g.allocator.ids VoteQ q; moment = g.allocator.now })) same,
    );
  }
  asked_here m q false g same = record {
    offer = asking_offer q false g;
    offered = in_back (asking_offer q false g) g.offers (asking_offer q false g ∷ []) (inl refl);
    what = refl;
    to = sym same;
    request = asking q g;
    vote = refl;
    made = refl;
    waits = λ f. absurd (cc f);
  }

  asked_other : (m q : ℕ) (fits : Bool) (g : StepState) → m ≢ q → HasAsked m g → HasAsked m (asks q fits g)
  asked_other m q true g differs h = record {
    offer = h.offer;
    offered = in_front h.offer g.offers (asking_offer q true g ∷ []) h.offered;
    what = h.what;
    to = h.to;
    request = h.request;
    vote = h.vote;
    made = h.made;
    waits = λ f. (
      at_other g.allocator.raft_server.memory.pending q m (Some (asking q g)) differs ∙ (h.waits f).0,
      at_other g.allocator.times.sending q m (Some (record { id = id_of g.allocator.ids VoteQ q; moment = g.allocator.now })) differs ∙ (h.waits f).1,
    );
  }
  asked_other m q false g differs h = record {
    offer = h.offer;
    offered = in_front h.offer g.offers (asking_offer q false g ∷ []) h.offered;
    what = h.what;
    to = h.to;
    request = h.request;
    vote = h.vote;
    made = h.made;
    waits = h.waits;
  }

  asked_still : (m q : ℕ) (g : StepState) → HasAsked m g → g.allocator.raft_server.memory.pending q ≡ None → g.allocator.times.answered q ≡ false → (fits : Bool)
      → HasAsked m (asks q fits g)
  asked_still m q g h free none fits = elim (eqb_tells m q) [
    | inl z ↦ asked_here m q fits g z.1
    | inr z ↦ asked_other m q fits g z.1 h
  ]

  -- a peer that is to be asked
  abbrev IsFree : ℕ → StepState → Type 0
  IsFree m g = (g.allocator.raft_server.memory.pending m ≡ None) × (g.allocator.times.answered m ≡ false)

  free_other : (m q : ℕ) (fits : Bool) (g : StepState) → m ≢ q → IsFree m g → IsFree m (asks q fits g)
  free_other m q true g differs h = (at_other g.allocator.raft_server.memory.pending q m (Some (asking q g)) differs ∙ h.0, h.1)
  free_other m q false g differs h = h

  -- when its turn is there it is asked
  here : (m q : ℕ) (g : StepState) → m ≡ q → Stands g → IsFree m g → Stands (calls_peer number q g) × HasAsked m (calls_peer number q g)
  here m q g same stands h = turn (λ (x : StepState). Stands x × HasAsked m x) q g g.allocator.raft_server.memory.role stands
      (λ r e. absurd (cc (sym h.0 ∙ (ap g.allocator.raft_server.memory.pending same ∙ e))))
      (λ e. absurd (cc (sym h.1 ∙ (ap g.allocator.times.answered same ∙ e))))
      (λ e a fits. (stands_on q fits g stands, asked_here m q fits g same))

  not_yet : (m q : ℕ) (g : StepState) → m ≢ q → Stands g → IsFree m g → Stands (calls_peer number q g) × IsFree m (calls_peer number q g)
  not_yet m q g differs stands h = turn (λ (x : StepState). Stands x × IsFree m x) q g g.allocator.raft_server.memory.role stands
      (λ r e. (stands, h)) (λ e. (stands, h)) (λ e a fits. (stands_on q fits g stands, free_other m q fits g differs h))

  all_asked : (m : ℕ) (peers : List ℕ) (g : StepState) → In m peers → Stands g → IsFree m g → HasAsked m (calls_all number peers g)
  all_asked m [] g i stands h = absurd i
  all_asked m (q ∷ peers) g i stands h = elim (eqb_tells m q) [
    | inl z ↦ let next = here m q g z.1 stands h in (all (HasAsked m) (asked_still m) peers (calls_peer number q g) next.0 next.1).1
    | inr z ↦ let next = not_yet m q g z.1 stands h in
        all_asked m peers (calls_peer number q g) (elim i [ inl e ↦ absurd (z.1 e) | inr j ↦ j ]) next.0 next.1
  ]

  -- ---- who is not asked

  -- the peer has answered, or a call to it is pending: and it was not asked
  abbrev IsPassed : ℕ → StepState → Type 0
  IsPassed m g = ((g.allocator.times.answered m ≡ true) ⊎ ((r : Request) × (g.allocator.raft_server.memory.pending m ≡ Some r))) × (HasAskedIn m g.offers → ⊥)

  passed_offers : (m q : ℕ) (fits : Bool) (g : StepState) → m ≢ q → (HasAskedIn m g.offers → ⊥) → HasAskedIn m (g.offers ++ asking_offer q fits g ∷ []) → ⊥
  passed_offers m q fits g differs none c = elim (in_append c.0 g.offers (asking_offer q fits g ∷ []) c.1) [
    | inl i ↦ none (c.0, i, c.2, c.3)
    | inr (inl e) ↦ differs (sym c.3 ∙ ap (λ (o : Offer). o.to) e)
    | inr (inr i) ↦ i
  ]

  passed : (m q : ℕ) (g : StepState) → IsPassed m g → g.allocator.raft_server.memory.pending q ≡ None → g.allocator.times.answered q ≡ false → (fits : Bool)
      → IsPassed m (asks q fits g)
  passed m q g h free none fits = elim (eqb_tells m q) [
    | inl z ↦ absurd (elim h.0 [
      | inl a ↦ cc (sym none ∙ (sym (ap g.allocator.times.answered z.1) ∙ a))
      | inr p ↦ cc (sym free ∙ (sym (ap g.allocator.raft_server.memory.pending z.1) ∙ p.1))
    ])
    | inr z ↦ by z.1 fits
  ]
    where
      by : m ≢ q → (b : Bool) → IsPassed m (asks q b g)
      by differs true = (
        elim h.0 [ inl a ↦ inl a | inr p ↦ inr (p.0, at_other g.allocator.raft_server.memory.pending q m (Some (asking q g)) differs ∙ p.1) ],
        passed_offers m q true g differs h.1,
      )
      by differs false = (h.0, passed_offers m q false g differs h.1)

  -- who is none of the peers is not asked
  none_other : (m : ℕ) (peers : List ℕ) (g : StepState) → (In m peers → ⊥) → Stands g → (HasAskedIn m g.offers → ⊥) → HasAskedIn m (calls_all number peers g).offers → ⊥
  none_other m [] g out stands none = none
  none_other m (q ∷ peers) g out stands none =
      let next = turn (λ (x : StepState). Stands x × (HasAskedIn m x.offers → ⊥)) q g g.allocator.raft_server.memory.role stands (λ r e. (stands, none)) (λ e. (stands, none))
      (λ e a fits. (stands_on q fits g stands, by fits)) in
      none_other m peers (calls_peer number q g) (λ i. out (inr i)) next.0 next.1
    where
      by : (fits : Bool) → HasAskedIn m (asks q fits g).offers → ⊥
      by true = passed_offers m q true g (λ e. out (inl e)) none
      by false = passed_offers m q false g (λ e. out (inl e)) none

-- ---- the whole step

module _ (t : AllocatorState) (number : ℕ) (event : Event) where
  abbrev told : StepState
  told = when_told t number event

  abbrev pub after : StepState
  after = (step t number event).step_state

  none_told : (m : ℕ) → HasAskedIn m told.offers → ⊥
  none_told m c = let low = (told_only t number event).each c.0 c.1 in let high = ap rank c.2 in omega (arith, low, high)

  module _ (stands : after.allocator.raft_server.memory.role ≡ Candidate) where
    pub stood : told.allocator.raft_server.memory.role ≡ Candidate
    stood = sym (same_after t number event).0 ∙ stands

    -- who has answered, and who is called already, is not asked
    pub not_asked : (m : ℕ) → (told.allocator.times.answered m ≡ true) ⊎ ((r : Request) × (told.allocator.raft_server.memory.pending m ≡ Some r))
        → HasAskedIn m after.offers → ⊥
    unfolding step
    not_asked m h = (all number (IsPassed number m) (passed number m) (drop 1 (members_of told.allocator)) told stood (h, none_told m)).1.1

    -- nor is who is no peer on the list
    pub not_listed : (m : ℕ) → (In m (drop 1 (members_of after.allocator)) → ⊥) → HasAskedIn m after.offers → ⊥
    unfolding step
    not_listed m out = none_other number m (drop 1 (members_of told.allocator)) told
        (λ i. out (subst (λ (list : List ℕ). In m (drop 1 list)) (sym (same_after t number event).2) i)) stood (none_told m)

    -- any other one is
    pub is_asked : (m : ℕ) → In m (drop 1 (members_of after.allocator)) → told.allocator.raft_server.memory.pending m ≡ None
        → told.allocator.times.answered m ≡ false → HasAsked number m after
    unfolding step
    is_asked m i free none = all_asked number m (drop 1 (members_of told.allocator)) told
        (subst (λ (list : List ℕ). In m (drop 1 list)) (same_after t number event).2 i) stood (free, none)

    -- calls leave who has answered
    pub answered_same : (m : ℕ) → after.allocator.times.answered m ≡ told.allocator.times.answered m
    unfolding step
    answered_same m = (all number (λ (g : StepState). g.allocator.times.answered m ≡ told.allocator.times.answered m)
        (λ q g h free none fits. by q g h fits) (drop 1 (members_of told.allocator)) told stood refl).1
      where
        by : (q : ℕ) (g : StepState) → g.allocator.times.answered m ≡ told.allocator.times.answered m → (fits : Bool)
            → (asks number q fits g).allocator.times.answered m ≡ told.allocator.times.answered m
        by q g h true = h
        by q g h false = h

    -- and the term
    pub term_same : after.allocator.raft_server.store.term ≡ told.allocator.raft_server.store.term
    unfolding step
    term_same = (all number (λ (g : StepState). g.allocator.raft_server.store.term ≡ told.allocator.raft_server.store.term)
        (λ q g h free none fits. by q g h fits) (drop 1 (members_of told.allocator)) told stood refl).1
      where
        by : (q : ℕ) (g : StepState) → g.allocator.raft_server.store.term ≡ told.allocator.raft_server.store.term → (fits : Bool)
            → (asks number q fits g).allocator.raft_server.store.term ≡ told.allocator.raft_server.store.term
        by q g h true = h
        by q g h false = h

    -- and a call that is pending
    pub pending_same : (m : ℕ) (r : Request) (s : Option Sending) → told.allocator.raft_server.memory.pending m ≡ Some r → told.allocator.times.sending m ≡ s
        → (after.allocator.raft_server.memory.pending m ≡ Some r) × (after.allocator.times.sending m ≡ s)
    unfolding step
    pending_same m r s p e = (all number (λ (g : StepState). (g.allocator.raft_server.memory.pending m ≡ Some r) × (g.allocator.times.sending m ≡ s))
        by (drop 1 (members_of told.allocator)) told stood (p, e)).1
      where
        by : (q : ℕ) (g : StepState) → (g.allocator.raft_server.memory.pending m ≡ Some r) × (g.allocator.times.sending m ≡ s)
            → g.allocator.raft_server.memory.pending q ≡ None → g.allocator.times.answered q ≡ false → (fits : Bool)
            → ((asks number q fits g).allocator.raft_server.memory.pending m ≡ Some r) × ((asks number q fits g).allocator.times.sending m ≡ s)
        by q g h free none true = elim (eqb_tells m q) [
          | inl z ↦ absurd (cc (sym free ∙ (sym (ap g.allocator.raft_server.memory.pending z.1) ∙ h.0)))
          | inr z ↦ (
            at_other g.allocator.raft_server.memory.pending q m (Some (asking number q g)) z.1 ∙ h.0,
            at_other g.allocator.times.sending q m (Some (record { id = id_of g.allocator.ids VoteQ q; moment = g.allocator.now })) z.1 ∙ h.1,
          )
        ]
        by q g h free none false = h

    -- ---- where the term stays

    -- the call that was pending is pending still
    pub record IsKept (m : ℕ) : Type 0 where
      pub request : Request
      pub was : t.raft_server.memory.pending m ≡ Some request
      pub is : after.allocator.raft_server.memory.pending m ≡ Some request
      pub sending : after.allocator.times.sending m ≡ t.times.sending m

    -- The peer has answered; or it has as before, and is asked, or the call to it is pending still.
    abbrev pub IsSettled : ℕ → Type 0
    IsSettled m = (after.allocator.times.answered m ≡ true)
        ⊎ ((after.allocator.times.answered m ≡ t.times.answered m) × (HasAsked number m after ⊎ IsKept m))

    module _ (m : ℕ) (i : In m (drop 1 (members_of after.allocator))) where
      -- before the calls
      by_told : (a : Bool) → told.allocator.times.answered m ≡ a → told.allocator.times.answered m ≡ t.times.answered m
          → (told.allocator.raft_server.memory.pending m ≡ None)
          ⊎ ((told.allocator.raft_server.memory.pending m ≡ t.raft_server.memory.pending m) × (told.allocator.times.sending m ≡ t.times.sending m))
          → (p : Option Request) → told.allocator.raft_server.memory.pending m ≡ p → IsSettled m
      by_told true a same h p e = inl (answered_same m ∙ a)
      by_told false a same h None e = inr (answered_same m ∙ same, inl (is_asked m i e a))
      by_told false a same (inl none) (Some r) e = absurd (cc (sym none ∙ e))
      by_told false a same (inr k) (Some r) e =
          let there = pending_same m r (t.times.sending m) e k.1 in
          inr (answered_same m ∙ same, inr (record { request = r; was = sym k.0 ∙ e; is = there.0; sending = there.1 }))

      pub settled : told.allocator.raft_server.store.term ≡ t.raft_server.store.term → IsSettled m
      settled same = elim ((settled_then m t number event).1 stood same) [
        | inl a ↦ inl (answered_same m ∙ a)
        | inr x ↦ by_told (told.allocator.times.answered m) refl x.0 x.1 (told.allocator.raft_server.memory.pending m) refl
      ]
