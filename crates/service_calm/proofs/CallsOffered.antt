-- What a step keeps of a leader's calls to one peer, where it offers the peer no append request.
use Rattle.std.proofs.Common.{◌≡◌, ◌≢◌, ℕ, Bool, true, false, List, [], ◌∷◌, ◌++◌, length, drop, refl, sym, ◌∙◌, ap, subst, inl, inr, Option, None, Some}
use Rattle.std.specs.Prelude.{⊤, ◌⊎◌, ◌-◌, ◌||◌, nat_le}
use Rattle.std.proofs.lemmas.Bool.Decides.{eqb_tells}
use Rattle.can_frame.specs.declared.step.What.{What}
use Rattle.can_frame.specs.declared.step.What.TheVariants.{AppQ, VoteQ}
use Rattle.raft_core.specs.Calls.{due, due_unless}
use Rattle.raft_core.specs.Times.{Sending, Times, given_call, is_silent}
use Rattle.raft_model.specs.Lists.{In, at, at_other}
use Rattle.raft_model.specs.Messages.{Request}
use Rattle.raft_model.specs.Messages.Message.{Requests}
use Rattle.raft_model.specs.Moves.{Move}
use Rattle.raft_model.specs.Moves.Leading.{append_request, vote_request}
use Rattle.raft_model.specs.Moves.Move.{CallForVote, CallToAppend}
use Rattle.raft_model.specs.Server.{Memory, Role}
use Rattle.raft_model.specs.Server.Role.{Candidate, Follower, Leader}
use Rattle.alloc_spec.specs.AllocatorState.{AllocatorState, members_of}
use Rattle.alloc_spec.specs.Ending.{append_call_bytes, calls_all, calls_owed, calls_peer, vote_call_bytes}
use Rattle.alloc_spec.specs.Step.{Event, step}
use Rattle.alloc_spec.specs.StepState.{StepState, with_counter, with_move_if, with_offer}
use Rattle.alloc_spec.specs.Transfers.{Offer, has_room, id_of}
use Rattle.alloc_spec_laws.specs.Phases.{when_told}
use Rattle.alloc_spec_laws.proofs.Choices.{either}
use Rattle.alloc_spec_laws.proofs.Lists.{in_back, in_front}
use Rattle.service_calm.proofs.PeerMoves.{IsKeptByMoves, OfPeer, until_calls}

-- what may hold of the pending call to a peer, of what is kept with it, and of the moment of the last append request
abbrev pub OfCalls : Type 1
OfCalls = Option Request → Option Sending → Option ℕ → Type 0

-- an append request to the peer is among these offers
abbrev pub Offered : ℕ → List Offer → Type 0
Offered m offers = (offer : Offer) × In offer offers × (offer.what ≡ AppQ) × (offer.to ≡ m)

-- where a server leads, this holds of its calls to the peer
abbrev pub OfLeader : ℕ → OfCalls → Memory → Times → Type 0
OfLeader m H memory times = memory.role ≡ Leader → H (memory.pending m) (times.sending m) (times.appended m)

-- or an append request to the peer is offered
abbrev pub OrOffered : ℕ → OfCalls → List Offer → OfCalls
OrOffered m H offers p s a = Offered m offers ⊎ H p s a

abbrev pub Kept : ℕ → OfCalls → StepState → Type 0
Kept m H g = OfLeader m (OrOffered m H g.offers) g.allocator.raft_server.memory g.allocator.times

-- ---- until the calls

offered_still : (m : ℕ) (offers : List Offer) (offer : Offer) → Offered m offers → Offered m (offers ++ offer ∷ [])
offered_still m offers offer c = (c.0, in_front c.0 offers (offer ∷ []) c.1, c.2, c.3)

-- moves that call nobody keep what holds where a server leads, whatever its term
abbrev Leading : OfCalls → OfPeer
Leading H r term p s a l = r ≡ Leader → H p s l

abbrev AnyTerm : ℕ → ℕ → Type 0
AnyTerm term more = ⊤

leading_kept : (H : OfCalls) → ((p : Option Request) (s : Option Sending) (a : Option ℕ) → H p s a → H None None a) → H None None None
    → IsKeptByMoves AnyTerm (Leading H)
leading_kept H ended won = record {
  ended = λ r term p s a l h leads. ended p s l (h leads);
  voted = λ r term p s a l h leads. ended p s l (h leads);
  won = λ r term p s a b l h leads. won;
  stood = λ r term p s a l h leads. absurd (cc leads);
  follows = λ r term p s a l h leads. absurd (cc leads);
  rises = λ r term more p s a l up h. h;
}

-- ---- the calls

-- the offer of a call
abbrev call_offer : What → ℕ → Request → List ℕ → Bool → StepState → Offer
call_offer what q request payload fits g = record {
  what = what;
  to = q;
  id = id_of g.allocator.ids what q;
  payload = payload;
  re = 0;
  says = Some (Requests request);
  fitted = fits;
}

-- the call, where it fits and where not
abbrev pub called : ℕ → What → ℕ → Move → Request → List ℕ → Bool → StepState → StepState
called number what q move request payload fits g =
    with_move_if fits number (given_call g.allocator.now (id_of g.allocator.ids what q)) move
    (with_counter fits what q (with_offer number (call_offer what q request payload fits g) g))

-- who leads is no candidate
pub clash : (role : Role) → role ≡ Candidate → role ≡ Leader → ⊥
clash role e f = absurd (cc (e, f))

-- what calls for votes and calls to append keep, all calls keep
module _ (number : ℕ) (K : StepState → Type 0)
    (votes : (q : ℕ) (request : Request) (payload : List ℕ) (fits : Bool) (g : StepState) → g.allocator.raft_server.memory.role ≡ Candidate → K g
    → K (called number VoteQ q (CallForVote q) request payload fits g))
    (appends : (q previous : ℕ) (request : Request) (payload : List ℕ) (fits : Bool) (g : StepState) → K g
    → K (called number AppQ q (CallToAppend q previous true) request payload fits g)) where
  by_role : (q : ℕ) (g : StepState) (pending : Option Request) (role : Role) → g.allocator.raft_server.memory.role ≡ role → K g
      → K (calls_owed number (due_unless pending (due role g.allocator.raft_server g.allocator.times q g.allocator.now)) g)
  by_role q g (Some request) role e h = h
  by_role q g None Follower e h = h
  by_role q g None Candidate e h =
      let request : Request = vote_request g.allocator.me number g.allocator.raft_server.store q in
      either (λ (call : Option Move). K (calls_owed number call g)) (g.allocator.times.answered q) None (Some (CallForVote q)) (λ a. h)
      (λ a. votes q request (vote_call_bytes request) (has_room g.allocator.queue (vote_call_bytes request)) g e h)
  by_role q g None Leader e h =
      let previous : ℕ = g.allocator.raft_server.memory.next q - 1 in
      let request : Request = append_request g.allocator.me number g.allocator.raft_server.store q previous true in
      either (λ (call : Option Move). K (calls_owed number call g))
      (nat_le (g.allocator.raft_server.memory.next q) (length g.allocator.raft_server.store.log) || is_silent (g.allocator.times.appended q) g.allocator.now)
      (Some (CallToAppend q previous true)) None
      (λ a. appends q previous request (append_call_bytes request) (has_room g.allocator.queue (append_call_bytes request)) g h) (λ a. h)

  one_keeps : (q : ℕ) (g : StepState) → K g → K (calls_peer number q g)
  one_keeps q g h = by_role q g (g.allocator.raft_server.memory.pending q) g.allocator.raft_server.memory.role refl h

  pub all_keep : (peers : List ℕ) (g : StepState) → K g → K (calls_all number peers g)
  all_keep [] g h = h
  all_keep (q ∷ peers) g h = all_keep peers (calls_peer number q g) (one_keeps q g h)

-- the role, the moment and the list
abbrev pub Same : Role → ℕ → List ℕ → StepState → Type 0
Same role now list g = (g.allocator.raft_server.memory.role ≡ role) × (g.allocator.now ≡ now) × (members_of g.allocator ≡ list)

module _ (number : ℕ) (role : Role) (now : ℕ) (list : List ℕ) where
  same_votes : (q : ℕ) (request : Request) (payload : List ℕ) (fits : Bool) (g : StepState) → g.allocator.raft_server.memory.role ≡ Candidate → Same role now list g
      → Same role now list (called number VoteQ q (CallForVote q) request payload fits g)
  same_votes q request payload true g e h = h
  same_votes q request payload false g e h = h

  same_appends : (q previous : ℕ) (request : Request) (payload : List ℕ) (fits : Bool) (g : StepState) → Same role now list g
      → Same role now list (called number AppQ q (CallToAppend q previous true) request payload fits g)
  same_appends q previous request payload true g h = h
  same_appends q previous request payload false g h = h

module _ (number m : ℕ) where
  offers_it : (q previous : ℕ) (request : Request) (payload : List ℕ) (fits : Bool) (g : StepState)
      → Offered q (called number AppQ q (CallToAppend q previous true) request payload fits g).offers
  offers_it q previous request payload true g =
      let offer : Offer = call_offer AppQ q request payload true g in (offer, in_back offer g.offers (offer ∷ []) (inl refl), refl, refl)
  offers_it q previous request payload false g =
      let offer : Offer = call_offer AppQ q request payload false g in (offer, in_back offer g.offers (offer ∷ []) (inl refl), refl, refl)

  module _ (H : OfCalls) where
    kept_votes : (q : ℕ) (request : Request) (payload : List ℕ) (fits : Bool) (g : StepState) → g.allocator.raft_server.memory.role ≡ Candidate → Kept m H g
        → Kept m H (called number VoteQ q (CallForVote q) request payload fits g)
    kept_votes q request payload true g e h leads = absurd (clash g.allocator.raft_server.memory.role e leads)
    kept_votes q request payload false g e h leads = absurd (clash g.allocator.raft_server.memory.role e leads)

    -- a call to another peer leaves what is kept of this one's
    pub others : (q : ℕ) (pending : ℕ → Option Request) (sending : ℕ → Option Sending) (appended : ℕ → Option ℕ) (p : Option Request) (s : Option Sending) (a : Option ℕ)
        → m ≢ q → H (pending m) (sending m) (appended m) → H (at pending q p m) (at sending q s m) (at appended q a m)
    others q pending sending appended p s a differs h =
        subst (λ (x : Option Request). H x (at sending q s m) (at appended q a m)) (sym (at_other pending q m p differs))
        (subst (λ (x : Option Sending). H (pending m) x (at appended q a m)) (sym (at_other sending q m s differs))
        (subst (λ (x : Option ℕ). H (pending m) (sending m) x) (sym (at_other appended q m a differs)) h))

    kept_appends : (q previous : ℕ) (request : Request) (payload : List ℕ) (fits : Bool) (g : StepState) → Kept m H g
        → Kept m H (called number AppQ q (CallToAppend q previous true) request payload fits g)
    kept_appends q previous request payload true g h leads = elim (eqb_tells m q) [
      | inl z ↦ inl (subst (λ (n : ℕ). Offered n (called number AppQ q (CallToAppend q previous true) request payload true g).offers) (sym z.1)
          (offers_it q previous request payload true g))
      | inr z ↦ elim (h leads) [
        | inl c ↦ inl (offered_still m g.offers (call_offer AppQ q request payload true g) c)
        | inr k ↦ inr (others q g.allocator.raft_server.memory.pending g.allocator.times.sending g.allocator.times.appended _ _ _ z.1 k)
      ]
    ]
    kept_appends q previous request payload false g h leads = elim (h leads) [
      | inl c ↦ inl (offered_still m g.offers (call_offer AppQ q request payload false g) c)
      | inr k ↦ inr k
    ]

  -- a call is pending, or the last append request was made not long ago
  abbrev Touched : ℕ → OfCalls
  Touched now p s a = (p ≢ None) ⊎ (is_silent a now ≡ false)

  not_silent : (x y : Bool) → (x || y) ≡ false → y ≡ false
  not_silent true y e = absurd (cc e)
  not_silent false y e = e

  touches : (g : StepState) (pending : Option Request) → g.allocator.raft_server.memory.pending m ≡ pending
      → Kept m (Touched g.allocator.now) (calls_owed number (due_unless pending (due Leader g.allocator.raft_server g.allocator.times m g.allocator.now)) g)
  touches g (Some request) e = λ leads. inr (inl (λ none. absurd (cc (e, none))))
  touches g None e =
      let previous : ℕ = g.allocator.raft_server.memory.next m - 1 in
      let request : Request = append_request g.allocator.me number g.allocator.raft_server.store m previous true in
      let old : Bool = nat_le (g.allocator.raft_server.memory.next m) (length g.allocator.raft_server.store.log) in
      let silent : Bool = is_silent (g.allocator.times.appended m) g.allocator.now in
      either (λ (call : Option Move). Kept m (Touched g.allocator.now) (calls_owed number call g)) (old || silent) (Some (CallToAppend m previous true)) None
      (λ a leads. inl (offers_it m previous request (append_call_bytes request) (has_room g.allocator.queue (append_call_bytes request)) g))
      (λ a leads. inr (inr (not_silent old silent a)))

  touched : (now : ℕ) (list : List ℕ) (g : StepState) → Same Leader now list g → Kept m (Touched now) (calls_peer number m g)
  touched now list g same = subst (λ (n : ℕ). Kept m (Touched n) (calls_peer number m g)) same.1
      (subst (λ (role : Role). Kept m (Touched g.allocator.now) (calls_owed number (due_unless (g.allocator.raft_server.memory.pending m) (due role g.allocator.raft_server g.allocator.times m g.allocator.now)) g))
      (sym same.0) (touches g (g.allocator.raft_server.memory.pending m) refl))

  all_touched : (now : ℕ) (list peers : List ℕ) (g : StepState) → In m peers → Same Leader now list g → Kept m (Touched now) (calls_all number peers g)
  all_touched now list [] g i same = absurd i
  all_touched now list (q ∷ peers) g (inl e) same =
      all_keep number (Kept m (Touched now)) (kept_votes (Touched now)) (kept_appends (Touched now)) peers (calls_peer number q g)
      (subst (λ (n : ℕ). Kept m (Touched now) (calls_peer number n g)) e (touched now list g same))
  all_touched now list (q ∷ peers) g (inr i) same = all_touched now list peers (calls_peer number q g) i
      (one_keeps number (Same Leader now list) (same_votes number Leader now list) (same_appends number Leader now list) q g same)

-- ---- the whole step

module _ (m : ℕ) (H : OfCalls) (ended : (p : Option Request) (s : Option Sending) (a : Option ℕ) → H p s a → H None None a) (won : H None None None)
    (t : AllocatorState) (number : ℕ) (event : Event) where
  -- until a step makes its calls, this is kept
  pub before_calls : OfLeader m H t.raft_server.memory t.times
      → OfLeader m H (when_told t number event).allocator.raft_server.memory (when_told t number event).allocator.times
  before_calls h = until_calls m AnyTerm (Leading H) (leading_kept H ended won) (λ members me number server move. tt) number t event h

  pub step_keeps_calls : OfLeader m H t.raft_server.memory t.times → Kept m H (step t number event).step_state
  unfolding step
  step_keeps_calls h = all_keep number (Kept m H) (kept_votes number m H) (kept_appends number m H)
      (drop 1 (members_of (when_told t number event).allocator)) (when_told t number event) (λ leads. inr (before_calls h leads))

-- the calls of a step leave its role, its moment and its list
pub same_after : (t : AllocatorState) (number : ℕ) (event : Event) → let told = (when_told t number event).allocator in
    Same told.raft_server.memory.role told.now (members_of told) (step t number event).step_state
unfolding step
same_after t number event = let told : AllocatorState = (when_told t number event).allocator in
    all_keep number (Same told.raft_server.memory.role told.now (members_of told))
    (same_votes number told.raft_server.memory.role told.now (members_of told)) (same_appends number told.raft_server.memory.role told.now (members_of told))
    (drop 1 (members_of told)) (when_told t number event) (refl, refl, refl)

step_touches : (t : AllocatorState) (number : ℕ) (event : Event) (m : ℕ) → (when_told t number event).allocator.raft_server.memory.role ≡ Leader
    → In m (drop 1 (members_of (when_told t number event).allocator))
    → Kept m (Touched number m (when_told t number event).allocator.now) (step t number event).step_state
unfolding step
step_touches t number event m leads i =
    all_touched number m (when_told t number event).allocator.now (members_of (when_told t number event).allocator) (drop 1 (members_of (when_told t number event).allocator)) (when_told t number event) i
    (leads, refl, refl)

-- when a step of a leader is over, an append request to each peer of its list is offered, or a call to it is pending, or
-- the last append request was made not long ago
pub touches_after : (t : AllocatorState) (number : ℕ) (event : Event) (m : ℕ) → let after = (step t number event).step_state in
    after.allocator.raft_server.memory.role ≡ Leader → In m (drop 1 (members_of after.allocator))
    → Offered m after.offers ⊎ (after.allocator.raft_server.memory.pending m ≢ None) ⊎ (is_silent (after.allocator.times.appended m) after.allocator.now ≡ false)
touches_after t number event m leads i =
    let same = same_after t number event in
    elim (step_touches t number event m (sym same.0 ∙ leads) (subst (λ (list : List ℕ). In m (drop 1 list)) same.2 i) leads) [
      | inl c ↦ inl c
      | inr (inl some) ↦ inr (inl some)
      | inr (inr spoke) ↦ inr (inr (ap (λ (now : ℕ). is_silent ((step t number event).step_state.allocator.times.appended m) now) same.1 ∙ spoke))
    ]
