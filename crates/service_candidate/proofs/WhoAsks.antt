-- Who is no candidate when a step is over asks nobody for its vote in it.
use Rattle.std.proofs.Common.{◌≡◌, ◌≢◌, ℕ, ◌+◌, true, List, [], ◌∷◌, ◌++◌, refl, sym, ◌∙◌, ap, subst, inl, inr, arith, drop, Option, None, Some}
use Rattle.std.specs.Prelude.{◌-◌, ◌||◌, length, nat_le}
use Rattle.can_frame.specs.declared.step.What.TheVariants.{AppQ, VoteQ}
use Rattle.raft_core.specs.Calls.{due, due_unless}
use Rattle.raft_core.specs.Times.{given_call, is_silent}
use Rattle.raft_model.specs.Lists.{In}
use Rattle.raft_model.specs.Messages.{Request}
use Rattle.raft_model.specs.Messages.Message.{Requests}
use Rattle.raft_model.specs.Moves.{Move}
use Rattle.raft_model.specs.Moves.Leading.{append_request}
use Rattle.raft_model.specs.Moves.Move.{CallToAppend}
use Rattle.raft_model.specs.Server.{Role}
use Rattle.raft_model.specs.Server.Role.{Candidate, Follower, Leader}
use Rattle.alloc_spec.specs.AllocatorState.{AllocatorState, members_of}
use Rattle.alloc_spec.specs.Ending.{append_call_bytes, calls_all, calls_owed, calls_peer}
use Rattle.alloc_spec.specs.Step.{Event, begin_phase, moment_of, step}
use Rattle.alloc_spec.specs.StepState.{StepState, with_moves, with_transfer}
use Rattle.alloc_spec.specs.Transfers.{Offer, has_room, id_of}
use Rattle.alloc_spec_laws.specs.Phases.{when_committed, when_told}
use Rattle.alloc_spec_laws.proofs.Choices.{either}
use Rattle.alloc_spec_laws.proofs.DistinctTransfers.{rank}
use Rattle.alloc_spec_laws.proofs.EndOffers.{tells}
use Rattle.alloc_spec_laws.proofs.Lists.{in_append}
use Rattle.alloc_spec_laws.proofs.Transfers.{event_offers}
use Rattle.service_calm.proofs.CallsOffered.{same_after}
use Rattle.raft_model.specs.Lists.{at, at_here}
use Rattle.bus_rows.specs.declared.row.Row.{Row}
use Rattle.bus_rows.specs.declared.row.Row.TheVariants.{AEnd, AOpen, ARx, ASend, ATick, Crash, Ext, Fault, Open, Rx, Send, Tick}
use Rattle.bus_rows.specs.Timed.{Timed, rows_in}
use Rattle.service_candidate.specs.Wins.{OffersVoteRequest}
use Rattle.service_candidate.proofs.FirstToStand.{AllFollow}
use Rattle.service_candidate.proofs.RowsLeave.{stepped}
use Rattle.service_leader.proofs.Stretches.{throughout_rest, world_both}
use Rattle.service_calm.specs.Calm.{Member as OfMember, Party}
use Rattle.service_calm.specs.Comes.{Throughout}
use Rattle.service_calm.proofs.Pair.{same_event, same_stepper}
use Rattle.bus_spec.specs.Cluster.{Cluster, after_row, after_rows, receipt_of, step_of, tick_of}
use Rattle.bus_spec.specs.Members.{Member, member_after_step}
use Rattle.bus_spec.specs.Members.MemberStatus.{Up}

-- a vote request is among these offers
abbrev pub HasVoteCall : List Offer → Type 0
HasVoteCall offers = (offer : Offer) × In offer offers × (offer.what ≡ VoteQ)

module _ (number : ℕ) (role : Role) (other : role ≢ Candidate) where
  -- none was offered
  abbrev IsSilent : StepState → Type 0
  IsSilent g = (g.allocator.raft_server.memory.role ≡ role) × (HasVoteCall g.offers → ⊥)

  module _ (q : ℕ) (g : StepState) (h : IsSilent g) where
    abbrev asked : Request
    asked = append_request g.allocator.me number g.allocator.raft_server.store q (g.allocator.raft_server.memory.next q - 1) true

    abbrev offered : StepState
    offered = with_transfer number AppQ q (append_call_bytes asked) (Some (Requests asked)) g

    still : HasVoteCall offered.offers → ⊥
    still c = elim (in_append c.0 g.offers _ c.1) [
      | inl i ↦ h.1 (c.0, i, c.2)
      | inr (inl e) ↦ cc (sym (ap (λ (o : Offer). o.what) e) ∙ c.2)
      | inr (inr i) ↦ i
    ]

    by_role : (r : Role) → r ≡ role → (p : Option Request) → IsSilent (calls_owed number (due_unless p (due r g.allocator.raft_server g.allocator.times q g.allocator.now)) g)
    by_role r e (Some request) = h
    by_role Follower e None = h
    by_role Candidate e None = absurd (other (sym e))
    by_role Leader e None = either (λ (call : Option Move). IsSilent (calls_owed number call g))
        (nat_le (g.allocator.raft_server.memory.next q) (length g.allocator.raft_server.store.log) || is_silent (g.allocator.times.appended q) g.allocator.now)
        (Some (CallToAppend q (g.allocator.raft_server.memory.next q - 1) true)) None
        (λ a. either IsSilent (has_room g.allocator.queue (append_call_bytes asked))
        (with_moves number (given_call g.allocator.now (id_of g.allocator.ids AppQ q)) (CallToAppend q (g.allocator.raft_server.memory.next q - 1) true ∷ []) offered) offered
        (λ r. (h.0, still)) (λ r. (h.0, still))) (λ a. h)

    silent_one : IsSilent (calls_peer number q g)
    silent_one = subst (λ (r : Role). IsSilent (calls_owed number (due_unless (g.allocator.raft_server.memory.pending q) (due r g.allocator.raft_server g.allocator.times q g.allocator.now)) g))
        (sym h.0) (by_role role refl (g.allocator.raft_server.memory.pending q))

  silent_all : (peers : List ℕ) (g : StepState) → IsSilent g → IsSilent (calls_all number peers g)
  silent_all [] g h = h
  silent_all (q ∷ peers) g h = silent_all peers (calls_peer number q g) (silent_one q g h)

-- a call is none before the calls
none_before : (t : AllocatorState) (number : ℕ) (event : Event) → HasVoteCall (when_told t number event).offers → ⊥
none_before t number event c =
    let low = (tells number (when_committed t number event) (event_offers number event (begin_phase number (moment_of event) t) refl)).each c.0 c.1 in
    let high = ap rank c.2 in omega (arith, low, high)

-- who is no candidate when a step is over asked nobody in it
pub who_asks_stands : (t : AllocatorState) (number : ℕ) (event : Event) → (step t number event).step_state.allocator.raft_server.memory.role ≢ Candidate
    → HasVoteCall (step t number event).step_state.offers → ⊥
unfolding step
who_asks_stands t number event other = (silent_all number (when_told t number event).allocator.raft_server.memory.role
    (λ e. other ((same_after t number event).0 ∙ e)) (drop 1 (members_of (when_told t number event).allocator)) (when_told t number event)
    (refl, none_before t number event)).1

-- ---- rows

none_is : (n : ℕ) (event : Event) → ◌≡◌ {A = Option (ℕ × Event)} None (Some (n, event)) → ⊥
none_is n event e = cc e

-- a row that is a step of a member leaves what the step does
module _ (w : Cluster) (n : ℕ) (event : Event) (t u : AllocatorState) (up : (w.member n).status ≡ Up t) where
  own : (p : ℕ) (its : Event) → p ≡ n → its ≡ event → (at w.member p (member_after_step (w.rows + 1) its (w.member p).status (w.member p)) n).status ≡ Up u
      → u ≡ (step t (w.rows + 1) event).step_state.allocator
  own p its same same_its e = stepped (w.member n) (w.rows + 1) event t u up (subst (λ (x : Member). x.status ≡ Up u)
      (at_here w.member p n (member_after_step (w.rows + 1) its (w.member p).status (w.member p)) (sym same)
      ∙ (λ j. member_after_step (w.rows + 1) (same_its j) (w.member (same j)).status (w.member (same j)))) e)

  step_leaves : (row : Row) → step_of w row ≡ Some (n, event) → ((after_row w row).member n).status ≡ Up u → u ≡ (step t (w.rows + 1) event).step_state.allocator
  step_leaves (Tick p ms word) e = own p (tick_of ms word) (same_stepper p n (tick_of ms word) event e) (same_event p n (tick_of ms word) event e)
  step_leaves (Rx p k ms) e = own p (receipt_of w k ms) (same_stepper p n (receipt_of w k ms) event e) (same_event p n (receipt_of w k ms) event e)
  step_leaves (Send p) e = absurd (none_is n event e)
  step_leaves (ATick a ms word) e = absurd (none_is n event e)
  step_leaves (ARx a k ms word) e = absurd (none_is n event e)
  step_leaves (ASend a) e = absurd (none_is n event e)
  step_leaves (Open p told ms word) e = absurd (none_is n event e)
  step_leaves (Ext frame) e = absurd (none_is n event e)
  step_leaves (Crash p calls pattern) e = absurd (none_is n event e)
  step_leaves (Fault p call) e = absurd (none_is n event e)
  step_leaves (AOpen a uid pref ms word) e = absurd (none_is n event e)
  step_leaves (AEnd a) e = absurd (none_is n event e)

no_candidate : (role : Role) → role ≡ Follower → role ≢ Candidate
no_candidate role e f = cc (sym e ∙ f)

-- what holds before each row and behind them holds at first
at_first : (Holds : Cluster → Type 0) (front : List Timed) (w : Cluster) → Throughout Holds w front → Holds (after_rows w (rows_in front)) → Holds w
at_first Holds [] w all here = here
at_first Holds (timed ∷ front) w all here = all.0

-- in none of these rows member n offers a vote request
abbrev pub AskedNobody : ℕ → Cluster → List Timed → Type 0
AskedNobody n w whole = (front rest : List Timed) (timed : Timed) (m : ℕ) → whole ≡ front ++ timed ∷ rest
    → OffersVoteRequest n m (after_rows w (rows_in front)) timed.row → ⊥

-- where all follow before each row and behind them, nobody asks for a vote
pub who_follows_asks_nobody : (group : List Party) (c : ℕ) → In (OfMember c) group → (whole : List Timed) (w : Cluster) → Throughout (AllFollow group) w whole
    → AllFollow group (after_rows w (rows_in whole)) → AskedNobody c w whole
who_follows_asks_nobody group c i whole w all end front rest timed m e asks =
    let here : Cluster = after_rows w (rows_in front) in
    let behind : AllFollow group (after_row here timed.row) = at_first (AllFollow group) rest (after_row here timed.row)
    (throughout_rest (AllFollow group) front (timed ∷ rest) w (subst (Throughout (AllFollow group) w) e all)).1
    (subst (AllFollow group) (ap (λ (l : List Timed). after_rows w (rows_in l)) e ∙ world_both w front (timed ∷ rest)) end) in
    let its = behind c i in
    let same = step_leaves here c asks.event asks.server its.0 asks.runs timed.row asks.in_step its.1 in
    who_asks_stands asks.server (here.rows + 1) asks.event
    (no_candidate _ (ap (λ (q : AllocatorState). q.raft_server.memory.role) (sym same) ∙ its.2)) (asks.offer, asks.offered, asks.what)
