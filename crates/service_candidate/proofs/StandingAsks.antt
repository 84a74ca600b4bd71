-- Who stands for election asks each peer on its list for its vote, in the same step.
use Rattle.std.proofs.Common.{◌≡◌, ◌≢◌, ℕ, ◌+◌, arith, Bool, true, false, List, [], ◌∷◌, refl, sym, ◌∙◌, ap, subst, inl, inr, max, drop, None, Some}
use Rattle.std.specs.Prelude.{◌⊎◌, if◌then◌else◌}
use Rattle.std.proofs.lemmas.Bool.Decides.{eqb_tells}
use Rattle.can_frame.specs.declared.step.What.TheVariants.{VoteQ}
use Rattle.raft_core.specs.Times.{Times, given_tick, overdue, stand, times_after, win}
use Rattle.raft_model.specs.Handlers.{server_after}
use Rattle.raft_model.specs.Lists.{In, at_here, at_other}
use Rattle.raft_model.specs.Messages.{Request}
use Rattle.raft_model.specs.Messages.Message.{Requests}
use Rattle.raft_model.specs.Moves.Elections.{has_quorum, own_vote, stand_memory, stand_puts, win_memory}
use Rattle.raft_model.specs.Moves.Leading.{vote_request}
use Rattle.raft_model.specs.Moves.Move.{TimeOut}
use Rattle.raft_model.specs.Server.{RaftServer, Role, Store, put_all}
use Rattle.raft_model.specs.Server.Role.{Candidate, Leader}
use Rattle.alloc_spec.specs.AllocatorState.{AllocatorState, members_of, start_of}
use Rattle.alloc_spec.specs.Ending.{calls_all, calls_peer}
use Rattle.alloc_spec.specs.Step.{all_nodes, at_moment, begin_phase, step}
use Rattle.alloc_spec.specs.Step.Event.{Tick}
use Rattle.alloc_spec.specs.StepState.{StepState}
use Rattle.alloc_spec.specs.Tick.{clock_phase}
use Rattle.alloc_spec.specs.Transfers.{Offer, id_of}
use Rattle.alloc_spec_laws.specs.Phases.{when_told}
use Rattle.alloc_spec_laws.proofs.Lists.{in_back, in_front}
use Rattle.alloc_spec_laws.proofs.Peers.{members_list}
use Rattle.service_steps.proofs.Begins.{expired}
use Rattle.service_leader.proofs.VoteCalls.{candidate_calls, vote_asked, vote_called, vote_offer, vote_offered}
use Rattle.service_leader.proofs.RaftPhases.{Ends, EndsQuietly, Grows, Keeps, OfRole, OfServer, all_called, at_tick, role_ends, until_calls, when_ticked}
use Rattle.service_calm.proofs.CallsOffered.{same_after}

-- a peer on the list stands behind the server itself
in_peers : (t : AllocatorState) (m : ℕ) → In m (members_of t) → m ≢ t.me → In m (drop 1 (members_of t))
in_peers t m i other = let l = members_list (start_of t) t.heard in
    subst (λ (list : List ℕ). In m (drop 1 list)) (sym l.is) (elim (subst (λ (list : List ℕ). In m list) l.is i) [ inl e ↦ absurd (other e) | inr j ↦ j ])

-- no candidate leads
clash : (role : Role) → role ≡ Candidate → role ≡ Leader → ⊥
clash role e f = cc (sym e ∙ f)

-- ---- until the calls

module _ (t : AllocatorState) (number now word : ℕ) where
  -- what it stored, and what it stores when it stands
  abbrev earlier : Store
  earlier = t.raft_server.store

  abbrev pub later : Store
  later = put_all earlier (stand_puts t.me earlier)

  abbrev moment : ℕ
  moment = max t.now now

  -- it has just stood
  abbrev pub Core : OfServer
  Core me server times at = (me ≡ t.me) × (server.memory.role ≡ Candidate) × (server.store ≡ later) × (server.memory.votes ≡ own_vote t.me)
      × (times.since ≡ moment) × (at ≡ moment)

  -- and calls nobody yet
  abbrev Fresh : OfServer
  Fresh me server times at = Core me server times at × ((q : ℕ) → (server.memory.pending q ≡ None) × (times.answered q ≡ false))

  -- it did not stand, or it leads, or this holds
  abbrev Or : OfServer → OfServer
  Or H me server times at = (server.store.term ≡ earlier.term) ⊎ ((server.memory.role ≡ Leader) ⊎ H me server times at)

  abbrev IsOfCandidate : OfServer → Type 0
  IsOfCandidate H = (me : ℕ) (server : RaftServer) (times : Times) (at : ℕ) → H me server times at → server.memory.role ≡ Candidate

  -- what a leader does changes nothing of it: a candidate does none of this
  grows : (H : OfServer) → IsOfCandidate H → Grows (Or H)
  grows H is log me server times at leads (inl a) = inl a
  grows H is log me server times at leads (inr (inl a)) = inr (inl a)
  grows H is log me server times at leads (inr (inr h)) = absurd (clash server.memory.role (is me server times at h) leads)

  commits : (H : OfServer) → IsOfCandidate H → (place me : ℕ) (server : RaftServer) (times : Times) (at : ℕ) → server.memory.role ≡ Leader → Or H me server times at
      → Or H me (record server { store = record server.store { commit = place } }) times at
  commits H is place me server times at leads (inl a) = inl a
  commits H is place me server times at leads (inr (inl a)) = inr (inl a)
  commits H is place me server times at leads (inr (inr h)) = absurd (clash server.memory.role (is me server times at h) leads)

  tells : (H : OfServer) → IsOfCandidate H → (told me : ℕ) (server : RaftServer) (times : Times) (at : ℕ) → server.memory.role ≡ Leader → Or H me server times at
      → Or H me (record server { memory = record server.memory { told = told } }) times at
  tells H is told me server times at leads (inl a) = inl a
  tells H is told me server times at leads (inr (inl a)) = inr (inl a)
  tells H is told me server times at leads (inr (inr h)) = absurd (clash server.memory.role (is me server times at h) leads)

  quietly : (H : OfServer) → IsOfCandidate H → EndsQuietly (Or H)
  quietly H is = record { commits = commits H is; tells = tells H is }

  core_is : IsOfCandidate Core
  core_is me server times at h = h.1

  fresh_is : IsOfCandidate Fresh
  fresh_is me server times at h = h.0.1

  -- calls leave it
  core_ends : Ends number (Or Core)
  core_ends = record {
    quietly = quietly Core core_is;
    votes = λ members me peer id server times at role free h. h;
    appends = λ members me peer previous id server times at role free h. h;
  }

  -- before the tick of Raft
  abbrev Before : OfServer
  Before me server times at = (me ≡ t.me) × (server.store ≡ earlier) × (at ≡ moment)

  -- who does not stand has the term that it had
  idle : (H : OfServer) (me : ℕ) (server : RaftServer) (times : Times) (at : ℕ) → Before me server times at → Or H me server times at
  idle H me server times at h = inl (ap (λ (s : Store). s.term) h.1)

  -- who stands leads, or has just stood
  stands : (members : List ℕ) (me word_then : ℕ) (server : RaftServer) (times : Times) (at : ℕ) → Before me server times at
      → Or Fresh me (server_after members me number server TimeOut) (times_after members me (given_tick at word_then) server TimeOut times) at
  stands members me word_then server times at h = by (has_quorum members (own_vote me))
    where
      by : (q : Bool) → Or Fresh me
          (record {
            store = put_all server.store (stand_puts me server.store);
            memory = if q then win_memory server.store (stand_memory me server.memory) else stand_memory me server.memory;
          })
          (if q then win (stand (given_tick at word_then) times) else stand (given_tick at word_then) times) at
      by true = inr (inl refl)
      by false = inr (inr (
        (h.0, refl, (λ i. put_all (h.1 i) (stand_puts (h.0 i) (h.1 i))), (λ i. own_vote (h.0 i)), h.2, h.2),
        λ q. (refl, refl),
      ))

  less : (me : ℕ) (server : RaftServer) (times : Times) (at : ℕ) → Or Fresh me server times at → Or Core me server times at
  less me server times at (inl a) = inl a
  less me server times at (inr (inl a)) = inr (inl a)
  less me server times at (inr (inr h)) = inr (inr h.0)

  begins : Keeps Before (begin_phase number now t)
  begins = (refl, (expired (members_of (at_moment now t)) t.me number (overdue t.times moment all_nodes) t.raft_server).store, refl)

  -- when the step is over
  at_its_end : Keeps (Or Core) (step t number (Tick now word)).step_state
  at_its_end = at_tick number Before (Or Core) (idle Core)
      (λ members me word_then server times at h. less me (server_after members me number server TimeOut)
      (times_after members me (given_tick at word_then) server TimeOut times) at (stands members me word_then server times at h))
      (grows Core core_is) core_ends t now word begins

  abbrev told : StepState
  told = when_told t number (Tick now word)

  -- before the calls
  when_told_so : Keeps (Or Fresh) told
  when_told_so = until_calls number (Or Fresh) (quietly Fresh fresh_is) (clock_phase number word (begin_phase number now t))
      (when_ticked number Before (Or Fresh) (idle Fresh) stands (grows Fresh fresh_is) word (begin_phase number now t) begins)

  -- ---- the calls

  module _ (m : ℕ) where
    abbrev asked : Request
    asked = vote_request t.me number later m

    -- peer m is asked for its vote, and where the request found room, its answer is awaited
    pub record HasAsked (g : StepState) : Type 0 where
      pub offer : Offer
      pub offered : In offer g.offers
      pub what : offer.what ≡ VoteQ
      pub to : offer.to ≡ m
      pub says : offer.says ≡ Some (Requests asked)
      pub waits : offer.fitted ≡ true → (g.allocator.raft_server.memory.pending m ≡ Some asked)
          × (g.allocator.times.sending m ≡ Some (record { id = offer.id; moment = moment }))

    abbrev Todo : StepState → Type 0
    Todo g = Keeps Core g × (g.allocator.times.answered m ≡ false) × (g.allocator.raft_server.memory.pending m ≡ None)

    abbrev Done : StepState → Type 0
    Done g = Keeps Core g × (g.allocator.times.answered m ≡ false) × HasAsked g

    -- the call to a peer q
    module _ (q : ℕ) (g : StepState) where
      -- the request to the peer is the one that is said
      asked_is : m ≡ q → Keeps Core g → vote_asked number q g ≡ asked
      asked_is e core = λ i. vote_request (core.0 i) number (core.2 i) (sym e i)

      -- a call that found room asks the peer, and is pending
      asked_called : m ≡ q → Keeps Core g → HasAsked (vote_called number q g)
      asked_called e core = record {
        offer = vote_offer number q g;
        offered = in_back (vote_offer number q g) g.offers (vote_offer number q g ∷ []) (inl refl);
        what = refl;
        to = sym e;
        says = ap (λ (r : Request). Some (Requests r)) (asked_is e core);
        waits = λ f. (
          at_here g.allocator.raft_server.memory.pending q m (Some (vote_asked number q g)) e ∙ ap (λ (r : Request). Some r) (asked_is e core),
          at_here g.allocator.times.sending q m (Some (record { id = id_of g.allocator.ids VoteQ q; moment = g.allocator.now })) e
              ∙ ap (λ (k : ℕ). Some (record { id = id_of g.allocator.ids VoteQ q; moment = k })) core.5,
        );
      }

      -- one that found no room is offered
      asked_offered : m ≡ q → Keeps Core g → (vote_offer number q g).fitted ≡ false → HasAsked (vote_offered number q g)
      asked_offered e core none = record {
        offer = vote_offer number q g;
        offered = in_back (vote_offer number q g) g.offers (vote_offer number q g ∷ []) (inl refl);
        what = refl;
        to = sym e;
        says = ap (λ (r : Request). Some (Requests r)) (asked_is e core);
        waits = λ f. absurd (cc (sym none ∙ f));
      }

      -- a call to another peer leaves it
      still_called : m ≢ q → HasAsked g → HasAsked (vote_called number q g)
      still_called differs h = record {
        offer = h.offer;
        offered = in_front h.offer g.offers (vote_offer number q g ∷ []) h.offered;
        what = h.what;
        to = h.to;
        says = h.says;
        waits = λ f. (
          at_other g.allocator.raft_server.memory.pending q m (Some (vote_asked number q g)) differs ∙ (h.waits f).0,
          at_other g.allocator.times.sending q m (Some (record { id = id_of g.allocator.ids VoteQ q; moment = g.allocator.now })) differs ∙ (h.waits f).1,
        );
      }

      -- and so does one that found no room
      still_offered : HasAsked g → HasAsked (vote_offered number q g)
      still_offered h = record {
        offer = h.offer;
        offered = in_front h.offer g.offers (vote_offer number q g ∷ []) h.offered;
        what = h.what;
        to = h.to;
        says = h.says;
        waits = h.waits;
      }

      -- who is to be asked is asked when its turn is there
      todo_here : m ≡ q → Todo g → Done (calls_peer number q g)
      todo_here e h = candidate_calls number q g Done
          (λ r p. absurd (cc (sym h.2 ∙ (ap g.allocator.raft_server.memory.pending e ∙ p))))
          (λ a. absurd (cc (sym h.1 ∙ (ap g.allocator.times.answered e ∙ a))))
          (λ f. (h.0, h.1, asked_called e h.0)) (λ f. (h.0, h.1, asked_offered e h.0 f)) h.0.1

      -- and not before
      todo_other : m ≢ q → Todo g → Todo (calls_peer number q g)
      todo_other differs h = candidate_calls number q g Todo (λ r p. h) (λ a. h)
          (λ f. (h.0, h.1, at_other g.allocator.raft_server.memory.pending q m (Some (vote_asked number q g)) differs ∙ h.2)) (λ f. h) h.0.1

      -- who is asked stays asked
      done : Done g → Done (calls_peer number q g)
      done h = elim (eqb_tells m q) [
        | inl z ↦ candidate_calls number q g Done (λ r p. h) (λ a. h) (λ f. (h.0, h.1, asked_called z.1 h.0)) (λ f. (h.0, h.1, asked_offered z.1 h.0 f)) h.0.1
        | inr z ↦ candidate_calls number q g Done (λ r p. h) (λ a. h) (λ f. (h.0, h.1, still_called z.1 h.2)) (λ f. (h.0, h.1, still_offered h.2)) h.0.1
      ]

    -- through all calls
    all_done : (peers : List ℕ) (g : StepState) → Done g → Done (calls_all number peers g)
    all_done [] g h = h
    all_done (q ∷ peers) g h = all_done peers (calls_peer number q g) (done q g h)

    -- and each peer has its turn
    all_todo : (peers : List ℕ) (g : StepState) → In m peers → Todo g → Done (calls_all number peers g)
    all_todo [] g i h = absurd i
    all_todo (q ∷ peers) g i h = elim (eqb_tells m q) [
      | inl z ↦ all_done peers (calls_peer number q g) (todo_here q g z.1 h)
      | inr z ↦ all_todo peers (calls_peer number q g) (elim i [ inl e ↦ absurd (z.1 e) | inr j ↦ j ]) (todo_other q g z.1 h)
    ]

  -- ---- the whole step

  module _ (stood : (step t number (Tick now word)).step_state.allocator.raft_server.memory.role ≡ Candidate)
      (next : (step t number (Tick now word)).step_state.allocator.raft_server.store.term ≡ earlier.term + 1) where
    -- who is a candidate of the next term when the step is over has just stood
    pub has_stood : Keeps Core (step t number (Tick now word)).step_state
    has_stood = elim at_its_end [
      | inl a ↦ absurd (omega (arith, a, next))
      | inr (inl a) ↦ absurd (clash _ stood a)
      | inr (inr h) ↦ h
    ]

    -- who has the former term before the calls has it behind them
    same_term : told.allocator.raft_server.store.term ≡ earlier.term → (step t number (Tick now word)).step_state.allocator.raft_server.store.term ≡ earlier.term
    unfolding step
    same_term a = all_called number (OfRole (λ role term votes. term ≡ earlier.term)) (role_ends number (λ role term votes. term ≡ earlier.term))
        (drop 1 (members_of told.allocator)) told a

    -- who has just stood asks each peer
    calls_then : (m : ℕ) → In m (drop 1 (members_of told.allocator)) → Keeps Fresh told → HasAsked m (step t number (Tick now word)).step_state
    unfolding step
    calls_then m i h = (all_todo m (drop 1 (members_of told.allocator)) told i (h.0, (h.1 m).1, (h.1 m).0)).2

    -- each other member of its list is asked
    pub has_asked : (m : ℕ) → In m (members_of (step t number (Tick now word)).step_state.allocator) → m ≢ t.me → HasAsked m (step t number (Tick now word)).step_state
    has_asked m i other = elim when_told_so [
      | inl a ↦ absurd (let e = same_term a in omega (arith, e, next))
      | inr (inl a) ↦ absurd (clash _ stood ((same_after t number (Tick now word)).0 ∙ a))
      | inr (inr h) ↦ calls_then m (in_peers told.allocator m (subst (λ (list : List ℕ). In m list) (same_after t number (Tick now word)).2 i)
          (λ e. other (e ∙ h.0.0))) h
    ]
