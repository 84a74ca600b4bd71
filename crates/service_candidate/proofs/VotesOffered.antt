-- Who is asked for its vote offers its answer; and what it leaves of the server.
use Rattle.std.proofs.Common.{◌≡◌, ℕ, ◌+◌, ◌<◌, ◌≤◌, arith, Bool, true, false, [], ◌∷◌, ◌++◌, refl, sym, ◌∙◌, ap, subst, inl, inr, Option, None, Some}
use Rattle.std.specs.Prelude.{max, nat_lt, if◌then◌else◌}
use Rattle.std.proofs.Math.Nat.{max-eq_left}
use Rattle.can_frame.specs.declared.identifier.Kind.{Kind}
use Rattle.can_frame.specs.declared.identifier.Kind.TheVariants.{Request as RequestKind}
use Rattle.can_frame.specs.declared.step.What.TheVariants.{Vote, VoteQ}
use Rattle.dsdl_codec.specs.declared.vote_request.VoteRequest.{VoteRequest}
use Rattle.dsdl_codec.specs.VoteRequest.{vote_request_of}
use Rattle.raft_core.specs.Times.{begin_wait, given_at, raise}
use Rattle.raft_model.specs.Decisions.{grants, is_free}
use Rattle.raft_model.specs.Lists.{In}
use Rattle.raft_model.specs.Messages.{Answer, Request}
use Rattle.raft_model.specs.Messages.Message.{Answers}
use Rattle.raft_model.specs.Moves.Elections.{grant_puts, term_puts, vote_puts, with_term}
use Rattle.raft_model.specs.Moves.Leading.{answer_to}
use Rattle.raft_model.specs.Moves.Move.{TakeVoteRequest}
use Rattle.raft_model.specs.Server.{Memory, RaftServer, Store, put_all}
use Rattle.raft_model.specs.Server.Put.{PutTerm, PutVote}
use Rattle.raft_model.specs.Server.Role.{Follower}
use Rattle.bus_rows.specs.declared.row.Row.{Row}
use Rattle.transfer_rx.specs.Reassembly.{Arrival, Delivery}
use Rattle.alloc_spec.specs.AllocatorState.{AllocatorState, members_of}
use Rattle.alloc_spec.specs.Delivered.{StepResult, by_kind, delivery_phase, reads, took}
use Rattle.alloc_spec.specs.Services.{answers_vote_request, is_listed, takes_vote_request}
use Rattle.alloc_spec.specs.Step.{step, with_end_phase}
use Rattle.alloc_spec.specs.Step.Event.{Rx}
use Rattle.alloc_spec.specs.StepState.{StepState, with_moves}
use Rattle.alloc_spec.specs.Transfers.{Offer, SentTransfer, has_room, kind_of, number_of}
use Rattle.alloc_spec_laws.specs.Saying.{vote_bytes}
use Rattle.alloc_spec_laws.proofs.Choices.{and_left, and_right, eq_true, lt_tells}
use Rattle.alloc_spec_laws.proofs.Lists.{in_back}
use Rattle.service_steps.proofs.Begins.{IsAsBefore}
use Rattle.service_steps.proofs.FollowUps.{begun}
use Rattle.service_candidate.specs.Votes.{AnswersVote, HasVoted, vote_asked_by, vote_by}
use Rattle.service_leader.proofs.RaftPhases.{Ends, Keeps, OfServer, at_end}
use Rattle.service_calm.specs.Comes.{Delivers, delivery_of}
use Rattle.service_calm.proofs.Calls.{on_list}
use Rattle.service_leader.proofs.Deliveries.{come, step_taken, still_offered}
use Rattle.bus_spec.specs.Cluster.{Cluster, arrival_at, frame_at}

-- ---- what the puts leave

-- the greater term, the same log, and a vote that was given
abbrev pub IsVoted : (request : Request) (granted : Bool) (before after : Store) → Type 0
IsVoted request granted before after = (after.term ≡ max before.term request.term) × (after.log ≡ before.log)
    × (granted ≡ true → after.vote ≡ Some request.from)

-- the greater of two numbers
greater : (a b : ℕ) → a < b → b ≡ max a b
greater a b less = omega (arith, less)

same : (a b : ℕ) → b ≤ a → a ≡ max a b
same a b less = sym (max-eq_left less)

-- a vote that was given before is given to the same candidate
same_vote : (store : Store) (request : Request) (vote : Option ℕ) → store.vote ≡ vote → is_free vote request.from ≡ true → request.term ≤ store.term
    → IsVoted request true store (put_all store (vote_puts vote request.from))
same_vote store request None is free low = (same store.term request.term low, refl, λ e. refl)
same_vote store request (Some earlier) is free low =
    (same store.term request.term low, refl, λ e. is ∙ ap (λ (n : ℕ). Some n) (eq_true earlier request.from free))

-- the puts of a request of no higher term
by_vote : (store : Store) (request : Request) (granted : Bool) → (granted ≡ true → is_free store.vote request.from ≡ true) → request.term ≤ store.term
    → IsVoted request granted store (put_all store (grant_puts store request granted))
by_vote store request true free low = same_vote store request store.vote refl (free refl) low
by_vote store request false free low = (same store.term request.term low, refl, λ e. absurd (cc e))

-- the puts of a request of a higher term
above : (store : Store) (request : Request) (granted : Bool) → store.term < request.term
    → let raised = put_all store (PutTerm request.term ∷ PutVote None ∷ []) in
    IsVoted request granted store (put_all raised (grant_puts raised request granted))
above store request true less = (greater store.term request.term less, refl, λ e. refl)
above store request false less = (greater store.term request.term less, refl, λ e. absurd (cc e))

-- the puts of a vote request
pub puts_voted : (store : Store) (request : Request) (granted : Bool) → (granted ≡ true → is_free (with_term store request.term).vote request.from ≡ true)
    → IsVoted request granted store (put_all store (term_puts store request.term ++ grant_puts (with_term store request.term) request granted))
puts_voted store request granted = elim (lt_tells store.term request.term) [
  | inl z ↦ subst By (sym z.0) (λ free. above store request granted z.1)
  | inr z ↦ subst By (sym z.0) (λ free. by_vote store request granted free z.1)
]
  where
    By : Bool → Type 0
    By higher = let puts = if higher then PutTerm request.term ∷ PutVote None ∷ [] else [] in
        (granted ≡ true → is_free (put_all store puts).vote request.from ≡ true)
        → IsVoted request granted store (put_all store (puts ++ grant_puts (put_all store puts) request granted))

-- a vote is given to a candidate for whom it is free
pub granted_free : (store : Store) (request : Request) → grants store request ≡ true → is_free store.vote request.from ≡ true
granted_free store request e =
    and_left (is_free store.vote request.from) _ (and_right _ _ e)

-- ---- what the move leaves, and the end of the step

-- a server as a vote request leaves it
abbrev pub Voted : (request : Request) (granted : Bool) (before : Store) (moment : ℕ) → OfServer
Voted request granted before moment me server times now = IsVoted request granted before server.store
    × (before.term < request.term → server.memory.role ≡ Follower)
    × (granted ≡ true → times.since ≡ moment) × (now ≡ moment)

-- the end of a step leaves this
pub voted_ends : (number : ℕ) (request : Request) (granted : Bool) (before : Store) (moment : ℕ) → Ends number (Voted request granted before moment)
voted_ends number request granted before moment = record {
  quietly = record { commits = λ place me server times now leads h. h; tells = λ told me server times now leads h. h };
  votes = λ members me peer id server times now role free h. h;
  appends = λ members me peer previous id server times now role free h. h;
}

-- an answered vote request leaves it so
pub voted_so : (number : ℕ) (request : Request) (g : StepState) → let granted = grants (with_term g.allocator.raft_server.store request.term) request in
    Keeps (Voted request granted g.allocator.raft_server.store g.allocator.now)
    (with_moves number (given_at g.allocator.now) (TakeVoteRequest request granted ∷ []) g)
voted_so number request g = (puts_voted store request granted (granted_free (with_term store request.term) request), lower, anew granted refl, refl)
  where
    store : Store
    store = g.allocator.raft_server.store

    granted : Bool
    granted = grants (with_term store request.term) request

    memory : Memory
    memory = g.allocator.raft_server.memory

    lower : store.term < request.term → (if nat_lt store.term request.term then record memory { role = Follower } else memory).role ≡ Follower
    lower less = elim (lt_tells store.term request.term) [
      | inl z ↦ ap (λ (b : Bool). (if b then record memory { role = Follower } else memory).role) z.0
      | inr z ↦ absurd (omega (arith, less, z.1))
    ]

    anew : (b : Bool) → granted ≡ b → granted ≡ true
        → (if granted then begin_wait g.allocator.now g.allocator.times else raise g.allocator.now request.term g.allocator.raft_server g.allocator.times).since ≡ g.allocator.now
    anew b e is = ap (λ (c : Bool). (if c then begin_wait g.allocator.now g.allocator.times
        else raise g.allocator.now request.term g.allocator.raft_server g.allocator.times).since) is

-- ---- the step

-- a vote request of a node on the list is answered
pub vote_request_taken : (number : ℕ) (d : Delivery) (request : VoteRequest) (g : StepState) → d.ident.kind ≡ RequestKind → d.ident.number ≡ 31
    → vote_request_of d.payload ≡ Some request → is_listed d g.allocator ≡ true
    → delivery_phase number d g ≡ took (answers_vote_request number d request g)
unfolding delivery_phase
vote_request_taken number d request g kind number_is read listed = ap (λ (k : Kind). by_kind number d k g) kind
    ∙ rw (number_is) (ap (λ (r : Option VoteRequest). reads (takes_vote_request number d) r g) read
    ∙ ap (λ (b : Bool). took (if b then answers_vote_request number d request g else g)) listed)

-- the answer goes by what is stored
same_answer : (a b : RaftServer) (me number : ℕ) (request : Request) → a.store ≡ b.store
    → answer_to me number (with_term a.store request.term) request (grants (with_term a.store request.term) request)
    ≡ answer_to me number (with_term b.store request.term) request (grants (with_term b.store request.term) request)
same_answer a b me number request store =
    ap (λ (s : Store). answer_to me number (with_term s request.term) request (grants (with_term s request.term) request)) store

module _ (m : ℕ) (x : SentTransfer) (request : VoteRequest) (w : Cluster) (row : Row) (delivers : Delivers m x w row) (me : delivers.server.me ≡ m)
    (what : x.offer.what ≡ VoteQ) (says : vote_request_of x.offer.payload ≡ Some request) (listed : In x.by (members_of delivers.server)) where
  abbrev t : AllocatorState
  t = delivers.server

  abbrev number : ℕ
  number = w.rows + 1

  abbrev arrival : Arrival
  arrival = arrival_at (frame_at w.frames delivers.k) delivers.ms

  -- as the request comes
  abbrev g : StepState
  g = come m x w row delivers

  -- the step answers the request, and ends
  step_is : step t number (Rx arrival) ≡ with_end_phase number (took (answers_vote_request number (delivery_of x) request g))
  step_is = step_taken m x w row delivers me ∙ ap (λ (s : StepResult). with_end_phase number s)
      (vote_request_taken number (delivery_of x) request g (ap kind_of what) (ap number_of what) says (on_list (members_of t) x.by listed))

  before : IsAsBefore t.raft_server g.allocator.raft_server
  before = begun t number arrival

  abbrev asked : Request
  asked = vote_asked_by x request t.me

  -- the answer that the step makes, and the one that it should
  abbrev made : Answer
  made = answer_to t.me number (with_term g.allocator.raft_server.store asked.term) asked
      (grants (with_term g.allocator.raft_server.store asked.term) asked)

  -- the two are the same
  is_made : made ≡ vote_by number t (vote_asked_by x request m)
  is_made = same_answer g.allocator.raft_server t.raft_server t.me number asked before.store
      ∙ ap (λ (k : ℕ). vote_by number t (vote_asked_by x request k)) me

  -- its offer
  abbrev own : Offer
  own = record {
    what = Vote;
    to = x.by;
    id = x.offer.id;
    payload = vote_bytes made;
    re = x.step;
    says = Some (Answers made);
    fitted = has_room t.queue (vote_bytes made);
  }

  abbrev granted : Bool
  granted = grants (with_term g.allocator.raft_server.store asked.term) asked

  -- what holds when the step is over
  at_its_end : Keeps (Voted asked granted g.allocator.raft_server.store g.allocator.now) (step t number (Rx arrival)).step_state
  at_its_end = subst (λ (s : StepResult). Keeps (Voted asked granted g.allocator.raft_server.store g.allocator.now) s.step_state) (sym step_is)
      (at_end number (Voted asked granted g.allocator.raft_server.store g.allocator.now)
      (voted_ends number asked granted g.allocator.raft_server.store g.allocator.now) (answers_vote_request number (delivery_of x) request g) (voted_so number asked g))

  -- what it leaves, as said of the server before the step
  left : HasVoted asked t (step t number (Rx arrival)).step_state.allocator
  left = by t.raft_server.store (before.store) at_its_end
    where
      after : AllocatorState
      after = (step t number (Rx arrival)).step_state.allocator

      by : (store : Store) → g.allocator.raft_server.store ≡ store
          → Keeps (Voted asked granted g.allocator.raft_server.store g.allocator.now) (step t number (Rx arrival)).step_state
          → HasVoted asked (record t { raft_server = record t.raft_server { store = store } }) after
      by store e h = let k = subst (λ (s : Store). Voted asked (grants (with_term s asked.term) asked) s g.allocator.now after.me after.raft_server after.times after.now) e h in record {
        term = k.0.0;
        log = k.0.1;
        role = k.1;
        gives = λ is. (k.0.2 is, k.2 is ∙ sym k.3);
      }

  -- who is asked answers
  pub votes : AnswersVote m x request w row delivers
  votes = record {
    offer = own;
    offered = subst (λ (s : StepResult). In own s.step_state.offers) (sym step_is)
        (still_offered number own (answers_vote_request number (delivery_of x) request g) (in_back own g.offers (own ∷ []) (inl refl)));
    what = refl;
    to = refl;
    id = refl;
    re = refl;
    says = ap (λ (a : Answer). Some (Answers a)) is_made;
    written = ap vote_bytes is_made;
    fitted = refl;
    leaves = subst (λ (k : ℕ). HasVoted (vote_asked_by x request k) t (step t number (Rx arrival)).step_state.allocator) me left;
  }
