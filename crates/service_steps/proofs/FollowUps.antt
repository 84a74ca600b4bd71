-- A leader gives a follow-up.
use Rattle.std.proofs.Common.{◌≡◌, ℕ, zero, suc, ◌<◌, ◌≤◌, Bool, true, false, List, [], ◌∷◌, ◌++◌, length, inl, inr, refl, sym, ◌∙◌, ap, subst, arith, Option, None}
use Rattle.std.specs.Prelude.{max, nat_eq, if◌then◌else◌}
use Rattle.std.proofs.lemmas.Bool.Decides.{eqb_tells}
use Rattle.alloc_exchange.specs.declared.heard.Heard.TheVariants.{FollowUp}
use Rattle.alloc_exchange.specs.Exchange.{after, answer}
use Rattle.can_frame.specs.declared.step.What.TheVariants.{Alloc}
use Rattle.dsdl_codec.specs.declared.allocation.Allocation.{Allocation}
use Rattle.raft_core.specs.Times.{given_at, overdue}
use Rattle.raft_model.specs.Decisions.{can_commit, commit_index, greatest_to}
use Rattle.raft_model.specs.Duty as duty
use Rattle.raft_model.specs.Moves.{Move}
use Rattle.raft_model.specs.Moves.Elections.{is_leader}
use Rattle.raft_model.specs.Server.{RaftServer, Store}
use Rattle.transfer_rx.specs.Reassembly.{Arrival}
use Rattle.alloc_spec.specs.Delivered.{StepResult, took}
use Rattle.alloc_spec.specs.Ending.{commit_phase, end_phase, has_to_tell}
use Rattle.alloc_spec.specs.Exchange.{allocation_payload, hears_allocation, may_follow, with_request}
use Rattle.alloc_spec.specs.Step.{all_nodes, at_moment, begin_phase, step, with_end_phase, with_sessions}
use Rattle.alloc_spec.specs.Step.Event.{Rx}
use Rattle.alloc_spec.specs.StepState.{StepState, with_moves, with_transfer}
use Rattle.alloc_spec.specs.AllocatorState.{AllocatorState, members_of}
use Rattle.alloc_spec.specs.Transfers.{Offer, has_room}
use Rattle.alloc_spec_laws.proofs.Choices.{and_right, lt_tells, lt_true}
use Rattle.service_steps.specs.Requests.{IsRequest, moment_at}
use Rattle.service_steps.specs.Serving.{FollowsUp, IsFirst, IsReady, allocation_from}
use Rattle.service_steps.proofs.Begins.{IsAsBefore, expired}
use Rattle.service_steps.proofs.Ends.{IsKept, rest_keeps}
use Rattle.service_steps.proofs.Requests.{heard}

pub same_number : (n : ℕ) → nat_eq n n ≡ true
same_number n = elim (eqb_tells n n) [ inl z ↦ z.0 | inr z ↦ absurd (z.1 refl) ]

-- ---- the step hears the request

-- the step as it is when the frame has come
abbrev pub when_come : AllocatorState → ℕ → Arrival → StepState
when_come t number arrival = with_sessions arrival (begin_phase number arrival.moment t)

pub step_is : (t : AllocatorState) (number : ℕ) (arrival : Arrival) (message : Allocation) → IsRequest arrival message
    → step t number (Rx arrival) ≡ with_end_phase number (took (hears_allocation number message (when_come t number arrival)))
unfolding step
step_is t number arrival message r = ap (λ (s : StepResult). with_end_phase number s) (heard t number arrival message r)

pub begun : (t : AllocatorState) (number : ℕ) (arrival : Arrival)
    → IsAsBefore t.raft_server (when_come t number arrival).allocator.raft_server
begun t number arrival =
    expired (members_of (at_moment arrival.moment t)) t.me number (overdue t.times (max t.now arrival.moment) all_nodes) t.raft_server

pub same_follow : (t : AllocatorState) (x : RaftServer) → x.store ≡ t.raft_server.store → x.memory.role ≡ t.raft_server.memory.role
    → may_follow (record t { raft_server = x }) ≡ may_follow t
same_follow t x store role = rw (store) (rw (role) refl)

pub may : (t : AllocatorState) → IsReady t → may_follow t ≡ true
may t ready = rw (ready.leads) (rw (ready.committed) (rw (same_number (length t.raft_server.store.log)) refl))

-- ---- nothing is left to commit

none_to : (limit : ℕ) (test : ℕ → Bool) → ((n : ℕ) → n ≤ limit → test n ≡ false) → greatest_to limit test ≡ None
none_to zero test f = rw (f zero (omega arith)) refl
none_to (suc n) test f = rw (f (suc n) (omega arith)) (none_to n test (λ m h. f m (omega (arith, h))))

nothing_above : (list : List ℕ) (me : ℕ) (server : RaftServer) → server.store.commit ≡ length server.store.log
    → commit_index list me server ≡ None
nothing_above list me server committed = none_to (length server.store.log) (can_commit list me server) below
  where
    below : (n : ℕ) → n ≤ length server.store.log → can_commit list me server n ≡ false
    below n h = elim (lt_tells server.store.commit n) [ inl z ↦ absurd (omega (arith, z.1, h, committed)) | inr z ↦ rw (z.0) refl ]

no_moves : (leads : Bool) (index : Option ℕ) → index ≡ None → (if leads then duty.commit_moves index else []) ≡ []
no_moves true index none = ap duty.commit_moves none
no_moves false index none = refl

pub commits_nothing : (number : ℕ) (g : StepState) → g.allocator.raft_server.store.commit ≡ length g.allocator.raft_server.store.log
    → commit_phase number g ≡ with_moves number (given_at g.allocator.now) [] g
commits_nothing number g committed =
    ap (λ (moves : List Move). with_moves number (given_at g.allocator.now) moves g)
    (no_moves (is_leader g.allocator.raft_server.memory.role) (commit_index (members_of g.allocator) g.allocator.me g.allocator.raft_server)
    (nothing_above (members_of g.allocator) g.allocator.me g.allocator.raft_server committed))

-- ---- the step

hears_it : (number : ℕ) (message : Allocation) (bytes : List ℕ) (g : StepState)
    → answer g.allocator.accepted message g.allocator.now (may_follow g.allocator) ≡ FollowUp (record { items = bytes })
    → hears_allocation number message g ≡ with_transfer number Alloc 0 (allocation_payload 0 bytes) None (with_request message g)
hears_it number message bytes g e = rw (e) refl

-- what is kept to the end of the step
abbrev IsServing : AllocatorState → ℕ → Allocation → Offer → StepState → Type 0
IsServing t now message offer g = IsFirst offer g.offers
    × (g.allocator.accepted ≡ after t.accepted message now true)
    × (g.allocator.now ≡ now)
    × (g.allocator.me ≡ t.me)
    × (g.allocator.size ≡ t.size)
    × (g.allocator.opened_at ≡ t.opened_at)
    × (g.allocator.raft_server.store ≡ t.raft_server.store)
    × (g.allocator.raft_server.memory.role ≡ t.raft_server.memory.role)
    × (g.allocator.heard ≡ t.heard)
    × (g.allocator.watch ≡ t.watch)
    × (t.raft_server.memory.told ≡ t.raft_server.store.commit → g.allocator.raft_server.memory.told ≡ t.raft_server.store.commit)

one_more : (offer new : Offer) (offers : List Offer) → IsFirst offer offers → IsFirst offer (offers ++ new ∷ [])
one_more offer new offers h = record { more = h.more ++ new ∷ []; is = ap (λ (l : List Offer). l ++ new ∷ []) h.is }

-- who told all has nothing to tell
untold : (t : AllocatorState) (g : StepState) → has_to_tell g.allocator.raft_server ≡ true → g.allocator.raft_server.store ≡ t.raft_server.store
    → g.allocator.raft_server.memory.told ≡ t.raft_server.store.commit → ⊥
untold t g e store told =
    let low : g.allocator.raft_server.memory.told < g.allocator.raft_server.store.commit
    = lt_true g.allocator.raft_server.memory.told g.allocator.raft_server.store.commit (and_right (is_leader g.allocator.raft_server.memory.role) _ e) in
    omega (arith, low, told, ap (λ (s : Store). s.commit) store)

serving_kept : (t : AllocatorState) (now number : ℕ) (message : Allocation) (offer : Offer) → IsKept number (IsServing t now message offer)
serving_kept t now number message offer = record {
  passes = λ g e h. (h.0, h.1, h.2, h.3, h.4, h.5, h.6, h.7, h.8, h.9, λ told. absurd (untold t g e h.6 (h.10 told)));
  tells = λ given g e h. (h.0, h.1, h.2, h.3, h.4, h.5, h.6, h.7, h.8, h.9, λ told. absurd (untold t g e h.6 (h.10 told)));
  votes = λ given peer g h. h;
  appends = λ given peer previous with_entry g h. h;
  sends = λ what to payload says g h.
      (one_more offer _ g.offers h.0, h.1, h.2, h.3, h.4, h.5, h.6, h.7, h.8, h.9, h.10);
}

pub gives : (t : AllocatorState) (number : ℕ) (arrival : Arrival) (message : Allocation) (bytes : List ℕ)
    → IsReady t → IsRequest arrival message → answer t.accepted message (moment_at t arrival) true ≡ FollowUp (record { items = bytes })
    → has_room t.queue (allocation_payload 0 bytes) ≡ true
    → FollowsUp t arrival message bytes (step t number (Rx arrival))
gives t number arrival message bytes ready request follows room =
    subst (λ (s : StepResult). FollowsUp t arrival message bytes s) (sym (step_is t number arrival message request))
    (subst (λ (g : StepState). FollowsUp t arrival message bytes (with_end_phase number (took g))) (sym heard_it)
    (record {
      seen = refl;
      offered = ends.0;
      accepted = ends.1;
      now = ends.2;
      ready = record {
        me = ends.3;
        size = ends.4;
        opened_at = ends.5;
        store = ends.6;
        role = ends.7;
        heard = ends.8;
        watch = ends.9;
      };
      told = λ told. ends.10 told ∙ ap (λ (s : Store). s.commit) (sym ends.6);
    }))
  where
    g : StepState
    g = when_come t number arrival

    before : IsAsBefore t.raft_server g.allocator.raft_server
    before = begun t number arrival

    may_now : may_follow g.allocator ≡ true
    may_now = same_follow t g.allocator.raft_server before.store before.role ∙ may t ready

    heard_it : hears_allocation number message g ≡ with_transfer number Alloc 0 (allocation_payload 0 bytes) None (with_request message g)
    heard_it = hears_it number message bytes g
        (ap (λ (b : Bool). answer t.accepted message (moment_at t arrival) b) may_now ∙ follows)

    answered : StepState
    answered = with_transfer number Alloc 0 (allocation_payload 0 bytes) None (with_request message g)

    committed : answered.allocator.raft_server.store.commit ≡ length answered.allocator.raft_server.store.log
    committed = rw (before.store) ready.committed

    fits : IsFirst (allocation_from t 0 bytes) answered.offers
    fits = record { more = []; is = rw (room) refl }

    first : IsServing t (moment_at t arrival) message (allocation_from t 0 bytes) (with_moves number (given_at answered.allocator.now) [] answered)
    first = (
      fits,
      ap (λ (b : Bool). after t.accepted message (moment_at t arrival) b) may_now,
      refl,
      refl,
      refl,
      refl,
      before.store,
      before.role,
      refl,
      refl,
      λ told. before.told ∙ told,
    )

    ends : IsServing t (moment_at t arrival) message (allocation_from t 0 bytes) (end_phase number answered)
    ends = rest_keeps number (IsServing t (moment_at t arrival) message (allocation_from t 0 bytes))
        (serving_kept t (moment_at t arrival) number message (allocation_from t 0 bytes)) answered
        (subst (λ (k : StepState). IsServing t (moment_at t arrival) message (allocation_from t 0 bytes) k)
        (sym (commits_nothing number answered committed)) first)
