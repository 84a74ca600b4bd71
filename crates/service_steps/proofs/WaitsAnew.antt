-- An append request of a leader begins the wait for an election anew.
use Rattle.std.proofs.Common.{◌≡◌, ◌≢◌, ℕ, ◌<◌, Bool, true, false, List, [], ◌∷◌, ◌⊎◌, inl, inr, refl, sym, ◌∙◌, ap, subst, arith, Option, Some, None}
use Rattle.std.specs.Prelude.{◌||◌, ◌&&◌, ◌==◌, not, nat_le, nat_lt, drop, ◌+◌, if◌then◌else◌}
use Rattle.can_frame.specs.declared.entry.Entry.{Entry}
use Rattle.can_frame.specs.declared.identifier.Kind.{Kind}
use Rattle.can_frame.specs.declared.identifier.Kind.TheVariants.{Request as RequestKind}
use Rattle.dsdl_codec.specs.declared.append_request.AppendRequest.{AppendRequest}
use Rattle.dsdl_codec.specs.AppendRequest as codec
use Rattle.raft_core.specs.Calls.{due, due_unless}
use Rattle.raft_core.specs.Handled.{append_request_of}
use Rattle.raft_core.specs.Times.{given_at}
use Rattle.raft_model.specs.Decisions.{commit_index, has_previous, is_current, is_there, may_add, rule, rule_on_entry, verdict_on}
use Rattle.raft_model.specs.Duty.{commit_moves}
use Rattle.raft_model.specs.Messages.{Request}
use Rattle.raft_model.specs.Moves.Appending.{Verdict}
use Rattle.raft_model.specs.Moves.Appending.Verdict.{Added, Held, Outdated, Refused}
use Rattle.raft_model.specs.Moves.Elections.{is_leader, with_term}
use Rattle.raft_model.specs.Moves.Move.{TakeAppendRequest}
use Rattle.raft_model.specs.Server.{RaftServer, Role, Store}
use Rattle.raft_model.specs.Server.Role.{Candidate, Follower, Leader}
use Rattle.transfer_rx.specs.Reassembly.{Answer, Arrival, Delivery}
use Rattle.alloc_spec.specs.AllocatorState.{AllocatorState, members_of}
use Rattle.alloc_spec.specs.Delivered.{StepResult, by_kind, delivery_phase, reads, took}
use Rattle.alloc_spec.specs.Ending.{calls_all, calls_owed, calls_peer, commit_phase, end_phase, tell_phase, tells_next}
use Rattle.alloc_spec.specs.Services.{answers_append, answers_append_request, is_listed, takes_append_request}
use Rattle.alloc_spec.specs.Step.{step, with_answer, with_end_phase}
use Rattle.alloc_spec.specs.Step.Event.{Rx}
use Rattle.alloc_spec.specs.StepState.{StepState, with_moves}
use Rattle.alloc_spec_laws.proofs.Choices.{lt_tells}
use Rattle.service_steps.specs.InTime.{HearsLeader}
use Rattle.service_steps.specs.Requests.{moment_at}
use Rattle.service_steps.proofs.Begins.{IsAsBefore}
use Rattle.service_steps.proofs.FollowUps.{begun, same_number, when_come}

-- ---- the verdict

-- what is current is not outdated
by_entry : (store : Store) (request : Request) (entry : Option Entry) → rule_on_entry store request entry ≢ Outdated
by_entry store request None e = absurd (cc (e))
by_entry store request (Some entry) e = full (nat_le 128 (request.previous + 1)) (is_there store request entry) (may_add store request entry) e
  where
    full : (a b c : Bool) → (if a then Refused else (if b then Held else (if c then Added entry else Refused))) ≢ Outdated
    full true b c f = absurd (cc (f))
    full false true c f = absurd (cc (f))
    full false false true f = absurd (cc (f))
    full false false false f = absurd (cc (f))

by_rule : (store : Store) (request : Request) → rule store request ≢ Outdated
by_rule store request e = go (has_previous store request) e
  where
    go : (b : Bool) → (if b then rule_on_entry store request request.entry else Refused) ≢ Outdated
    go true f = by_entry store request request.entry f
    go false f = absurd (cc (f))

no_leader : (role : Role) → role ≢ Leader → is_leader role ≡ false
no_leader Follower n = refl
no_leader Candidate n = refl
no_leader Leader n = absurd (n refl)

current : (server : RaftServer) (request : Request)
    → (server.store.term < request.term) ⊎ ((request.term ≡ server.store.term) × (server.memory.role ≢ Leader)) → is_current server request ≡ true
current server request (inl above) = elim (lt_tells server.store.term request.term) [
  | inl z ↦ rw (z.0) refl
  | inr z ↦ absurd (omega (arith, above, z.1))
]
current server request (inr (same, none)) = last (nat_lt server.store.term request.term)
  where
    second : ((request.term == server.store.term) && not (is_leader server.memory.role)) ≡ true
    second = rw (no_leader server.memory.role none) (rw (same) (rw (same_number server.store.term) refl))

    last : (b : Bool) → (b || ((request.term == server.store.term) && not (is_leader server.memory.role))) ≡ true
    last true = refl
    last false = second

not_outdated : (server : RaftServer) (request : Request) → is_current server request ≡ true → verdict_on server request ≢ Outdated
not_outdated server request now e = by_rule (with_term server.store request.term) request
    (sym (ap (λ (b : Bool). if b then rule (with_term server.store request.term) request else Outdated) now) ∙ e)

-- ---- taking it

abbrev pub IsAnew : ℕ → StepState → Type 0
IsAnew now g = (g.allocator.times.since ≡ now) × (g.allocator.raft_server.memory.role ≡ Follower)

takes : (number : ℕ) (request : Request) (verdict : Verdict) (g : StepState) → verdict ≢ Outdated
    → IsAnew g.allocator.now (with_moves number (given_at g.allocator.now) (TakeAppendRequest request verdict ∷ []) g)
takes number request Outdated g n = absurd (n refl)
takes number request Refused g n = (refl, refl)
takes number request Held g n = (refl, refl)
takes number request (Added entry) g n = (refl, refl)

takes_it : (number : ℕ) (d : Delivery) (request : Request) (g : StepState) → is_current g.allocator.raft_server request ≡ true
    → IsAnew g.allocator.now (answers_append number d request g)
takes_it number d request g now = takes number request (verdict_on g.allocator.raft_server request) g (not_outdated g.allocator.raft_server request now)

-- ---- to the end

pub follows : (number : ℕ) (now : ℕ) (g : StepState) → IsAnew now g → IsAnew now (end_phase number g)
follows number now g h = called (members_then told) told (tells (commit_phase number g) (commits g h))
  where
    told : StepState
    told = tell_phase number (commit_phase number g)

    members_then : StepState → List ℕ
    members_then x = drop 1 (members_of x.allocator)

    commits : (x : StepState) → IsAnew now x → IsAnew now (commit_phase number x)
    commits x i = subst (λ (role : Role). IsAnew now (with_moves number (given_at x.allocator.now)
        (if is_leader role then commit_moves (commit_index (members_of x.allocator) x.allocator.me x.allocator.raft_server) else []) x)) (sym i.1) i

    tells : (x : StepState) → IsAnew now x → IsAnew now (tell_phase number x)
    tells x i = subst (λ (role : Role). IsAnew now (if is_leader role && nat_lt x.allocator.raft_server.memory.told x.allocator.raft_server.store.commit then tells_next number x else x)) (sym i.1) i

    unpending : (pending : Option Request) (x : StepState) → IsAnew now x → IsAnew now (calls_owed number (due_unless pending None) x)
    unpending None x i = i
    unpending (Some request) x i = i

    calls_one : (peer : ℕ) (x : StepState) → IsAnew now x → IsAnew now (calls_peer number peer x)
    calls_one peer x i = subst (λ (role : Role). IsAnew now (calls_owed number (due_unless (x.allocator.raft_server.memory.pending peer)
        (due role x.allocator.raft_server x.allocator.times peer x.allocator.now)) x)) (sym i.1)
        (unpending (x.allocator.raft_server.memory.pending peer) x i)

    called : (peers : List ℕ) (x : StepState) → IsAnew now x → IsAnew now (calls_all number peers x)
    called [] x i = i
    called (peer ∷ peers) x i = called peers (calls_peer number peer x) (calls_one peer x i)

-- ---- the step

delivers : (number : ℕ) (d : Delivery) (request : AppendRequest) (g : StepState) → d.ident.kind ≡ RequestKind → d.ident.number ≡ 30
    → codec.append_request_of d.payload ≡ Some request → is_listed d g.allocator ≡ true
    → delivery_phase number d g ≡ took (answers_append_request number d request g)
unfolding delivery_phase
delivers number d request g kind number_is read listed = ap (λ (k : Kind). by_kind number d k g) kind
    ∙ rw (number_is) (ap (λ (r : Option AppendRequest). reads (takes_append_request number d) r g) read
    ∙ ap (λ (b : Bool). took (if b then answers_append_request number d request g else g)) listed)

hears : (t : AllocatorState) (number : ℕ) (arrival : Arrival) (d : Delivery) (request : AppendRequest) → HearsLeader t arrival d request
    → step t number (Rx arrival) ≡ with_end_phase number (took (answers_append_request number d request (when_come t number arrival)))
unfolding step
hears t number arrival d request h =
    ap (λ (a : Answer). with_end_phase number (with_answer number a (when_come t number arrival))) h.gives
    ∙ ap (λ (s : StepResult). with_end_phase number s) (delivers number d request (when_come t number arrival) h.kind h.number h.read h.listed)

pub waits_anew : (t : AllocatorState) (number : ℕ) (arrival : Arrival) (d : Delivery) (request : AppendRequest) → HearsLeader t arrival d request
    → IsAnew (moment_at t arrival) (step t number (Rx arrival)).step_state
waits_anew t number arrival d request h = subst (λ (s : StepResult). IsAnew (moment_at t arrival) s.step_state) (sym (hears t number arrival d request h))
    (follows number (moment_at t arrival) (answers_append_request number d request g)
    (takes_it number d (append_request_of request d.mark.step d.ident.source t.me) g (now h.current)))
  where
    g : StepState
    g = when_come t number arrival

    before : IsAsBefore t.raft_server g.allocator.raft_server
    before = begun t number arrival

    now : (t.raft_server.store.term < request.term) ⊎ ((request.term ≡ t.raft_server.store.term) × (t.raft_server.memory.role ≢ Leader))
        → is_current g.allocator.raft_server (append_request_of request d.mark.step d.ident.source t.me) ≡ true
    now (inl above) = current g.allocator.raft_server (append_request_of request d.mark.step d.ident.source t.me)
        (inl (subst (λ (s : Store). s.term < request.term) (sym before.store) above))
    now (inr (same, none)) = current g.allocator.raft_server (append_request_of request d.mark.step d.ident.source t.me)
        (inr (same ∙ ap (λ (s : Store). s.term) (sym before.store), λ e. none (sym before.role ∙ e)))
