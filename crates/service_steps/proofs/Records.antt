-- A leader records a pair.
use Rattle.std.proofs.Common.{◌≡◌, ℕ, Bool, true, false, List, [], ◌∷◌, ◌++◌, refl, sym, ◌∙◌, ap, subst, arith, Option, Some, None}
use Rattle.std.specs.Prelude.{max}
use Rattle.alloc_exchange.specs.declared.heard.Heard.TheVariants.{Whole}
use Rattle.alloc_exchange.specs.Exchange.{answer}
use Rattle.can_frame.specs.declared.entry.Entry.{Entry}
use Rattle.dsdl_codec.specs.declared.allocation.Allocation.{Allocation}
use Rattle.id_selector.specs.Choice.{chosen}
use Rattle.node_discovery.specs.Watch.{some_unknown}
use Rattle.raft_core.specs.Taken.{proposal}
use Rattle.raft_core.specs.Times.{given_at}
use Rattle.raft_model.specs.Decisions.{commit_index}
use Rattle.raft_model.specs.Duty as duty
use Rattle.raft_model.specs.Moves.{Move}
use Rattle.raft_model.specs.Moves.Elections.{is_leader}
use Rattle.raft_model.specs.Server.{RaftServer, Role, Store}
use Rattle.transfer_rx.specs.Reassembly.{Arrival}
use Rattle.alloc_spec.specs.Delivered.{StepResult, took}
use Rattle.alloc_spec.specs.Ending.{commit_phase, end_phase}
use Rattle.alloc_spec.specs.Exchange.{hears_allocation, hears_whole, may_follow, with_request}
use Rattle.alloc_spec.specs.Step.{at_moment, step, with_end_phase}
use Rattle.alloc_spec.specs.Step.Event.{Rx}
use Rattle.alloc_spec.specs.StepState.{StepState, with_moves}
use Rattle.alloc_spec.specs.Tick.{proposes}
use Rattle.alloc_spec.specs.AllocatorState.{AllocatorState, is_zero, known, may_propose, members_of, recorded_at, taken}
use Rattle.alloc_spec_laws.proofs.Choices.{either}
use Rattle.service_steps.specs.Requests.{IsRequest, moment_at}
use Rattle.service_steps.specs.Serving.{MayRecord, Records}
use Rattle.service_steps.proofs.Begins.{IsAsBefore}
use Rattle.service_steps.proofs.Ends.{IsKept, rest_keeps}
use Rattle.service_steps.proofs.FollowUps.{begun, same_follow, step_is, when_come}

-- ---- what stands in the log is all by which it judges

same_known : (t : AllocatorState) (x : RaftServer) → x.store ≡ t.raft_server.store → known (record t { raft_server = x }) ≡ known t
same_known t x store = rw (store) refl

same_taken : (t : AllocatorState) (x : RaftServer) → x.store ≡ t.raft_server.store → taken (record t { raft_server = x }) ≡ taken t
same_taken t x store = rw (store) refl

taken_at : (t : AllocatorState) (n k : ℕ) → max t.now n ≡ max t.now k → taken (at_moment n t) ≡ taken (at_moment k t)
taken_at t n k e = rw (e) refl

same_may : (t : AllocatorState) (x : RaftServer) → x.store ≡ t.raft_server.store → x.memory.role ≡ t.raft_server.memory.role
    → may_propose (record t { raft_server = x }) ≡ may_propose t
same_may t x store role = rw (store) (rw (role) refl)

hears_its_answer : (number : ℕ) (message : Allocation) (uid : List ℕ) (preferred : ℕ) (g : StepState)
    → answer g.allocator.accepted message g.allocator.now (may_follow g.allocator) ≡ Whole uid preferred
    → hears_allocation number message g ≡ hears_whole number uid preferred (with_request message g)
hears_its_answer number message uid preferred g e = rw (e) refl

records_it : (number : ℕ) (uid : List ℕ) (preferred node : ℕ) (g : StepState) → is_zero uid ≡ false
    → recorded_at g.allocator.raft_server.store.log uid ≡ None → may_propose g.allocator ≡ true
    → some_unknown g.allocator.watch (known g.allocator) g.allocator.now ≡ false
    → chosen (taken g.allocator) preferred ≡ Some node
    → hears_whole number uid preferred g ≡ proposes number 1 uid node g
records_it number uid preferred node g device new can all_known choice =
    rw (device) (rw (new) (rw (can) (rw (all_known) (rw (choice) refl))))

-- the step when the pair is recorded
abbrev pub when_recorded : AllocatorState → ℕ → Arrival → Allocation → List ℕ → ℕ → StepState
when_recorded t number arrival message uid node = proposes number 1 uid node (with_request message (when_come t number arrival))

pub records_there : (t : AllocatorState) (number : ℕ) (arrival : Arrival) (message : Allocation) (uid : List ℕ) (preferred node : ℕ)
    → IsRequest arrival message → answer t.accepted message (moment_at t arrival) (may_follow t) ≡ Whole uid preferred
    → MayRecord t (moment_at t arrival) preferred uid node
    → step t number (Rx arrival) ≡ with_end_phase number (took (when_recorded t number arrival message uid node))
records_there t number arrival message uid preferred node request whole m =
    step_is t number arrival message request
    ∙ ap (λ (k : StepState). with_end_phase number (took k))
    (hears_its_answer number message uid preferred g
    (ap (λ (b : Bool). answer t.accepted message (moment_at t arrival) b) (same_follow t g.allocator.raft_server before.store before.role) ∙ whole)
    ∙ records_it number uid preferred node (with_request message g) m.device
    (ap (λ (s : Store). recorded_at s.log uid) before.store ∙ m.new)
    (same_may t g.allocator.raft_server before.store before.role ∙ m.may)
    (ap (λ (k : List Bool). some_unknown t.watch k (moment_at t arrival)) (same_known t g.allocator.raft_server before.store) ∙ m.all_known)
    (ap (λ (k : List Bool). chosen k preferred) (same_taken (at_moment arrival.moment t) g.allocator.raft_server before.store
    ∙ taken_at t arrival.moment (moment_at t arrival) (omega arith)) ∙ m.choice))
  where
    g : StepState
    g = when_come t number arrival

    before : IsAsBefore t.raft_server g.allocator.raft_server
    before = begun t number arrival

-- ---- to the end of the step

-- the log, the term and the role
abbrev Has : List Entry → ℕ → Role → StepState → Type 0
Has log term role g = (g.allocator.raft_server.store.log ≡ log) × (g.allocator.raft_server.store.term ≡ term)
    × (g.allocator.raft_server.memory.role ≡ role)

has_kept : (number : ℕ) (log : List Entry) (term : ℕ) (role : Role) → IsKept number (Has log term role)
has_kept number log term role = record {
  passes = λ g e h. h;
  tells = λ given g e h. h;
  votes = λ given peer g h. h;
  appends = λ given peer previous with_entry g h. h;
  sends = λ what to payload says g h. h;
}

-- a commit changes none of them
commit_has : (number : ℕ) (log : List Entry) (term : ℕ) (role : Role) (g : StepState) → Has log term role g
    → Has log term role (commit_phase number g)
commit_has number log term role g h =
    either (λ (moves : List Move). Has log term role (with_moves number (given_at g.allocator.now) moves g)) (is_leader g.allocator.raft_server.memory.role)
    (duty.commit_moves (commit_index (members_of g.allocator) g.allocator.me g.allocator.raft_server)) []
    (λ e. go (commit_index (members_of g.allocator) g.allocator.me g.allocator.raft_server)) (λ e. h)
  where
    go : (index : Option ℕ) → Has log term role (with_moves number (given_at g.allocator.now) (duty.commit_moves index) g)
    go None = h
    go (Some index) = h

pub records : (t : AllocatorState) (number : ℕ) (arrival : Arrival) (message : Allocation) (uid : List ℕ) (preferred node : ℕ)
    → IsRequest arrival message → answer t.accepted message (moment_at t arrival) (may_follow t) ≡ Whole uid preferred
    → MayRecord t (moment_at t arrival) preferred uid node → Records t uid node (step t number (Rx arrival))
records t number arrival message uid preferred node request whole m =
    subst (λ (s : StepResult). Records t uid node s) (sym (records_there t number arrival message uid preferred node request whole m))
    (record { seen = refl; log = ends.0; term = ends.1; role = ends.2 })
  where
    before : IsAsBefore t.raft_server (when_come t number arrival).allocator.raft_server
    before = begun t number arrival

    there : StepState
    there = when_recorded t number arrival message uid node

    first : Has (t.raft_server.store.log ++ proposal t.raft_server.store.term uid node ∷ []) t.raft_server.store.term
        t.raft_server.memory.role there
    first = (
      ap (λ (s : Store). s.log ++ proposal s.term uid node ∷ []) before.store,
      ap (λ (s : Store). s.term) before.store,
      before.role,
    )

    ends : Has (t.raft_server.store.log ++ proposal t.raft_server.store.term uid node ∷ []) t.raft_server.store.term
        t.raft_server.memory.role (end_phase number there)
    ends = rest_keeps number (Has (t.raft_server.store.log ++ proposal t.raft_server.store.term uid node ∷ []) t.raft_server.store.term t.raft_server.memory.role)
        (has_kept number (t.raft_server.store.log ++ proposal t.raft_server.store.term uid node ∷ []) t.raft_server.store.term t.raft_server.memory.role) there
        (commit_has number (t.raft_server.store.log ++ proposal t.raft_server.store.term uid node ∷ []) t.raft_server.store.term t.raft_server.memory.role there first)
