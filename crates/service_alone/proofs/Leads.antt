-- An allocator that is alone leads at the first tick after its wait.
use Rattle.std.proofs.Common.{◌≡◌, ℕ, ◌+◌, ◌<◌, ◌≤◌, Bool, true, false, List, [], ◌∷◌, ◌++◌, length, max, inl, inr, refl, sym, ◌∙◌, ap, subst, arith, Option, None, Some}
use Rattle.std.specs.Prelude.{◌-◌, ◌&&◌, ◌||◌, find, is_some, not, if◌then◌else◌}
use Rattle.can_frame.specs.declared.entry.Entry.{Entry}
use Rattle.can_frame.specs.declared.step.What.TheVariants.{Stat}
use Rattle.can_frame.specs.Cutting.{Piece, frame_bytes, tail_at}
use Rattle.can_frame.specs.Identifier.{identifier_number}
use Rattle.can_frame.specs.Log.{blank, log_limit}
use Rattle.dsdl_codec.specs.NodeStatus.{node_status_bytes}
use Rattle.node_discovery.specs.History.{identity, is_silent}
use Rattle.node_discovery.specs.Watch.{Watched, devices, history, is_due, next_query}
use Rattle.raft_core.specs.Handled.{moves_of_expire, puts_with_origins, with_blank}
use Rattle.raft_core.specs.Times.{Times, given_at, given_tick, has_waited, overdue, stand, win}
use Rattle.raft_model.specs.Duty as duty
use Rattle.raft_model.specs.Handlers.{server_after}
use Rattle.raft_model.specs.Moves.{Move}
use Rattle.raft_model.specs.Moves.Elections.{is_leader, stand_memory, term_limit, win_memory}
use Rattle.raft_model.specs.Moves.Move.{CommitTo, ProposeEntry, TimeOut}
use Rattle.raft_model.specs.Server.{RaftServer, Store, memory_when_opened}
use Rattle.raft_model.specs.Server.Role.{Leader}
use Rattle.transfer_tx.specs.Queue.{Queued, marked, queued_frames}
use Rattle.alloc_spec.specs.AllocatorState.{AllocatorState, is_known, known, may_propose, members_of, status_of}
use Rattle.can_frame.specs.declared.step.Seen.TheVariants.{Ticked}
use Rattle.alloc_spec.specs.Delivered.{StepResult}
use Rattle.alloc_spec.specs.Ending.{call_phase, commit_phase, end_phase, has_to_tell, tell_phase, tells_next}
use Rattle.alloc_spec.specs.Rules.{opening_by, rules_by}
use Rattle.alloc_spec.specs.Step.{all_nodes, at_moment, begin_phase, step, with_end_phase}
use Rattle.alloc_spec.specs.Step.Event.{Tick}
use Rattle.alloc_spec.specs.StepState.{StepState, initial_state, with_moves}
use Rattle.alloc_spec.specs.Tick.{asks, candidate, clock_phase, election_moves, election_phase, is_candidate, query_phase, record_phase, records_node, status_phase, tells_status}
use Rattle.alloc_spec.specs.Transfers.{ident_of, signature_of}
use Rattle.service_steps.specs.ComingBack.{HasGrown}
use Rattle.service_steps.proofs.Alone.{last_entry, lt_is, one_longer, to_the_end}
use Rattle.service_steps.proofs.Ends.{IsKept, rest_keeps}
use Rattle.service_steps.proofs.FollowUps.{commits_nothing, same_number}
use Rattle.allocatee.proofs.Requests.{le_is, one_piece}
use Rattle.alloc_spec_laws.proofs.Choices.{lt_tells}

-- ---- nothing is given up, recorded or asked where nothing happened

pub none_overdue : (times : Times) (now : ℕ) (nodes : List ℕ) → ((node : ℕ) → times.sending node ≡ None) → overdue times now nodes ≡ []
none_overdue times now [] none = refl
none_overdue times now (node ∷ nodes) none = rw (none node) (none_overdue times now nodes none)

pub none_found : (test : ℕ → Bool) (nodes : List ℕ) → ((node : ℕ) → test node ≡ false) → find test nodes ≡ None
none_found test [] none = refl
none_found test (node ∷ nodes) none = rw (none node) (none_found test nodes none)

pub and_false : (b : Bool) → (b && false) ≡ false
and_false true = refl
and_false false = refl

pub same_either : {A : Type 0} (b : Bool) (x : A) → (if b then x else x) ≡ x
same_either true x = refl
same_either false x = refl

no_candidate : (t : AllocatorState) → t.watch ≡ [] → candidate t ≡ None
no_candidate t e = none_found (is_candidate t) devices (λ node.
    ap (λ (w : List Watched). not (is_known t node) && (is_some (identity (history node w) t.now) || is_silent t.counting (history node w) t.now)) e
    ∙ and_false (not (is_known t node)))

pub records_nothing : (number : ℕ) (g : StepState) → g.allocator.watch ≡ [] → record_phase number g ≡ g
records_nothing number g e =
    ap (λ (c : Option ℕ). if may_propose g.allocator then records_node number c g else g) (no_candidate g.allocator e)
    ∙ same_either (may_propose g.allocator) g

no_query : (watch : List Watched) (known : List Bool) (now : ℕ) → watch ≡ [] → next_query watch known now ≡ None
unfolding next_query
no_query watch known now e = none_found (λ node. is_due watch known node now) devices (λ node.
    ap (λ (w : List Watched). is_due w known node now) e)

pub asks_nothing : (number : ℕ) (g : StepState) → g.allocator.watch ≡ [] → query_phase number g ≡ g
asks_nothing number g e =
    ap (λ (o : Option ℕ). if is_leader g.allocator.raft_server.memory.role then asks number o g else g)
    (no_query g.allocator.watch (known g.allocator) g.allocator.now e)
    ∙ same_either (is_leader g.allocator.raft_server.memory.role) g

-- ---- a NodeStatus is one frame

-- the identifier of its NodeStatus
abbrev pub status_number : ℕ → ℕ
status_number n = identifier_number (ident_of n Stat 0)

pub status_frame : (n number id : ℕ) (bytes : List ℕ) → length bytes ≡ 7
    → (frame : Queued) × (frame.id ≡ status_number n) × (queued_frames (record { ident = ident_of n Stat 0; signature = signature_of Stat; id = id; payload = record { items = bytes } }) number 0 ≡ frame ∷ [])
unfolding queued_frames
status_frame n number id bytes size = (
  record { id = status_number n; bytes = frame_bytes (record { bytes = bytes; tail = tail_at id 0 true }); mark = record { step = number; re = 0; place = 0 } },
  refl,
  ap (λ (pieces : List Piece). marked (status_number n) number 0 0 pieces) (one_piece (signature_of Stat) id bytes (omega (arith, size))),
)

-- who is alone calls nobody
pub calls_nobody : (number : ℕ) (k : StepState) → members_of k.allocator ≡ k.allocator.me ∷ [] → call_phase number k ≡ k
calls_nobody number k alone = rw (alone) refl

-- the end of a step in which nothing is to be committed, told or called
pub quiet_end : (number : ℕ) (g : StepState) → g.allocator.raft_server.store.commit ≡ length g.allocator.raft_server.store.log
    → g.allocator.raft_server.memory.told ≡ g.allocator.raft_server.store.commit → members_of g.allocator ≡ g.allocator.me ∷ []
    → end_phase number g ≡ with_moves number (given_at g.allocator.now) [] g
quiet_end number g committed told alone =
    ap (λ (k : StepState). call_phase number (tell_phase number k)) (commits_nothing number g committed)
    ∙ (ap (λ (b : Bool). call_phase number (if b then tells_next number k else k)) none ∙ rw (alone) refl)
  where
    k : StepState
    k = with_moves number (given_at g.allocator.now) [] g

    none : has_to_tell g.allocator.raft_server ≡ false
    none = elim (lt_tells g.allocator.raft_server.memory.told g.allocator.raft_server.store.commit) [
      | inl z ↦ absurd (omega (arith, z.1, told))
      | inr z ↦ ap (λ (b : Bool). is_leader g.allocator.raft_server.memory.role && b) z.0 ∙ and_false (is_leader g.allocator.raft_server.memory.role)
    ]

-- ---- the tick

module _ (n : ℕ) (store : Store) (moment number : ℕ) where
  abbrev pub opened : AllocatorState
  opened = opening_by n (rules_by 1 []) store moment 0

  abbrev pub then_now : ℕ
  then_now = moment + 2000

  abbrev begun : StepState
  begun = initial_state (record opened { now = then_now })

  begins : begin_phase number then_now opened ≡ begun
  begins =
      ap (λ (nodes : List ℕ). with_moves number (given_at (max moment then_now)) (moves_of_expire nodes) (initial_state (at_moment then_now opened)))
      (none_overdue opened.times (max moment then_now) all_nodes (λ node. refl))
      ∙ ap (λ (now : ℕ). initial_state (record opened { now = now })) (omega arith)

  abbrev told : StepState
  told = tells_status number begun

  tells : status_phase number begun ≡ told
  tells = rw (le_is 1000 (then_now - moment) (omega arith)) refl

  -- it stands and wins
  abbrev pub leader : RaftServer
  leader = record {
    store = record { term = store.term + 1; vote = Some n; log = store.log; commit = store.commit };
    memory = win_memory store (stand_memory n memory_when_opened);
  }

  wins : server_after (n ∷ []) n number opened.raft_server TimeOut ≡ leader
  wins = rw (same_number n) refl

  abbrev times_then : Times
  times_then = win (stand (given_tick then_now 0) opened.times)

  stands : (complete : Bool) → complete ≡ true → store.term < term_limit
      → duty.tick_phase (complete && has_waited opened.times then_now) opened.raft_server ≡ TimeOut ∷ []
  stands complete all low = rw (all) (rw (le_is 2000 (then_now - moment) (omega arith)) (rw (lt_is store.term term_limit low) refl))

  -- where all that is stored is committed
  module _ (low : store.term < term_limit) (committed : store.commit ≡ length store.log) where
    abbrev won : StepState
    won = record told {
      allocator = record told.allocator { raft_server = leader; times = times_then };
      moves = TimeOut ∷ [];
      puts = puts_with_origins (n ∷ []) n number (given_tick then_now 0) opened.raft_server (TimeOut ∷ []);
    }

    no_blank : duty.takes_blank leader.store ≡ false
    no_blank = elim (lt_tells store.commit (length store.log)) [ inl z ↦ absurd (omega (arith, z.1, committed)) | inr z ↦ rw (z.0) refl ]

    elects : election_moves number told.allocator ≡ TimeOut ∷ []
    elects = ap (λ (moves : List Move). with_blank (n ∷ []) n number opened.times opened.raft_server moves) (stands true refl low)
        ∙ (ap (λ (s : RaftServer). TimeOut ∷ duty.blank_moves s) wins
        ∙ ap (λ (b : Bool). TimeOut ∷ (if b then ProposeEntry (blank (store.term + 1)) ∷ [] else [])) no_blank)

    wins_then : election_phase number 0 told ≡ won
    wins_then = ap (λ (moves : List Move). with_moves number (given_tick then_now 0) moves told) elects
        ∙ rw (same_number n) refl

    abbrev clocked : StepState
    clocked = with_moves number (given_at then_now) [] won

    ends : end_phase number won ≡ clocked
    ends = ap (λ (g : StepState). call_phase number (tell_phase number g)) (commits_nothing number won committed)
        ∙ ap (λ (b : Bool). call_phase number (if b then tells_next number clocked else clocked)) nothing_to_tell
      where
        nothing_to_tell : has_to_tell leader ≡ false
        nothing_to_tell = elim (lt_tells store.commit store.commit) [ inl z ↦ absurd (omega (arith, z.1)) | inr z ↦ z.0 ]

    clock : clock_phase number 0 begun ≡ won
    clock = ap (λ (g : StepState). query_phase number (record_phase number (election_phase number 0 g))) tells
        ∙ (ap (λ (g : StepState). query_phase number (record_phase number g)) wins_then
        ∙ (ap (λ (g : StepState). query_phase number g) (records_nothing number won refl) ∙ asks_nothing number won refl))

    pub leads_at_once : step opened number (Tick then_now 0) ≡ record { seen = Ticked; step_state = clocked }
    unfolding step
    leads_at_once = ap (λ (g : StepState). with_end_phase number (record { seen = Ticked; step_state = clock_phase number 0 g })) begins
        ∙ (ap (λ (g : StepState). with_end_phase number (record { seen = Ticked; step_state = g })) clock
        ∙ ap (λ (g : StepState). record { seen = Ticked; step_state = g }) ends)

  -- where something is not, a blank commits it
  module _ (low : store.term < term_limit) (behind : store.commit < length store.log) (room : length store.log < log_limit) where
    abbrev more : Entry
    more = blank (store.term + 1)

    abbrev added : StepState
    added = with_moves number (given_tick then_now 0) (TimeOut ∷ ProposeEntry more ∷ []) told

    takes_blank : duty.takes_blank leader.store ≡ true
    takes_blank = rw (lt_is store.commit (length store.log) behind) (lt_is (length store.log) log_limit room)

    adds : election_phase number 0 told ≡ added
    adds = ap (λ (moves : List Move). with_moves number (given_tick then_now 0) moves told)
        (ap (λ (moves : List Move). with_blank (n ∷ []) n number opened.times opened.raft_server moves) (stands true refl low)
        ∙ (ap (λ (s : RaftServer). TimeOut ∷ duty.blank_moves s) wins
        ∙ ap (λ (b : Bool). TimeOut ∷ (if b then ProposeEntry more ∷ [] else [])) takes_blank))

    clock_adds : clock_phase number 0 begun ≡ added
    clock_adds = ap (λ (g : StepState). query_phase number (record_phase number (election_phase number 0 g))) tells
        ∙ (ap (λ (g : StepState). query_phase number (record_phase number g)) adds
        ∙ (ap (λ (g : StepState). query_phase number g) (records_nothing number added refl) ∙ asks_nothing number added refl))

    abbrev settled : Store
    settled = record {
      term = store.term + 1;
      vote = Some n;
      log = store.log ++ more ∷ [];
      commit = length (store.log ++ more ∷ []);
    }

    role : added.allocator.raft_server.memory.role ≡ Leader
    role = rw (same_number n) refl

    commits : commit_phase number added ≡ with_moves number (given_at then_now) (CommitTo (length (store.log ++ more ∷ [])) ∷ []) added
    commits = ap (λ (moves : List Move). with_moves number (given_at then_now) moves added)
        (rw (ap is_leader role) (ap duty.commit_moves (to_the_end n added.allocator.raft_server
        (omega (arith, behind, one_longer store.log more)) (ap (λ (e : Entry). e.term) (last_entry store.log more)))))

    abbrev Settled : StepState → Type 0
    Settled g = g.allocator.raft_server.store ≡ settled

    kept : IsKept number Settled
    kept = record {
      passes = λ g e h. h;
      tells = λ given g e h. h;
      votes = λ given peer g h. h;
      appends = λ given peer previous with_entry g h. h;
      sends = λ what to payload says g h. h;
    }

    ends_settled : Settled (end_phase number added)
    ends_settled = rest_keeps number Settled kept added (subst Settled (sym commits) refl)

    pub settles : (step opened number (Tick then_now 0)).step_state.allocator.raft_server.store ≡ settled
    unfolding step
    settles = ap (λ (g : StepState). (end_phase number (clock_phase number 0 g)).allocator.raft_server.store) begins
        ∙ (ap (λ (g : StepState). (end_phase number g).allocator.raft_server.store) clock_adds ∙ ends_settled)

-- ---- what is stored after the tick

-- all is committed, and there is a blank more at most
pub record IsSettled (before after : Store) : Type 0 where
  pub term : after.term ≡ before.term + 1
  pub commit : after.commit ≡ length after.log
  pub log : HasGrown before.log after.log

pub settles_all : (n : ℕ) (store : Store) (moment number : ℕ) → store.commit ≤ length store.log → length store.log < log_limit → store.term < term_limit
    → IsSettled store (step (opened n store moment number) number (Tick (moment + 2000) 0)).step_state.allocator.raft_server.store
settles_all n store moment number inside room low = elim (lt_tells store.commit (length store.log)) [
  | inl z ↦ subst (IsSettled store) (sym (settles n store moment number low z.1 room))
      (record { term = refl; commit = refl; log = inr (store.term + 1, refl) })
  | inr z ↦ subst (λ (r : StepResult). IsSettled store r.step_state.allocator.raft_server.store)
      (sym (leads_at_once n store moment number low (omega (arith, z.1, inside))))
      (record { term = refl; commit = omega (arith, z.1, inside); log = inl refl })
]

-- ---- what the allocator is after the tick, where all was committed

-- it leads, has told all that it committed, heard nothing, and its NodeStatus waits
pub record IsFreshLeader (n : ℕ) (store : Store) (moment : ℕ) (t : AllocatorState) : Type 0 where
  pub me : t.me ≡ n
  pub size : t.size ≡ 1
  pub heard : t.heard ≡ []
  pub watch : t.watch ≡ []
  pub accepted : t.accepted ≡ []
  pub now : t.now ≡ moment
  pub next : t.ids.alloc ≡ 0
  pub role : t.raft_server.memory.role ≡ Leader
  pub log : t.raft_server.store.log ≡ store.log
  pub committed : t.raft_server.store.commit ≡ length store.log
  pub told : t.raft_server.memory.told ≡ length store.log
  pub status_at : t.status_at ≡ moment
  pub status : Queued
  pub waiting : t.queue ≡ status ∷ []

-- the bytes of its NodeStatus
abbrev status_bytes : (n : ℕ) (store : Store) (moment number : ℕ) → List ℕ
status_bytes n store moment number = node_status_bytes (status_of (begun n store moment number).allocator)

pub fresh : (n : ℕ) (store : Store) (moment number : ℕ) → store.commit ≡ length store.log → store.term < term_limit
    → IsFreshLeader n store (moment + 2000) (step (opened n store moment number) number (Tick (moment + 2000) 0)).step_state.allocator
fresh n store moment number committed low =
    subst (λ (r : StepResult). IsFreshLeader n store (moment + 2000) r.step_state.allocator) (sym (leads_at_once n store moment number low committed))
    (record {
      me = refl;
      size = refl;
      heard = refl;
      watch = refl;
      accepted = refl;
      now = refl;
      next = refl;
      role = refl;
      log = refl;
      committed = committed;
      told = committed;
      status_at = refl;
      status = (status_frame n number 0 (status_bytes n store moment number) refl).0;
      waiting = (status_frame n number 0 (status_bytes n store moment number) refl).2;
    })
