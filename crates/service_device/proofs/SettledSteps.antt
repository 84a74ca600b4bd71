-- What the phases of a step keep of a leader that has settled: of what it heard and of its log; and its ticks.
use Rattle.std.proofs.Common.{◌≡◌, ℕ, ◌≤◌, Bool, true, false, List, [], ◌∷◌, ◌++◌, refl, sym, ◌∙◌, ap, subst, arith, max, inl, inr, Option, Some, None}
use Rattle.std.specs.Prelude.{◌&&◌, ◌||◌, ◌-◌, nat_eq, nat_le, if◌then◌else◌}
use Rattle.std.specs.List.{list_any}
use Rattle.std.proofs.lemmas.List.Folds.{list_any-append}
use Rattle.std.proofs.lemmas.Bool.Decides.{leb_tells}
use Rattle.alloc_exchange.specs.Exchange.{Accepted}
use Rattle.can_frame.specs.declared.entry.Entry.{Entry}
use Rattle.can_frame.specs.Timing.{status_interval}
use Rattle.cluster_discovery.specs.Members.{is_due, is_on_list, owes}
use Rattle.node_discovery.specs.History.{is_online, is_within, last_status}
use Rattle.node_discovery.specs.Watch.{Watched, devices, history, is_due as is_query_due, next_query}
use Rattle.raft_core.specs.Handled.{moves_of_expire}
use Rattle.raft_core.specs.Times.{HandedIn, given_at, given_tick, has_waited, overdue}
use Rattle.raft_model.specs.Decisions.{commit_index}
use Rattle.raft_model.specs.Duty.{commit_moves}
use Rattle.raft_model.specs.Handlers.{server_after, server_after_all}
use Rattle.raft_model.specs.Moves.{Move}
use Rattle.raft_model.specs.Moves.Elections.{is_leader}
use Rattle.raft_model.specs.Moves.Move.{CallForVote, CallToAppend, GiveUp}
use Rattle.raft_model.specs.Server.{RaftServer}
use Rattle.alloc_spec.specs.AllocatorState.{AllocatorState, is_known, is_recorded, knows_all, known, may_propose, members_of, start_of}
use Rattle.alloc_spec.specs.Ending.{end_phase}
use Rattle.alloc_spec.specs.Step.{all_nodes, at_moment, begin_phase, step}
use Rattle.alloc_spec.specs.Step.Event.{Tick}
use Rattle.alloc_spec.specs.StepState.{StepState, with_moves}
use Rattle.alloc_spec.specs.Tick.{asks, clock_phase, discovery_phase, election_phase, is_candidate, query_phase, record_phase, records_node, status_phase, tells_members, tells_status}
use Rattle.alloc_spec.proofs.Blanks.{moves_and_blank}
use Rattle.alloc_spec_laws.proofs.Choices.{either, tell}
use Rattle.service_steps.proofs.Ends.{IsKept, rest_keeps}
use Rattle.service_steps.proofs.LeadsOn.{no_election}
use Rattle.service_alone.proofs.CalmRest.{not_unknown}
use Rattle.service_alone.proofs.Leads.{none_found, same_either}
use Rattle.service_device.proofs.SettledRaft.{EndsNoCall, IsOffice, IsStill}

-- ---- who is not known is not online

-- no node is online that is neither on the list nor in the log
abbrev pub NoStranger : (log : List Entry) (list : List ℕ) (watch : List Watched) (now : ℕ) → Type 0
NoStranger log list watch now = (other : ℕ) → (is_on_list list other || is_recorded log other) ≡ false → is_online (history other watch) now ≡ false

not_within_later : (limit now later : ℕ) (last : Option ℕ) → now ≤ later → is_within limit now last ≡ false → is_within limit later last ≡ false
not_within_later limit now later None after_it e = refl
not_within_later limit now later (Some moment) after_it e = elim (leb_tells (now - moment) limit) [
  | inl z ↦ absurd (cc (e, z.0))
  | inr z ↦ elim (leb_tells (later - moment) limit) [ inl y ↦ absurd (omega (arith, z.1, y.1, after_it)) | inr y ↦ y.0 ]
]

-- so it is later
pub no_stranger_later : (log : List Entry) (list : List ℕ) (watch : List Watched) (now later : ℕ) → now ≤ later → NoStranger log list watch now
    → NoStranger log list watch later
no_stranger_later log list watch now later after_it off other e =
    not_within_later 3000 now later (last_status (history other watch)) after_it (off other e)

-- who stands in a log stands in a longer one
pub still_recorded : (log more : List Entry) (node : ℕ) → is_recorded log node ≡ true → is_recorded (log ++ more) node ≡ true
still_recorded log more node e =
    list_any-append (λ (entry : Entry). nat_eq entry.node node) log more
    ∙ ap (λ (b : Bool). b || list_any (λ (entry : Entry). nat_eq entry.node node) more) e

pub or_less_right : (a b c : Bool) → (b ≡ true → c ≡ true) → (a || c) ≡ false → (a || b) ≡ false
or_less_right true b c grows e = e
or_less_right false true c grows e = absurd (cc (e, grows refl))
or_less_right false false c grows e = refl

module _ (number top : ℕ) (log : List Entry) (now : ℕ) (Holds : RaftServer → Type 0) (Sees : List ℕ → ℕ → Bool → Type 0) (office : IsOffice top log Holds Sees) where
  -- what it goes by, in a step at this moment
  pub record Rests (accepted : List Accepted) (server : RaftServer) (reads status : ℕ) (taken : List Accepted) (list : List ℕ) (watch : List Watched)
      (owing : Bool) : Type 0 where
    pub done : Holds server
    pub clock : reads ≡ now
    pub status_at : status ≤ now
    pub accepts : taken ≡ accepted
    pub offline : NoStranger log list watch now
    pub discovery : owing ≡ false

  abbrev pub RestsAt : List Accepted → AllocatorState → Type 0
  RestsAt accepted t = Rests accepted t.raft_server t.now t.status_at t.accepted (members_of t) t.watch (owes (start_of t) t.heard)

  abbrev pub Keeps : List Accepted → StepState → Type 0
  Keeps accepted g = RestsAt accepted g.allocator

  -- with another server of the Raft model
  pub goes_on : (accepted : List Accepted) (g : StepState) (x : RaftServer) → Holds x → Keeps accepted g
      → Rests accepted x g.allocator.now g.allocator.status_at g.allocator.accepted (members_of g.allocator) g.allocator.watch
      (owes (start_of g.allocator) g.allocator.heard)
  goes_on accepted g x done h = record {
    done = done;
    clock = h.clock;
    status_at = h.status_at;
    accepts = h.accepts;
    offline = h.offline;
    discovery = h.discovery;
  }

  -- a move that it does not mind
  pub moves_on : (accepted : List Accepted) (given : HandedIn) (g : StepState) (move : Move) → IsStill top g.allocator.raft_server move → EndsNoCall move
      → Keeps accepted g → Keeps accepted (with_moves number given (move ∷ []) g)
  moves_on accepted given g move is quiet h =
      goes_on accepted g _ (office.still (members_of g.allocator) g.allocator.me number g.allocator.raft_server move is quiet h.done) h

  -- ---- as a step begins and ends

  expired : (list : List ℕ) (me : ℕ) (nodes : List ℕ) (server : RaftServer) → Holds server
      → Holds (server_after_all list me number server (moves_of_expire nodes))
  expired list me [] server h = h
  expired list me (node ∷ nodes) server h =
      expired list me nodes (server_after list me number server (GiveUp node)) (office.still list me number server (GiveUp node) tt tt h)

  -- what is so when a step begins
  pub begins : (accepted : List Accepted) (t : AllocatorState) (moment : ℕ) → max t.now moment ≡ now → Holds t.raft_server → t.status_at ≤ now
      → t.accepted ≡ accepted → NoStranger log (members_of t) t.watch t.now → owes (start_of t) t.heard ≡ false
      → Keeps accepted (begin_phase number moment t)
  begins accepted t moment reads done status accepts offline discovery = record {
    done = expired (members_of (at_moment moment t)) t.me (overdue t.times (max t.now moment) all_nodes) t.raft_server done;
    clock = reads;
    status_at = status;
    accepts = accepts;
    offline = no_stranger_later log (members_of t) t.watch t.now now (omega (arith, reads)) offline;
    discovery = discovery;
  }

  module _ (accepted : List Accepted) where
    kept : IsKept number (Keeps accepted)
    kept = record {
      passes = λ g e h. goes_on accepted g _ (office.passes (members_of g.allocator) g.allocator.me number g.allocator.raft_server e h.done) h;
      tells = λ given g e h. goes_on accepted g _ (office.tells (members_of g.allocator) g.allocator.me number g.allocator.raft_server e h.done) h;
      votes = λ given peer g h. moves_on accepted given g (CallForVote peer) tt tt h;
      appends = λ given peer previous with_entry g h. moves_on accepted given g (CallToAppend peer previous with_entry) tt tt h;
      sends = λ what to payload says g h. h;
    }

    commits : (g : StepState) (leads : Bool) (index : Option ℕ) → commit_index (members_of g.allocator) g.allocator.me g.allocator.raft_server ≡ index
        → Keeps accepted g → Keeps accepted (with_moves number (given_at g.allocator.now) (if leads then commit_moves index else []) g)
    commits g true None e h = h
    commits g true (Some index) e h = goes_on accepted g _ (office.commits (members_of g.allocator) g.allocator.me number g.allocator.raft_server index e h.done) h
    commits g false index e h = h

    -- the end of a step leaves it so
    pub ends : (g : StepState) → Keeps accepted g → Keeps accepted (end_phase number g)
    ends g h = rest_keeps number (Keeps accepted) kept g (commits g (is_leader g.allocator.raft_server.memory.role)
        (commit_index (members_of g.allocator) g.allocator.me g.allocator.raft_server) refl h)

    -- ---- a tick

    -- who is not known, by its own list and log, is not online
    unknown_off : (g : StepState) → Keeps accepted g → (node : ℕ) → is_known g.allocator node ≡ false
        → is_online (history node g.allocator.watch) g.allocator.now ≡ false
    unknown_off g h node e =
        (λ i. is_online (history node g.allocator.watch) (h.clock i))
        ∙ h.offline node (or_less_right (is_on_list (members_of g.allocator) node) (is_recorded log node) (is_recorded (log ++ more.0) node)
        (still_recorded log more.0 node)
        (ap (λ (l : List Entry). is_on_list (members_of g.allocator) node || is_recorded l node) (sym more.1) ∙ e))
      where
        more : (more : List Entry) × (g.allocator.raft_server.store.log ≡ log ++ more)
        more = office.log_is g.allocator.raft_server h.done

    not_candidate : (g : StepState) → Keeps accepted g → (node : ℕ) → is_candidate g.allocator node ≡ false
    not_candidate g h node = elim (tell (is_known g.allocator node)) [
      | inl z ↦ rw (z) refl
      | inr z ↦ rw (z) (rw (unknown_off g h node z) refl)
    ]

    no_query : (g : StepState) → Keeps accepted g → next_query g.allocator.watch (known g.allocator) g.allocator.now ≡ None
    unfolding next_query
    no_query g h = none_found (λ node. is_query_due g.allocator.watch (known g.allocator) node g.allocator.now) devices (λ node.
        rw (not_unknown g.allocator g.allocator.now (unknown_off g h) node) refl)

    finds : (g : StepState) → Keeps accepted g → Keeps accepted (discovery_phase number g)
    finds g h = either (Keeps accepted) (is_due (start_of g.allocator) g.allocator.heard g.allocator.now) (tells_members number g) g (λ e. record {
      done = h.done;
      clock = h.clock;
      status_at = h.status_at;
      accepts = h.accepts;
      offline = h.offline;
      discovery = refl;
    }) (λ e. h)

    states : (g : StepState) → Keeps accepted g → Keeps accepted (status_phase number g)
    states g h = either (Keeps accepted) (nat_le status_interval (g.allocator.now - g.allocator.status_at)) (tells_status number g) g (λ e. record {
      done = h.done;
      clock = h.clock;
      status_at = let c = h.clock in omega (arith, c);
      accepts = h.accepts;
      offline = h.offline;
      discovery = h.discovery;
    }) (λ e. h)

    elects : (word : ℕ) (g : StepState) → Keeps accepted g → Keeps accepted (election_phase number word g)
    elects word g h = subst (λ (moves : List Move). Keeps accepted (moves_and_blank number (given_tick g.allocator.now word) moves g))
        (sym (no_election (knows_all g.allocator && has_waited g.allocator.times g.allocator.now) g.allocator.raft_server (office.leads g.allocator.raft_server h.done).0)) h

    notes : (g : StepState) → Keeps accepted g → Keeps accepted (record_phase number g)
    notes g h = subst (Keeps accepted) (sym (ap (λ (c : Option ℕ). if may_propose g.allocator then records_node number c g else g)
        (none_found (is_candidate g.allocator) devices (not_candidate g h)) ∙ same_either (may_propose g.allocator) g)) h

    queries : (g : StepState) → Keeps accepted g → Keeps accepted (query_phase number g)
    queries g h = subst (Keeps accepted) (sym (ap (λ (o : Option ℕ). if is_leader g.allocator.raft_server.memory.role then asks number o g else g) (no_query g h)
        ∙ same_either (is_leader g.allocator.raft_server.memory.role) g)) h

    ticks : (word : ℕ) (g : StepState) → Keeps accepted g → Keeps accepted (clock_phase number word g)
    ticks word g h =
        let stated : StepState = status_phase number (discovery_phase number g) in
        let elected : StepState = election_phase number word stated in
        queries (record_phase number elected) (notes elected (elects word stated (states (discovery_phase number g) (finds g h))))

    -- a tick leaves it so
    pub rests_at_tick : (t : AllocatorState) (moment word : ℕ) → Keeps accepted (begin_phase number moment t)
        → Keeps accepted (step t number (Tick moment word)).step_state
    unfolding step
    rests_at_tick t moment word h = ends (clock_phase number word (begin_phase number moment t)) (ticks word (begin_phase number moment t) h)
