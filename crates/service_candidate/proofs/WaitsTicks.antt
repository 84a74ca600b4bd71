-- What a tick does to the wait of a server: it goes on, or the server stands for election.
use Rattle.std.proofs.Common.{◌≡◌, ℕ, ◌+◌, Bool, true, false, List, [], ◌∷◌, ◌⊎◌, inl, inr, refl, sym, ◌∙◌, ap, max, Option, Some, None}
use Rattle.std.specs.Prelude.{◌&&◌, ◌-◌, nat_le, nat_lt, not, if◌then◌else◌}
use Rattle.can_frame.specs.declared.step.What.TheVariants.{InfoQ}
use Rattle.can_frame.specs.Timing.{status_interval}
use Rattle.cluster_discovery.specs.Members.{is_due}
use Rattle.node_discovery.specs.Watch.{next_query}
use Rattle.raft_core.specs.Times.{HandedIn, Times, given_at, given_tick, has_waited, overdue, stand, win}
use Rattle.raft_model.specs.Moves.Elections.{has_quorum, is_leader, own_vote, stand_memory, term_limit, win_memory}
use Rattle.raft_model.specs.Moves.Move.{TimeOut}
use Rattle.raft_model.specs.Server.{Memory, Role, Store}
use Rattle.raft_model.specs.Server.Role.{Candidate, Leader}
use Rattle.alloc_spec.specs.AllocatorState.{AllocatorState, known, knows_all, may_propose, members_of, start_of}
use Rattle.alloc_spec.specs.Step.{all_nodes, at_moment, begin_phase, step}
use Rattle.alloc_spec.specs.Step.Event.{Tick}
use Rattle.alloc_spec.specs.StepState.{StepState, with_moves, with_transfer}
use Rattle.alloc_spec.specs.Tick.{asks, candidate, clock_phase, discovery_phase, election_phase, new_uid, query_phase, record_phase, records_as, records_node, status_phase, tells_members, tells_status, with_query_if}
use Rattle.alloc_spec.specs.Transfers.{has_room, id_of}
use Rattle.alloc_spec.proofs.Blanks.{tick_with_blank}
use Rattle.alloc_spec_laws.proofs.Choices.{either}
use Rattle.service_steps.proofs.Begins.{IsAsBefore, expired}
use Rattle.service_steps.proofs.StaysFollower.{since_stays}
use Rattle.service_candidate.proofs.WaitsKept.{Keeps, ends, wait_stays, word_stays}

-- whether a server stands for election at a tick at this moment
abbrev pub stands_at : AllocatorState → ℕ → Bool
stands_at t moment = (knows_all t && has_waited t.times moment) && (not (is_leader t.raft_server.memory.role) && nat_lt t.raft_server.store.term term_limit)

-- the role of a server that stands
abbrev pub role_of_standing : AllocatorState → Role
role_of_standing t = if has_quorum (members_of t) (own_vote t.me) then Leader else Candidate

-- A tick at this moment leaves it as it was; or the server stood.
abbrev pub Ticked : AllocatorState → ℕ → (since word term : ℕ) → Role → Type 0
Ticked t moment since word term role =
    ((stands_at t moment ≡ false) × (since ≡ t.times.since) × (word ≡ t.times.word) × (term ≡ t.raft_server.store.term) × (role ≡ t.raft_server.memory.role))
    ⊎ ((stands_at t moment ≡ true) × (since ≡ moment) × (term ≡ t.raft_server.store.term + 1) × (role ≡ role_of_standing t))

module _ (number : ℕ) (t : AllocatorState) (moment : ℕ) where
  -- before it stands, or not
  abbrev IsBegun : StepState → Type 0
  IsBegun g = (g.allocator.now ≡ moment) × (g.allocator.times.since ≡ t.times.since) × (g.allocator.times.word ≡ t.times.word)
      × (has_waited g.allocator.times moment ≡ has_waited t.times moment)
      × (g.allocator.raft_server.store ≡ t.raft_server.store) × (g.allocator.raft_server.memory.role ≡ t.raft_server.memory.role)
      × (knows_all g.allocator ≡ knows_all t) × (members_of g.allocator ≡ members_of t) × (g.allocator.me ≡ t.me)

  finds : (x : StepState) → IsBegun x → IsBegun (discovery_phase number x)
  finds x i = either IsBegun (is_due (start_of x.allocator) x.allocator.heard x.allocator.now) (tells_members number x) x (λ e. i) (λ e. i)

  states : (x : StepState) → IsBegun x → IsBegun (status_phase number x)
  states x i = either IsBegun (nat_le status_interval (x.allocator.now - x.allocator.status_at)) (tells_status number x) x (λ e. i) (λ e. i)

  -- ---- it stands, or not

  abbrev P : ℕ → ℕ → ℕ → Role → Type 0
  P = Ticked t moment

  abbrev its_test : StepState → Bool
  its_test g = (knows_all g.allocator && has_waited g.allocator.times g.allocator.now)
      && (not (is_leader g.allocator.raft_server.memory.role) && nat_lt g.allocator.raft_server.store.term term_limit)

  same_test : (g : StepState) → IsBegun g → its_test g ≡ stands_at t moment
  same_test g h = (λ i. (h.6 i && (ap (λ (m : ℕ). has_waited g.allocator.times m) h.0 ∙ h.3) i)
      && (not (is_leader (h.5 i)) && nat_lt (h.4 i).term term_limit))

  role_is : (g : StepState) → IsBegun g → (q : Bool) → has_quorum (members_of g.allocator) (own_vote g.allocator.me) ≡ q → (s : Store) (m : Memory)
      → (if q then win_memory s (stand_memory g.allocator.me m) else stand_memory g.allocator.me m).role ≡ role_of_standing t
  role_is g h true e s m = ap (λ (q : Bool). if q then Leader else Candidate) (sym e ∙ (λ i. has_quorum (h.7 i) (own_vote (h.8 i))))
  role_is g h false e s m = ap (λ (q : Bool). if q then Leader else Candidate) (sym e ∙ (λ i. has_quorum (h.7 i) (own_vote (h.8 i))))

  since_is : (q : Bool) (given : HandedIn) (times : Times) → (if q then win (stand given times) else stand given times).since ≡ given.now
  since_is true given times = refl
  since_is false given times = refl

  elected : (word : ℕ) (b : Bool) (g : StepState) → IsBegun g → its_test g ≡ b
      → Keeps P (with_moves number (given_tick g.allocator.now word) (if b then TimeOut ∷ [] else []) g)
  elected word true g h e = inr (
    sym (same_test g h) ∙ e,
    since_is (has_quorum (members_of g.allocator) (own_vote g.allocator.me)) (given_tick g.allocator.now word) g.allocator.times ∙ h.0,
    ap (λ (s : Store). s.term + 1) h.4,
    role_is g h (has_quorum (members_of g.allocator) (own_vote g.allocator.me)) refl g.allocator.raft_server.store g.allocator.raft_server.memory,
  )
  elected word false g h e = inl (sym (same_test g h) ∙ e, h.1, h.2, ap (λ (s : Store). s.term) h.4, h.5)

  elects : (word : ℕ) (g : StepState) → IsBegun g → Keeps P (election_phase number word g)
  elects word g h = tick_with_blank (Keeps P) number word g (elected word (its_test g) g h refl) (λ blank. elected word (its_test g) g h refl)

  -- ---- behind it

  recorded_as : (node : ℕ) (uid : Option (List ℕ)) (g : StepState) → Keeps P g → Keeps P (records_as number node uid g)
  recorded_as node None g h = h
  recorded_as node (Some uid) g h = h

  recorded_node : (node : Option ℕ) (g : StepState) → Keeps P g → Keeps P (records_node number node g)
  recorded_node None g h = h
  recorded_node (Some node) g h = recorded_as node (new_uid g.allocator node) g h

  asked_if : (fits : Bool) (node id : ℕ) (g : StepState) → Keeps P g → Keeps P (with_query_if fits node id g)
  asked_if true node id g h = h
  asked_if false node id g h = h

  asked : (node : Option ℕ) (g : StepState) → Keeps P g → Keeps P (asks number node g)
  asked None g h = h
  asked (Some node) g h = asked_if (has_room g.allocator.queue []) node (id_of g.allocator.ids InfoQ node) (with_transfer number InfoQ node [] None g) h

  notes : (x : StepState) → Keeps P x → Keeps P (record_phase number x)
  notes x i = either (Keeps P) (may_propose x.allocator) (records_node number (candidate x.allocator) x) x (λ e. recorded_node (candidate x.allocator) x i) (λ e. i)

  queries : (x : StepState) → Keeps P x → Keeps P (query_phase number x)
  queries x i = either (Keeps P) (is_leader x.allocator.raft_server.memory.role)
      (asks number (next_query x.allocator.watch (known x.allocator) x.allocator.now) x) x
      (λ e. asked (next_query x.allocator.watch (known x.allocator) x.allocator.now) x i) (λ e. i)

  ticks : (word : ℕ) (g : StepState) → IsBegun g → Keeps P (clock_phase number word g)
  ticks word g h =
      let stated : StepState = status_phase number (discovery_phase number g) in
      let elected_then : StepState = election_phase number word stated in
      queries (record_phase number elected_then) (notes elected_then (elects word stated (states (discovery_phase number g) (finds g h))))

-- what a tick leaves of the wait, the word, the term and the role
pub tick_leaves : (t : AllocatorState) (number now word : ℕ) → let after = (step t number (Tick now word)).step_state.allocator in
    Ticked t (max t.now now) after.times.since after.times.word after.raft_server.store.term after.raft_server.memory.role
unfolding step
tick_leaves t number now word =
    ends number (Ticked t (max t.now now)) (clock_phase number word (begin_phase number now t)) (ticks number t (max t.now now) word (begin_phase number now t) (
      refl,
      since_stays (members_of (at_moment now t)) t.me number (given_at (max t.now now)) (overdue t.times (max t.now now) all_nodes) t.raft_server t.times,
      word_stays (members_of (at_moment now t)) t.me number (given_at (max t.now now)) (overdue t.times (max t.now now) all_nodes) t.raft_server t.times,
      wait_stays (members_of (at_moment now t)) t.me number (given_at (max t.now now)) (max t.now now) (overdue t.times (max t.now now) all_nodes) t.raft_server
          t.times,
      before.store,
      before.role,
      refl,
      refl,
      refl,
    ))
  where
    before : IsAsBefore t.raft_server (begin_phase number now t).allocator.raft_server
    before = expired (members_of (at_moment now t)) t.me number (overdue t.times (max t.now now) all_nodes) t.raft_server
