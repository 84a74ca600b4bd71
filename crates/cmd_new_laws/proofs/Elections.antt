-- What a member puts at a tick when its wait is over, where it is one of several: it stands for election, and no more.
use Rattle.std.proofs.Common.{◌≡◌, ℕ, Bool, true, false, List, [], ◌∷◌, ◌++◌, length, ◌≤◌, refl, sym, ◌∙◌, ap, max, Option, Some, None}
use Rattle.std.specs.Prelude.{◌&&◌, ◌-◌, nat_le, nat_lt, not, if◌then◌else◌}
use Rattle.can_frame.specs.declared.step.What.TheVariants.{InfoQ}
use Rattle.can_frame.specs.Log.{log_limit}
use Rattle.can_frame.specs.Timing.{status_interval}
use Rattle.cluster_discovery.specs.Members.{is_due}
use Rattle.node_discovery.specs.Watch.{next_query}
use Rattle.raft_core.specs.Handled.{moves_of_expire, puts_with_origins}
use Rattle.raft_core.specs.StoredPuts.{PutWithOrigin, with_origin}
use Rattle.raft_core.specs.Times.{HandedIn, given_at, given_tick, has_waited, overdue}
use Rattle.raft_model.specs.Decisions.{commit_index}
use Rattle.raft_model.specs.Duty.{commit_moves}
use Rattle.raft_model.specs.Handlers.{server_after}
use Rattle.raft_model.specs.Moves.Elections.{has_quorum, is_leader, own_vote, stand_memory, stand_puts, term_limit, win_memory}
use Rattle.raft_model.specs.Moves.Move.{GiveUp, TimeOut}
use Rattle.raft_model.specs.Server.{Memory, RaftServer, Role, Store}
use Rattle.raft_model.specs.Server.Role.{Candidate, Follower, Leader}
use Rattle.alloc_spec.specs.AllocatorState.{AllocatorState, known, knows_all, may_propose, members_of, start_of}
use Rattle.alloc_spec.specs.Ending.{end_phase}
use Rattle.alloc_spec.specs.Step.{all_nodes, at_moment, begin_phase, step}
use Rattle.alloc_spec.specs.Step.Event.{Tick}
use Rattle.alloc_spec.specs.StepState.{StepState, with_moves}
use Rattle.alloc_spec.specs.Tick.{asks, candidate, clock_phase, discovery_phase, election_phase, query_phase, record_phase, records_node, status_phase, tells_members, tells_status}
use Rattle.alloc_spec.proofs.Blanks.{tick_with_blank}
use Rattle.alloc_spec.proofs.Lists.{append_none}
use Rattle.alloc_spec_laws.proofs.Choices.{and_left, either}
use Rattle.service_steps.proofs.Begins.{IsAsBefore, expired}
use Rattle.service_steps.proofs.Ends.{IsKept, rest_keeps}
use Rattle.service_candidate.proofs.WaitsKept.{wait_stays}
use Rattle.service_candidate.proofs.WaitsRows.{is_candidate_then}
use Rattle.service_candidate.proofs.WaitsTicks.{stands_at}

-- calls that are given up have no puts
no_puts : (members : List ℕ) (me number : ℕ) (given : HandedIn) (nodes : List ℕ) (server : RaftServer)
    → puts_with_origins members me number given server (moves_of_expire nodes) ≡ []
no_puts members me number given [] server = refl
no_puts members me number given (node ∷ nodes) server = no_puts members me number given nodes (server_after members me number server (GiveUp node))

no_winner : (q : Bool) → (if q then Leader else Candidate) ≡ Candidate → q ≡ false
no_winner true e = absurd (cc (e))
no_winner false e = refl

module _ (number : ℕ) (t : AllocatorState) (moment : ℕ) (stands : stands_at t moment ≡ true) (knows : knows_all t ≡ true) (many : 2 ≤ t.size) where
  -- what it puts
  abbrev own_puts : List PutWithOrigin
  own_puts = with_origin 0 (stand_puts t.me t.raft_server.store)

  -- before it stands
  abbrev IsBegun : StepState → Type 0
  IsBegun g = (g.puts ≡ []) × (g.allocator.now ≡ moment) × (has_waited g.allocator.times moment ≡ has_waited t.times moment)
      × (g.allocator.raft_server.store ≡ t.raft_server.store) × (g.allocator.raft_server.memory.role ≡ t.raft_server.memory.role)
      × (knows_all g.allocator ≡ knows_all t) × (members_of g.allocator ≡ members_of t) × (g.allocator.me ≡ t.me)

  -- and behind that
  abbrev HasStood : StepState → Type 0
  HasStood g = (g.puts ≡ own_puts) × (g.allocator.raft_server.memory.role ≡ Candidate)

  finds : (x : StepState) → IsBegun x → IsBegun (discovery_phase number x)
  finds x i = either IsBegun (is_due (start_of x.allocator) x.allocator.heard x.allocator.now) (tells_members number x) x (λ e. i) (λ e. i)

  states : (x : StepState) → IsBegun x → IsBegun (status_phase number x)
  states x i = either IsBegun (nat_le status_interval (x.allocator.now - x.allocator.status_at)) (tells_status number x) x (λ e. i) (λ e. i)

  -- ---- it stands

  lonely : has_quorum (members_of t) (own_vote t.me) ≡ false
  lonely = no_winner (has_quorum (members_of t) (own_vote t.me)) (is_candidate_then t knows many)

  abbrev its_test : StepState → Bool
  its_test g = (knows_all g.allocator && has_waited g.allocator.times g.allocator.now)
      && (not (is_leader g.allocator.raft_server.memory.role) && nat_lt g.allocator.raft_server.store.term term_limit)

  test_holds : (g : StepState) → IsBegun g → its_test g ≡ true
  test_holds g h = (λ i. (h.5 i && (ap (λ (m : ℕ). has_waited g.allocator.times m) h.1 ∙ h.2) i)
      && (not (is_leader (h.4 i)) && nat_lt (h.3 i).term term_limit)) ∙ stands

  role_then : (members : List ℕ) (me : ℕ) → has_quorum members (own_vote me) ≡ false → (s : Store) (m : Memory)
      → (if has_quorum members (own_vote me) then win_memory s (stand_memory me m) else stand_memory me m).role ≡ Candidate
  role_then members me e s m = ap (λ (q : Bool). (if q then win_memory s (stand_memory me m) else stand_memory me m).role) e

  elected : (word : ℕ) (g : StepState) → IsBegun g → (b : Bool) → b ≡ true
      → HasStood (with_moves number (given_tick g.allocator.now word) (if b then TimeOut ∷ [] else []) g)
  elected word g h true e = (
    (λ i. h.0 i ++ with_origin 0 (stand_puts (h.7 i) (h.3 i))),
    role_then (members_of g.allocator) g.allocator.me ((λ i. has_quorum (h.6 i) (own_vote (h.7 i))) ∙ lonely) g.allocator.raft_server.store g.allocator.raft_server.memory,
  )
  elected word g h false e = absurd (cc (e))

  elects : (word : ℕ) (g : StepState) → IsBegun g → HasStood (election_phase number word g)
  elects word g h =
      let stood = elected word g h (its_test g) (test_holds g h) in
      tick_with_blank HasStood number word g stood (λ blank. absurd (cc (blank.leads, stood.1)))

  -- ---- behind it

  follows : (g : StepState) → HasStood g → is_leader g.allocator.raft_server.memory.role ≡ false
  follows g h = ap is_leader h.1

  notes : (x : StepState) → HasStood x → HasStood (record_phase number x)
  notes x i = either HasStood (may_propose x.allocator) (records_node number (candidate x.allocator) x) x
      (λ e. absurd (cc (and_left (is_leader x.allocator.raft_server.memory.role) (nat_lt (length x.allocator.raft_server.store.log) log_limit) e, follows x i))) (λ e. i)

  queries : (x : StepState) → HasStood x → HasStood (query_phase number x)
  queries x i = either HasStood (is_leader x.allocator.raft_server.memory.role)
      (asks number (next_query x.allocator.watch (known x.allocator) x.allocator.now) x) x
      (λ e. absurd (cc (e, follows x i))) (λ e. i)

  ticks : (word : ℕ) (g : StepState) → IsBegun g → HasStood (clock_phase number word g)
  ticks word g h =
      let stated : StepState = status_phase number (discovery_phase number g) in
      let elected_then : StepState = election_phase number word stated in
      queries (record_phase number elected_then) (notes elected_then (elects word stated (states (discovery_phase number g) (finds g h))))

  kept : IsKept number HasStood
  kept = record {
    passes = λ g e h. (append_none g.puts ∙ h.0, h.1);
    tells = λ given g e h. (append_none g.puts ∙ h.0, h.1);
    votes = λ given peer g h. (append_none g.puts ∙ h.0, h.1);
    appends = λ given peer previous with_entry g h. (append_none g.puts ∙ h.0, h.1);
    sends = λ what to payload says g h. h;
  }

  commits : (g : StepState) (leads : Bool) (index : Option ℕ) → leads ≡ false → HasStood g
      → HasStood (with_moves number (given_at g.allocator.now) (if leads then commit_moves index else []) g)
  commits g true index e h = absurd (cc (e))
  commits g false index e h = (append_none g.puts ∙ h.0, h.1)

  ends : (g : StepState) → HasStood g → HasStood (end_phase number g)
  ends g h = rest_keeps number HasStood kept g
      (commits g (is_leader g.allocator.raft_server.memory.role) (commit_index (members_of g.allocator) g.allocator.me g.allocator.raft_server) (follows g h) h)

-- the puts of such a tick
pub puts_of_standing : (t : AllocatorState) (number now word : ℕ) → stands_at t (max t.now now) ≡ true → knows_all t ≡ true → 2 ≤ t.size
    → (step t number (Tick now word)).step_state.puts ≡ with_origin 0 (stand_puts t.me t.raft_server.store)
unfolding step
puts_of_standing t number now word stands knows many =
    (ends number t (max t.now now) stands knows many (clock_phase number word (begin_phase number now t))
    (ticks number t (max t.now now) stands knows many word (begin_phase number now t) (
      no_puts (members_of (at_moment now t)) t.me number (given_at (max t.now now)) (overdue t.times (max t.now now) all_nodes) t.raft_server,
      refl,
      wait_stays (members_of (at_moment now t)) t.me number (given_at (max t.now now)) (max t.now now) (overdue t.times (max t.now now) all_nodes) t.raft_server
          t.times,
      before.store,
      before.role,
      refl,
      refl,
      refl,
    ))).0
  where
    before : IsAsBefore t.raft_server (begin_phase number now t).allocator.raft_server
    before = expired (members_of (at_moment now t)) t.me number (overdue t.times (max t.now now) all_nodes) t.raft_server
