-- A leader records the nodes that it does not know, the least first.
use Rattle.std.proofs.Common.{◌≡◌, ◌∙◌, ℕ, zero, suc, ◌+◌, ◌<◌, ◌≤◌, Bool, true, false, cond, List, [], ◌∷◌, ◌++◌, length, find, inl, inr, refl, sym, ap, subst, max, arith, Option, Some, None}
use Rattle.std.specs.Prelude.{◌&&◌, ◌||◌, ◌-◌, not, is_some, nat_le, nat_lt}
use Rattle.std.specs.List.{range_with_len}
use Rattle.can_frame.specs.Timing.{status_interval}
use Rattle.can_frame.specs.Zeros.{zeros}
use Rattle.can_frame.specs.declared.step.What.TheVariants.{InfoQ}
use Rattle.cluster_discovery.specs.Members.{is_due, is_on_list}
use Rattle.node_discovery.specs.declared.counting.Counting.{Counting}
use Rattle.node_discovery.specs.History.{Event, IsSilent, identity, is_silent}
use Rattle.node_discovery.specs.Watch.{history, next_query}
use Rattle.raft_core.specs.Taken.{proposal}
use Rattle.raft_core.specs.Times.{given_tick, has_waited, overdue}
use Rattle.raft_model.specs.Moves.{Move}
use Rattle.raft_model.specs.Moves.Elections.{is_leader}
use Rattle.raft_model.specs.Moves.Move.{ProposeEntry}
use Rattle.raft_model.specs.Server.{Store}
use Rattle.raft_model.specs.Server.Role.{Leader}
use Rattle.alloc_spec.specs.AllocatorState.{AllocatorState, is_recorded, known, knows_all, may_propose, members_of, start_of}
use Rattle.alloc_spec.specs.Ending.{end_phase}
use Rattle.alloc_spec.specs.Step.{all_nodes, at_moment, begin_phase, step}
use Rattle.alloc_spec.specs.StepState.{StepState, with_transfer}
use Rattle.alloc_spec.specs.Tick.{asks, candidate, clock_phase, discovery_phase, election_phase, is_candidate, new_uid, query_phase, record_phase, records_as, records_node, status_phase, tells_members, tells_status, with_query_if}
use Rattle.alloc_spec.specs.Transfers.{has_room, id_of}
use Rattle.alloc_spec.proofs.Blanks.{moves_and_blank}
use Rattle.alloc_spec_laws.proofs.Choices.{and_left, either, tell}
use Rattle.alloc_spec_laws.proofs.Lists.{in_back, in_front}
use Rattle.alloc_spec_laws.proofs.Proposals.{leader_of}
use Rattle.service_steps.specs.Recording.{RecordsNodes, RecordsSilentNodes, RecordsUpTo}
use Rattle.service_steps.proofs.Begins.{IsAsBefore, expired}
use Rattle.service_steps.proofs.Ends.{IsKept, rest_keeps}
use Rattle.service_steps.proofs.LeadsOn.{no_election}

clash : (b : Bool) → b ≡ true → b ≡ false → ⊥
clash b is fails = cc

-- the first of some numbers in turn that passes is no greater than one that does
first_up : (p : ℕ → Bool) (from count node : ℕ) → from ≤ node → node < from + count → p node ≡ true
    → (n : ℕ) × (find p (range_with_len from count) ≡ Some n) × (n ≤ node) × (from ≤ n)
first_up p from zero node least most passes = absurd (omega (arith, least, most))
first_up p from (suc count) node least most passes = elim (tell (p from)) [
  | inl is ↦ (from, ap (λ (b : Bool). cond b (Some from) (find p (range_with_len (from + 1) count))) is, least, omega arith)
  | inr fails ↦
      let apart = λ (e : from ≡ node). clash (p node) passes (subst (λ n. p n ≡ false) e fails) in
      let rest = first_up p (from + 1) count node (omega (arith, least, apart)) (omega (arith, most)) passes in
      (rest.0, ap (λ (b : Bool). cond b (Some from) (find p (range_with_len (from + 1) count))) fails ∙ rest.1, rest.2, let low = rest.3 in omega (arith, low))
]

-- what a leader records goes by what it knew at the moment of the tick
record IsAsAt (t : AllocatorState) (g : StepState) : Type 0 where
  role : g.allocator.raft_server.memory.role ≡ t.raft_server.memory.role
  log : g.allocator.raft_server.store.log ≡ t.raft_server.store.log
  members : members_of g.allocator ≡ members_of t
  watch : g.allocator.watch ≡ t.watch
  counting : g.allocator.counting ≡ t.counting
  now : g.allocator.now ≡ t.now

module _ (t : AllocatorState) (number : ℕ) where
  same_candidate : (node : ℕ) (g : StepState) → IsAsAt t g → is_candidate g.allocator node ≡ is_candidate t node
  same_candidate node g h = λ i.
      not (is_on_list (h.members i) node || is_recorded (h.log i) node)
      && (is_some (identity (history node (h.watch i)) (h.now i)) || is_silent (h.counting i) (history node (h.watch i)) (h.now i))

  may_still : (g : StepState) → IsAsAt t g → may_propose g.allocator ≡ may_propose t
  may_still g h = λ i. is_leader (h.role i) && nat_lt (length (h.log i)) 127

  finds : (g : StepState) → IsAsAt t g → IsAsAt t (discovery_phase number g)
  finds g h = either (IsAsAt t) (is_due (start_of g.allocator) g.allocator.heard g.allocator.now) (tells_members number g) g
      (λ e. record { role = h.role; log = h.log; members = h.members; watch = h.watch; counting = h.counting; now = h.now }) (λ e. h)

  states : (g : StepState) → IsAsAt t g → IsAsAt t (status_phase number g)
  states g h = either (IsAsAt t) (nat_le status_interval (g.allocator.now - g.allocator.status_at)) (tells_status number g) g
      (λ e. record { role = h.role; log = h.log; members = h.members; watch = h.watch; counting = h.counting; now = h.now }) (λ e. h)

  elects : (word : ℕ) (g : StepState) → t.raft_server.memory.role ≡ Leader → IsAsAt t g → IsAsAt t (election_phase number word g)
  elects word g role h =
      subst (λ (moves : List Move). IsAsAt t (moves_and_blank number (given_tick g.allocator.now word) moves g))
      (sym (no_election (knows_all g.allocator && has_waited g.allocator.times g.allocator.now) g.allocator.raft_server (h.role ∙ role)))
      (record { role = h.role; log = h.log; members = h.members; watch = h.watch; counting = h.counting; now = h.now })

  -- ---- the record, which the rest of the step leaves

  module _ (node : ℕ) where
    abbrev Records : StepState → Type 0
    Records g = RecordsUpTo node g.moves

    recorded : (n : ℕ) (uid : Option (List ℕ)) (g : StepState) → 1 ≤ n → n ≤ node → Records (records_as number n uid g)
    recorded n None g least most = record {
      entry = proposal g.allocator.raft_server.store.term zeros n;
      proposed = in_back _ g.moves (ProposeEntry (proposal g.allocator.raft_server.store.term zeros n) ∷ []) (inl refl);
      least = least;
      most = most;
    }
    recorded n (Some uid) g least most = record {
      entry = proposal g.allocator.raft_server.store.term uid n;
      proposed = in_back _ g.moves (ProposeEntry (proposal g.allocator.raft_server.store.term uid n) ∷ []) (inl refl);
      least = least;
      most = most;
    }

    notes : (g : StepState) → IsAsAt t g → may_propose t ≡ true → 1 ≤ node → node ≤ 125 → is_candidate t node ≡ true
        → Records (record_phase number g)
    notes g h may least most is =
        let first = first_up (is_candidate g.allocator) 1 125 node least (omega (arith, most)) (same_candidate node g h ∙ is) in
        either Records (may_propose g.allocator) (records_node number (candidate g.allocator) g) g
        (λ e. subst (λ (n : Option ℕ). Records (records_node number n g)) (sym first.1) (recorded first.0 (new_uid g.allocator first.0) g first.3 first.2))
        (λ e. absurd (clash (may_propose g.allocator) (may_still g h ∙ may) e))

    asked_if : (fits : Bool) (n id : ℕ) (g : StepState) → Records g → Records (with_query_if fits n id g)
    asked_if true n id g h = h
    asked_if false n id g h = h

    asked : (n : Option ℕ) (g : StepState) → Records g → Records (asks number n g)
    asked None g h = h
    asked (Some n) g h = asked_if (has_room g.allocator.queue []) n (id_of g.allocator.ids InfoQ n) (with_transfer number InfoQ n [] None g) h

    queries : (g : StepState) → Records g → Records (query_phase number g)
    queries g h = either Records (is_leader g.allocator.raft_server.memory.role)
        (asks number (next_query g.allocator.watch (known g.allocator) g.allocator.now) g) g
        (λ e. asked (next_query g.allocator.watch (known g.allocator) g.allocator.now) g h) (λ e. h)

    more : (before moves : List Move) → RecordsUpTo node before → RecordsUpTo node (before ++ moves)
    more before moves h = record { entry = h.entry; proposed = in_front (ProposeEntry h.entry) before moves h.proposed; least = h.least; most = h.most }

    kept : IsKept number Records
    kept = record {
      passes = λ g e h. more g.moves _ h;
      tells = λ given g e h. more g.moves _ h;
      votes = λ given peer g h. more g.moves _ h;
      appends = λ given peer previous with_entry g h. more g.moves _ h;
      sends = λ what to payload says g h. h;
    }

    ends : (g : StepState) → Records g → Records (end_phase number g)
    ends g h = rest_keeps number Records kept g (more g.moves _ h)

    ticks : (word : ℕ) (g : StepState) → IsAsAt t g → may_propose t ≡ true → 1 ≤ node → node ≤ 125 → is_candidate t node ≡ true
        → Records (clock_phase number word g)
    ticks word g h may least most is =
        let stated : StepState = status_phase number (discovery_phase number g) in
        let role = leader_of t.raft_server.memory.role (and_left (is_leader t.raft_server.memory.role) (nat_lt (length t.raft_server.store.log) 127) may) in
        queries (record_phase number (election_phase number word stated))
        (notes (election_phase number word stated) (elects word stated role (states (discovery_phase number g) (finds g h))) may least most is)

pub records_nodes : RecordsNodes
unfolding step
records_nodes t number now word node may least most is =
    ends (at_moment now t) number node (clock_phase number word (begin_phase number now t))
    (ticks (at_moment now t) number node word (begin_phase number now t) begun may least most is)
  where
    before : IsAsBefore t.raft_server (begin_phase number now t).allocator.raft_server
    before = expired (members_of (at_moment now t)) t.me number (overdue t.times (max t.now now) all_nodes) t.raft_server

    begun : IsAsAt (at_moment now t) (begin_phase number now t)
    begun = record { role = before.role; log = ap (λ (s : Store). s.log) before.store; members = refl; watch = refl; counting = refl; now = refl }

silent_passes : (known told silent : Bool) → known ≡ false → silent ≡ true → (not known && (told || silent)) ≡ true
silent_passes false true silent unknown is = refl
silent_passes false false silent unknown is = is
silent_passes true told silent unknown is = cc

pub records_silent_nodes : ((counting : Counting) (events : List Event) (now : ℕ) → IsSilent counting events now → is_silent counting events now ≡ true)
    → RecordsSilentNodes
records_silent_nodes computed t number now word node may least most unknown silent =
    records_nodes t number now word node may least most
    (silent_passes (is_on_list (members_of t) node || is_recorded t.raft_server.store.log node) (is_some (identity (history node t.watch) (max t.now now)))
    (is_silent t.counting (history node t.watch) (max t.now now)) unknown (computed t.counting (history node t.watch) (max t.now now) silent))
