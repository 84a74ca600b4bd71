-- An allocator that is alone and at rest: what it goes by, and what it does at a tick.
use Rattle.std.proofs.Common.{◌≡◌, ◌⊎◌, ℕ, ◌+◌, ◌*◌, ◌<◌, ◌≤◌, Bool, true, false, List, [], ◌∷◌, ◌++◌, length, length-append, max, inl, inr, refl, sym, ◌∙◌, ap, subst, arith, Option, None, Some}
use Rattle.std.specs.Prelude.{◌-◌, ◌&&◌, ◌||◌, is_some, nat_eq, nat_le, nat_lt, not, slice_index_or, if◌then◌else◌}
use Rattle.std.proofs.lemmas.Bool.Decides.{leb_tells}
use Rattle.std.proofs.lemmas.List.{get_or_past}
use Rattle.std.proofs.lemmas.List.FromFn.{get_or-map-range_with_len}
use Rattle.alloc_exchange.specs.Exchange.{Accepted}
use Rattle.can_frame.specs.declared.entry.Entry.{Entry}
use Rattle.can_frame.specs.declared.step.What.TheVariants.{Stat}
use Rattle.cluster_discovery.specs.Members.{Event as Heard_, Heard, Sent, Start, counts, is_due, is_on_list, members, members_with_all, owes}
use Rattle.dsdl_codec.specs.NodeStatus.{node_status_bytes}
use Rattle.node_discovery.specs.History.{identity, is_nameless, is_online, is_silent, is_within, last_status}
use Rattle.node_discovery.specs.Watch.{Watched, devices, history, is_due as is_query_due, is_unknown, next_query}
use Rattle.raft_core.specs.Handled.{with_blank}
use Rattle.raft_core.specs.Times.{given_at, given_tick, has_waited, overdue}
use Rattle.raft_model.specs.Moves.{Move}
use Rattle.raft_model.specs.Moves.Elections.{is_leader}
use Rattle.raft_model.specs.Server.{Store}
use Rattle.raft_model.specs.Server.Role.{Leader}
use Rattle.transfer_tx.specs.Queue.{Queued, queued_frames}
use Rattle.alloc_spec.specs.AllocatorState.{AllocatorState, is_known, is_recorded, knows_all, known, may_propose, members_of, start_of, status_of}
use Rattle.alloc_spec.specs.Ending.{end_phase}
use Rattle.alloc_spec.specs.Step.{all_nodes, at_moment, begin_phase, step}
use Rattle.alloc_spec.specs.Step.Event.{Tick}
use Rattle.alloc_spec.specs.StepState.{StepState, with_moves}
use Rattle.alloc_spec.specs.Tick.{asks, discovery_phase, election_phase, is_candidate, query_phase, record_phase, records_node, status_phase, tells_members, tells_status}
use Rattle.alloc_spec.specs.Transfers.{Ids, has_room, ident_of, signature_of}
use Rattle.alloc_spec.specs.Outbox.{counted_if, queued_if}
use Rattle.alloc_spec_laws.proofs.Choices.{lt_tells, tell}
use Rattle.allocatee.proofs.Requests.{le_is}
use Rattle.service_steps.proofs.Begins.{IsAsBefore, expired}
use Rattle.service_steps.proofs.LeadsOn.{no_election}
use Rattle.service_alone.proofs.Leads.{and_false, none_found, quiet_end, same_either, status_frame, status_number}

-- ---- who is alone

none_joins : (b c : Bool) → (b && (nat_lt 1 1 && c)) ≡ false
none_joins b c = and_false b

all_alone : (me : ℕ) (nodes : List ℕ) → members_with_all 1 (me ∷ []) nodes ≡ me ∷ []
all_alone me [] = refl
all_alone me (node ∷ nodes) =
    ap (λ (b : Bool). members_with_all 1 (if b then (me ∷ []) ++ node ∷ [] else me ∷ []) nodes)
    (none_joins (nat_le 1 node && nat_le node 125) (not (is_on_list (me ∷ []) node)))
    ∙ all_alone me nodes

lists_alone : (me moment : ℕ) (heard : List Heard_) → members (record { me = me; size = 1; moment = moment }) heard ≡ me ∷ []
lists_alone me moment [] = refl
lists_alone me moment (Sent at ∷ heard) = lists_alone me moment heard
lists_alone me moment (Heard from message ∷ heard) =
    ap (λ (l : List ℕ). if counts start from message then members_with_all 1 l (from ∷ message.known.items) else l) (lists_alone me moment heard)
    ∙ (ap (λ (l : List ℕ). if counts start from message then l else me ∷ []) (all_alone me (from ∷ message.known.items))
    ∙ same_either (counts start from message) (me ∷ []))
  where
    start : Start
    start = record { me = me; size = 1; moment = moment }

-- no node is online that is neither the allocator nor stands in its log
abbrev pub Offline : (n : ℕ) (log : List Entry) (watch : List Watched) (now : ℕ) → Type 0
Offline n log watch now = (other : ℕ) → (is_on_list (n ∷ []) other || is_recorded log other) ≡ false → is_online (history other watch) now ≡ false

within_later : (limit now later : ℕ) (last : Option ℕ) → now ≤ later → is_within limit now last ≡ false → is_within limit later last ≡ false
within_later limit now later None after_it e = refl
within_later limit now later (Some moment) after_it e = elim (leb_tells (now - moment) limit) [
  | inl z ↦ absurd (cc (e, z.0))
  | inr z ↦ elim (leb_tells (later - moment) limit) [ inl y ↦ absurd (omega (arith, z.1, y.1, after_it)) | inr y ↦ y.0 ]
]

-- who is not online is not online later
pub offline_later : (n : ℕ) (log : List Entry) (watch : List Watched) (now later : ℕ) → now ≤ later → Offline n log watch now → Offline n log watch later
offline_later n log watch now later after_it off other e = within_later 3000 now later (last_status (history other watch)) after_it (off other e)

-- It leads alone with this log, which is committed and told; it accepted these requests, its next Allocation has this
-- transfer ID, and it owes no Discovery.
pub record Serves (n : ℕ) (log : List Entry) (accepted : List Accepted) (next : ℕ) (t : AllocatorState) : Type 0 where
  pub me : t.me ≡ n
  pub size : t.size ≡ 1
  pub offline : Offline n log t.watch t.now
  pub discovery : owes (start_of t) t.heard ≡ false
  pub accepts : t.accepted ≡ accepted
  pub id : t.ids.alloc ≡ next
  pub role : t.raft_server.memory.role ≡ Leader
  pub log_is : t.raft_server.store.log ≡ log
  pub committed : t.raft_server.store.commit ≡ length log
  pub told : t.raft_server.memory.told ≡ length log

-- whatever waits in its queue
pub whatever_waits : (n : ℕ) (log : List Entry) (accepted : List Accepted) (next : ℕ) (t : AllocatorState) (queue : List Queued) → Serves n log accepted next t
    → Serves n log accepted next (record t { queue = queue })
whatever_waits n log accepted next t queue s = record {
  me = s.me;
  size = s.size;
  offline = s.offline;
  discovery = s.discovery;
  accepts = s.accepts;
  id = s.id;
  role = s.role;
  log_is = s.log_is;
  committed = s.committed;
  told = s.told;
}

-- an allocator that is alone lists itself alone
pub lists_itself : (t : AllocatorState) → t.size ≡ 1 → members_of t ≡ t.me ∷ []
lists_itself t size = ap (λ (k : ℕ). members (record { me = t.me; size = k; moment = t.opened_at }) t.heard) size ∙ lists_alone t.me t.opened_at t.heard

-- So few frames wait: three for each of so many stages, and a NodeStatus for each second since the moment `start`.
abbrev pub FewWait : (start stages : ℕ) → AllocatorState → Type 0
FewWait start stages t = ((t.status_at < start) × (1000 * length t.queue ≤ 3000 * stages))
    ⊎ ((start ≤ t.status_at) × (t.status_at ≤ max t.now start) × (1000 * length t.queue + start ≤ 3000 * stages + 1000 + t.status_at))

-- who is alone, and owes no Discovery, tells none
pub discovers_nobody : (t : AllocatorState) → t.size ≡ 1 → owes (start_of t) t.heard ≡ false → (number moment : ℕ)
    → discovery_phase number (begin_phase number moment t) ≡ begin_phase number moment t
discovers_nobody t size nothing number moment =
    ap (λ (b : Bool). if b then tells_members number (begin_phase number moment t) else begin_phase number moment t) not_due
  where
    complete : knows_all t ≡ true
    complete = (λ i. nat_eq (length (lists_itself t size i)) (size i))

    not_due : is_due (start_of t) t.heard (max t.now moment) ≡ false
    not_due = rw (nothing) (rw (complete) refl)

-- ---- nodes that are not online are neither recorded nor asked

module _ (t : AllocatorState) (now : ℕ) (off : (node : ℕ) → is_known t node ≡ false → is_online (history node t.watch) now ≡ false) where
  not_candidate : (node : ℕ) → (not (is_known t node) && (is_some (identity (history node t.watch) now) || is_silent t.counting (history node t.watch) now)) ≡ false
  not_candidate node = elim (tell (is_known t node)) [
    | inl z ↦ rw (z) refl
    | inr z ↦ rw (z) (rw (off node z) refl)
  ]

  slice_known : (node : ℕ) → is_known t node ≡ true → slice_index_or (known t) node true ≡ true
  slice_known node e = elim (lt_tells node 128) [
    | inl z ↦ get_or-map-range_with_len (is_known t) 0 128 node node true z.1 (omega arith) ∙ e
    | inr z ↦ get_or_past (known t) node true z.1
  ]

  -- no node is unknown
  pub not_unknown : (node : ℕ) → is_unknown t.watch (known t) node now ≡ false
  not_unknown node = elim (tell (is_known t node)) [
    | inl z ↦ rw (slice_known node z) (and_false (is_nameless (history node t.watch) now))
    | inr z ↦ rw (off node z) refl
  ]

  no_query : next_query t.watch (known t) now ≡ None
  unfolding next_query
  no_query = none_found (λ node. is_query_due t.watch (known t) node now) devices (λ node. rw (not_unknown node) refl)

-- ---- a NodeStatus is one frame

-- what a step of a tick may put into the queue: nothing, or a NodeStatus
pub record Tells (n now : ℕ) (t u : AllocatorState) : Type 0 where
  pub frame : Queued
  pub queue : u.queue ≡ t.queue ++ frame ∷ []
  pub id : frame.id ≡ status_number n
  pub late : t.status_at + 1000 ≤ now
  pub at : u.status_at ≡ now

-- offered frames do not shorten a queue
pub longer : (fits : Bool) (queue frames : List Queued) → length queue ≤ length (queued_if fits queue frames)
longer true queue frames = let e = length-append queue frames in omega (arith, e)
longer false queue frames = omega arith

same_alloc : (fits : Bool) (ids : Ids) → (counted_if fits Stat 0 ids).alloc ≡ ids.alloc
same_alloc true ids = refl
same_alloc false ids = refl

-- ---- a tick

module _ (n : ℕ) (log : List Entry) (accepted : List Accepted) (next : ℕ) (t : AllocatorState) (s : Serves n log accepted next t)
    (number moment word : ℕ) (later : t.now ≤ moment) where
  -- what it is after a tick
  pub record HasTicked (u : AllocatorState) : Type 0 where
    pub serves : Serves n log accepted next u
    pub now : u.now ≡ moment
    pub queue : ((u.queue ≡ t.queue) × (u.status_at ≡ t.status_at)) ⊎ Tells n moment t u

  abbrev g : StepState
  g = begin_phase number moment t

  before : IsAsBefore t.raft_server g.allocator.raft_server
  before = expired (members_of (at_moment moment t)) t.me number (overdue t.times (max t.now moment) all_nodes) t.raft_server

  now_is : max t.now moment ≡ moment
  now_is = omega (arith, later)

  -- what the phases go by
  record Idle (h : StepState) : Type 0 where
    alone : members_of h.allocator ≡ h.allocator.me ∷ []
    role : h.allocator.raft_server.memory.role ≡ Leader
    committed : h.allocator.raft_server.store.commit ≡ length h.allocator.raft_server.store.log
    told : h.allocator.raft_server.memory.told ≡ h.allocator.raft_server.store.commit
    off : (node : ℕ) → is_known h.allocator node ≡ false → is_online (history node h.allocator.watch) h.allocator.now ≡ false

  module _ (h : StepState) (idle : Idle h) where
    elects : election_phase number word h ≡ with_moves number (given_tick h.allocator.now word) [] h
    elects = ap (λ (moves : List Move). with_moves number (given_tick h.allocator.now word)
        (with_blank (members_of h.allocator) h.allocator.me number h.allocator.times h.allocator.raft_server moves) h)
        (no_election (knows_all h.allocator && has_waited h.allocator.times h.allocator.now) h.allocator.raft_server idle.role)

    records : record_phase number h ≡ h
    records = ap (λ (c : Option ℕ). if may_propose h.allocator then records_node number c h else h)
        (none_found (is_candidate h.allocator) devices (not_candidate h.allocator h.allocator.now idle.off))
        ∙ same_either (may_propose h.allocator) h

    queries : query_phase number h ≡ h
    queries = ap (λ (o : Option ℕ). if is_leader h.allocator.raft_server.memory.role then asks number o h else h)
        (no_query h.allocator h.allocator.now idle.off)
        ∙ same_either (is_leader h.allocator.raft_server.memory.role) h

    ends : end_phase number h ≡ with_moves number (given_at h.allocator.now) [] h
    ends = quiet_end number h idle.committed idle.told idle.alone

  abbrev elected : StepState → StepState
  elected h = with_moves number (given_tick h.allocator.now word) [] h

  abbrev ended : StepState → StepState
  ended h = with_moves number (given_at h.allocator.now) [] h

  rest : (h : StepState) → Idle h → end_phase number (query_phase number (record_phase number (election_phase number word h))) ≡ ended (elected h)
  rest h idle =
      ap (λ (k : StepState). end_phase number (query_phase number (record_phase number k))) (elects h idle)
      ∙ (ap (λ (k : StepState). end_phase number (query_phase number k)) (records (elected h) then_idle)
      ∙ (ap (λ (k : StepState). end_phase number k) (queries (elected h) then_idle) ∙ ends (elected h) then_idle))
    where
      then_idle : Idle (elected h)
      then_idle = record { alone = idle.alone; role = idle.role; committed = idle.committed; told = idle.told; off = idle.off }

  known_is : (node : ℕ) → is_known g.allocator node ≡ (is_on_list (n ∷ []) node || is_recorded log node)
  known_is node = λ i. is_on_list ((lists_itself t s.size ∙ ap (λ (k : ℕ). k ∷ []) s.me) i) node || is_recorded ((ap (λ (x : Store). x.log) before.store ∙ s.log_is) i) node

  off_now : (node : ℕ) → is_known g.allocator node ≡ false → is_online (history node t.watch) (max t.now moment) ≡ false
  off_now node e = offline_later n log t.watch t.now (max t.now moment) (omega arith) s.offline node (sym (known_is node) ∙ e)

  idle : Idle g
  idle = record {
    alone = lists_itself t s.size;
    role = before.role ∙ s.role;
    committed = ap (λ (x : Store). x.commit) before.store ∙ (s.committed ∙ ap length (sym (ap (λ (x : Store). x.log) before.store ∙ s.log_is)));
    told = before.told ∙ (s.told ∙ (sym s.committed ∙ ap (λ (x : Store). x.commit) (sym before.store)));
    off = off_now;
  }

  discovers : discovery_phase number g ≡ g
  discovers = discovers_nobody t s.size s.discovery number moment

  -- the step, for each way in which the NodeStatus goes
  ticked : (h : StepState) → status_phase number g ≡ h → Idle h → (step t number (Tick moment word)).step_state ≡ ended (elected h)
  unfolding step
  ticked h status still =
      ap (λ (k : StepState). end_phase number (query_phase number (record_phase number (election_phase number word (status_phase number k))))) discovers
      ∙ (ap (λ (k : StepState). end_phase number (query_phase number (record_phase number (election_phase number word k)))) status
      ∙ rest h still)

  -- what the result serves
  serves_after : (h : StepState) → h.allocator.me ≡ t.me → h.allocator.size ≡ t.size → h.allocator.watch ≡ t.watch → h.allocator.now ≡ max t.now moment
      → owes (start_of h.allocator) h.allocator.heard ≡ owes (start_of t) t.heard → h.allocator.accepted ≡ t.accepted → h.allocator.ids.alloc ≡ t.ids.alloc
      → h.allocator.raft_server ≡ g.allocator.raft_server → Serves n log accepted next (ended (elected h)).allocator
  serves_after h me size watch now owing accepts id server = record {
    me = me ∙ s.me;
    size = size ∙ s.size;
    offline = λ other e. (λ i. is_online (history other (watch i)) (now i)) ∙ offline_later n log t.watch t.now (max t.now moment) (omega arith) s.offline other e;
    discovery = owing ∙ s.discovery;
    accepts = accepts ∙ s.accepts;
    id = id ∙ s.id;
    role = ap (λ (x : _). x.memory.role) server ∙ (before.role ∙ s.role);
    log_is = ap (λ (x : _). x.store.log) server ∙ (ap (λ (x : Store). x.log) before.store ∙ s.log_is);
    committed = ap (λ (x : _). x.store.commit) server ∙ (ap (λ (x : Store). x.commit) before.store ∙ s.committed);
    told = ap (λ (x : _). x.memory.told) server ∙ (before.told ∙ s.told);
  }

  abbrev told : StepState
  told = tells_status number g

  told_idle : Idle told
  told_idle = record { alone = idle.alone; role = idle.role; committed = idle.committed; told = idle.told; off = idle.off }

  abbrev bytes : List ℕ
  bytes = node_status_bytes (status_of g.allocator)

  told_serves : Serves n log accepted next (ended (elected told)).allocator
  told_serves = serves_after told refl refl refl refl refl refl (same_alloc (has_room t.queue bytes) t.ids) refl

  untold_serves : Serves n log accepted next (ended (elected g)).allocator
  untold_serves = serves_after g refl refl refl refl refl refl refl refl

  -- a tick leaves it so, whether its NodeStatus finds room or not
  pub record StillServes (u : AllocatorState) : Type 0 where
    pub serves : Serves n log accepted next u
    pub now : u.now ≡ moment
    pub status : (u.status_at ≡ t.status_at) ⊎ (u.status_at ≡ moment)
    pub queue : length t.queue ≤ length u.queue

  pub ticks_on : StillServes (step t number (Tick moment word)).step_state.allocator
  ticks_on = elim (leb_tells 1000 (max t.now moment - t.status_at)) [
    | inl z ↦ subst (λ (k : StepState). StillServes k.allocator) (sym (ticked told (ap (λ (b : Bool). if b then tells_status number g else g) z.0) told_idle))
        (record { serves = told_serves; now = now_is; status = inr now_is; queue = longer (has_room t.queue bytes) t.queue _ })
    | inr z ↦ subst (λ (k : StepState). StillServes k.allocator) (sym (ticked g (ap (λ (b : Bool). if b then tells_status number g else g) z.0) idle))
        (record { serves = untold_serves; now = now_is; status = inl refl; queue = omega arith })
  ]

  -- a tick leaves it at rest
  pub ticks : length t.queue + 1 ≤ 32 → HasTicked (step t number (Tick moment word)).step_state.allocator
  ticks room = elim (leb_tells 1000 (max t.now moment - t.status_at)) [
    | inl z ↦ subst (λ (k : StepState). HasTicked k.allocator) (sym (ticked told (ap (λ (b : Bool). if b then tells_status number g else g) z.0) told_idle))
        (record {
          serves = told_serves;
          now = now_is;
          queue = inr (record {
            frame = made.0;
            queue = ap (λ (b : Bool). queued_if b t.queue (queued_frames (record { ident = ident_of t.me Stat 0; signature = signature_of Stat; id = t.ids.stat; payload = record { items = bytes } }) number 0)) fits
                ∙ ap (λ (l : List Queued). t.queue ++ l) ((λ i. queued_frames (record { ident = ident_of (s.me i) Stat 0; signature = signature_of Stat; id = t.ids.stat; payload = record { items = bytes } }) number 0) ∙ made.2);
            id = made.1;
            late = omega (arith, z.1, later);
            at = now_is;
          });
        })
    | inr z ↦ subst (λ (k : StepState). HasTicked k.allocator) (sym (ticked g (ap (λ (b : Bool). if b then tells_status number g else g) z.0) idle))
        (record { serves = untold_serves; now = now_is; queue = inl (refl, refl) })
  ]
    where
      made : (frame : Queued) × (frame.id ≡ status_number n) × (queued_frames (record { ident = ident_of n Stat 0; signature = signature_of Stat; id = t.ids.stat; payload = record { items = bytes } }) number 0 ≡ frame ∷ [])
      made = status_frame n number t.ids.stat bytes refl

      fits : has_room t.queue bytes ≡ true
      fits = le_is (length t.queue + 1) 32 room

-- so few wait after a tick
pub few_after : (start stages n now : ℕ) (t u : AllocatorState) → start ≤ now → t.now ≤ now → u.now ≡ now → FewWait start stages t
    → ((u.queue ≡ t.queue) × (u.status_at ≡ t.status_at)) ⊎ Tells n now t u → FewWait start stages u
few_after start stages n now t u after_it past is few (inl (queue, at)) = elim few [
  | inl z ↦ inl (omega (arith, at, z.0), omega (arith, ap length queue, z.1))
  | inr z ↦ inr (omega (arith, at, z.0), omega (arith, at, z.1, past, is), omega (arith, ap length queue, at, z.2))
]
few_after start stages n now t u after_it past is few (inr tells) =
    let l = ap length tells.queue in let k = length-append t.queue (tells.frame ∷ []) in
    elim few [
      | inl z ↦ inr (omega (arith, tells.at, after_it), omega (arith, tells.at, is), omega (arith, tells.at, after_it, l, k, z.1))
      | inr z ↦ inr (omega (arith, tells.at, after_it), omega (arith, tells.at, is), omega (arith, tells.at, tells.late, l, k, z.2))
    ]
