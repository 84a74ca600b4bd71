-- An allocator that is alone, since it was opened: what a tick does before its election, at it, and from then on.
use Rattle.std.proofs.Common.{◌≡◌, ◌⊎◌, ℕ, ◌+◌, ◌*◌, ◌<◌, ◌≤◌, Bool, true, false, List, [], ◌∷◌, ◌++◌, length, length-append, max, inl, inr, refl, sym, ◌∙◌, ap, subst, arith, None, Some}
use Rattle.std.specs.Prelude.{◌-◌, ◌&&◌, nat_eq, nat_le, if◌then◌else◌}
use Rattle.std.proofs.lemmas.Bool.Decides.{leb_tells}
use Rattle.can_frame.specs.declared.entry.Entry.{Entry}
use Rattle.can_frame.specs.declared.step.What.TheVariants.{Alloc, Stat}
use Rattle.can_frame.specs.Cutting.{frame_count}
use Rattle.can_frame.specs.Log.{blank, last_term, log_limit}
use Rattle.cluster_discovery.specs.Members.{owes}
use Rattle.dsdl_codec.specs.NodeStatus.{node_status_bytes}
use Rattle.raft_core.specs.Handled.{blank_behind, is_moment, moves_of_expire, with_blank}
use Rattle.raft_core.specs.Times.{Times, given_at, given_tick, has_waited, overdue, wait}
use Rattle.raft_model.specs.Duty as duty
use Rattle.raft_model.specs.Handlers.{server_after, server_after_all}
use Rattle.raft_model.specs.Lists.{In}
use Rattle.raft_model.specs.Moves.{Move, next_entry}
use Rattle.raft_model.specs.Moves.Elections.{is_leader, stand_memory, term_limit, win_memory}
use Rattle.raft_model.specs.Moves.Move.{CommitTo, ProposeEntry, TellNothing, TellPair, TimeOut}
use Rattle.raft_model.specs.Server.{RaftServer, Store, memory_when_opened}
use Rattle.raft_model.specs.Server.Role.{Leader}
use Rattle.transfer_tx.specs.Queue.{Queued, queued_frames}
use Rattle.alloc_spec.specs.AllocatorState.{AllocatorState, is_zero, knows_all, members_of, start_of, status_of}
use Rattle.alloc_spec.specs.Ending.{call_phase, commit_phase, end_phase, has_to_tell, tell_phase, tells_next}
use Rattle.alloc_spec.specs.Exchange.{allocation_payload, gives_pair}
use Rattle.alloc_spec.specs.Outbox.{queued_if}
use Rattle.alloc_spec.specs.Step.{all_nodes, at_moment, begin_phase, step}
use Rattle.alloc_spec.specs.Step.Event.{Tick}
use Rattle.alloc_spec.specs.StepState.{StepState, initial_state, with_move_if, with_moves, with_transfer}
use Rattle.alloc_spec.specs.Tick.{clock_phase, discovery_phase, election_moves, election_phase, query_phase, record_phase, status_phase, tells_status}
use Rattle.alloc_spec.specs.Transfers.{has_room, ident_of, outgoing, signature_of}
use Rattle.alloc_spec_laws.proofs.Choices.{either, lt_tells, tell}
use Rattle.bus_agreement.proofs.Lists.{in_append, in_at}
use Rattle.service_steps.specs.ComingBack.{HasGrown}
use Rattle.service_steps.proofs.Alone.{last_entry, lt_is, one_longer, to_the_end}
use Rattle.service_steps.proofs.Begins.{IsAsBefore, expired}
use Rattle.service_steps.proofs.FollowUps.{commits_nothing, same_number}
use Rattle.service_steps.proofs.LeadsOn.{no_election}
use Rattle.allocatee.proofs.Requests.{le_is}
use Rattle.service_alone.proofs.CalmRest.{discovers_nobody, lists_itself, longer}
use Rattle.service_alone.proofs.Leads.{and_false, asks_nothing, calls_nobody, none_overdue, records_nothing, status_frame}

-- ---- what it is

-- it is alone, and heard of nobody
pub record HearsNobody (n : ℕ) (t : AllocatorState) : Type 0 where
  pub me : t.me ≡ n
  pub size : t.size ≡ 1
  pub discovery : owes (start_of t) t.heard ≡ false
  pub watch : t.watch ≡ []
  pub accepted : t.accepted ≡ []

-- whatever waits in its queue
pub hears_nobody_still : (n : ℕ) (t : AllocatorState) (queue : List Queued) → HearsNobody n t → HearsNobody n (record t { queue = queue })
hears_nobody_still n t queue h = record { me = h.me; size = h.size; discovery = h.discovery; watch = h.watch; accepted = h.accepted }

-- an allocator that was opened with this store, and has done nothing
abbrev pub opened_server : Store → RaftServer
opened_server store = record { store = store; memory = memory_when_opened }

-- it waits for its election since a moment, for as long as a word says; a NodeStatus for each second at most waits
pub record Waits (n since word : ℕ) (store : Store) (t : AllocatorState) : Type 0 where
  pub nobody : HearsNobody n t
  pub raft_server : t.raft_server ≡ opened_server store
  pub since_is : t.times.since ≡ since
  pub word_is : t.times.word ≡ word
  pub sending : (node : ℕ) → t.times.sending node ≡ None
  pub few : since + 1000 * length t.queue ≤ t.status_at

-- it leads with this log, all of which is committed; so many entries are left to tell
pub record Leads (n left : ℕ) (log : List Entry) (t : AllocatorState) : Type 0 where
  pub nobody : HearsNobody n t
  pub role : t.raft_server.memory.role ≡ Leader
  pub log_is : t.raft_server.store.log ≡ log
  pub committed : t.raft_server.store.commit ≡ length log
  pub told : t.raft_server.memory.told + left ≡ length log

-- each unique ID has 16 bytes
abbrev pub HasWholeUids : List Entry → Type 0
HasWholeUids log = (entry : Entry) → In entry log → length entry.uid ≡ 16

-- a blank has no other
pub grown_whole : (before now : List Entry) → HasGrown before now → HasWholeUids before → HasWholeUids now
grown_whole before now (inl e) whole = subst HasWholeUids (sym e) whole
grown_whole before now (inr (term, e)) whole = subst HasWholeUids (sym e) (λ entry i. elim (in_append entry before (blank term ∷ []) i) [
  | inl z ↦ whole entry z
  | inr (inl z) ↦ ap (λ (x : Entry). length x.uid) z
  | inr (inr z) ↦ absurd z
])

-- what a tick leaves of the clock and of the queue
pub record HasTicked (moment : ℕ) (t u : AllocatorState) : Type 0 where
  pub now : u.now ≡ moment
  pub status : (u.status_at ≡ t.status_at) ⊎ (u.status_at ≡ moment)
  pub queue : length t.queue ≤ length u.queue

-- ---- how a step ends

one_longer_at_most : (fits : Bool) (queue frames : List Queued) → length frames ≡ 1 → length (queued_if fits queue frames) ≤ length queue + 1
one_longer_at_most true queue frames one = let e = length-append queue frames in omega (arith, e, one)
one_longer_at_most false queue frames one = omega arith

three_frames : (bytes : ℕ) → bytes ≡ 17 → frame_count bytes ≡ 3
three_frames bytes e = ap frame_count e

-- A leader has told one place more, or it has told all that is committed, or finds no room. All else is as it was.
record HasTold (k u : AllocatorState) : Type 0 where
  same : u ≡ record k { raft_server = u.raft_server; times = u.times; queue = u.queue; ids = u.ids }
  store : u.raft_server.store ≡ k.raft_server.store
  role : u.raft_server.memory.role ≡ k.raft_server.memory.role
  queue : length k.queue ≤ length u.queue
  told : ((u.raft_server.memory.told ≡ k.raft_server.memory.told + 1) × (k.raft_server.memory.told < k.raft_server.store.commit))
      ⊎ ((u.raft_server.memory.told ≡ k.raft_server.memory.told)
      × ((k.raft_server.store.commit ≤ k.raft_server.memory.told) ⊎ (29 < length k.queue)))

module _ (number : ℕ) (k : StepState) (alone : members_of k.allocator ≡ k.allocator.me ∷ []) (role : k.allocator.raft_server.memory.role ≡ Leader)
    (whole : HasWholeUids k.allocator.raft_server.store.log) (inside : k.allocator.raft_server.store.commit ≤ length k.allocator.raft_server.store.log) where
  abbrev server : RaftServer
  server = k.allocator.raft_server

  abbrev Ends : StepState → Type 0
  Ends x = HasTold k.allocator (call_phase number x).allocator

  ends_by : (x : StepState) → tell_phase number k ≡ x → members_of x.allocator ≡ x.allocator.me ∷ [] → HasTold k.allocator x.allocator → Ends (tell_phase number k)
  ends_by x is nobody h = subst Ends (sym is) (subst (λ (y : StepState). HasTold k.allocator y.allocator) (sym (calls_nobody number x nobody)) h)

  abbrev payload : List ℕ
  payload = allocation_payload (next_entry server).node (next_entry server).uid

  abbrev offered : StepState
  offered = with_transfer number Alloc 0 payload None k

  abbrev frames : List Queued
  frames = queued_frames (outgoing k.allocator.me Alloc 0 k.allocator.ids.alloc payload) number 0

  has_told : has_to_tell server ≡ false → Ends (tell_phase number k)
  has_told none = ends_by k (ap (λ (b : Bool). if b then tells_next number k else k) none) alone
      (record { same = refl; store = refl; role = refl; queue = omega arith; told = inr (refl, inl behind) })
    where
      behind : server.store.commit ≤ server.memory.told
      behind = elim (lt_tells server.memory.told server.store.commit) [
        | inl z ↦ let e : has_to_tell server ≡ true = rw (role) z.0 in absurd (cc (e, none))
        | inr z ↦ z.1
      ]

  tells_on : server.memory.told < server.store.commit → Ends (tell_phase number k)
  tells_on low = elim (tell (is_zero (next_entry server).uid)) [
    | inl z ↦ ends_by (with_moves number (given_at k.allocator.now) (TellNothing ∷ []) k)
        (tells ∙ ap (λ (b : Bool). if b then with_moves number (given_at k.allocator.now) (TellNothing ∷ []) k else gives_pair number TellPair server.memory.told k) z) alone
        (record { same = refl; store = refl; role = refl; queue = omega arith; told = inl (refl, low) })
    | inr z ↦ elim (tell (has_room k.allocator.queue payload)) [
      | inl y ↦ ends_by (with_moves number (given_at k.allocator.now) (TellPair ∷ []) offered)
          (gives z ∙ ap (λ (b : Bool). with_move_if b number (given_at k.allocator.now) TellPair offered) y) alone
          (record { same = refl; store = refl; role = refl; queue = longer (has_room k.allocator.queue payload) k.allocator.queue frames; told = inl (refl, low) })
      | inr y ↦ ends_by offered
          (gives z ∙ ap (λ (b : Bool). with_move_if b number (given_at k.allocator.now) TellPair offered) y) alone
          (record {
            same = refl;
            store = refl;
            role = refl;
            queue = longer (has_room k.allocator.queue payload) k.allocator.queue frames;
            told = inr (refl, inr (full y));
          })
    ]
  ]
    where
      tells : tell_phase number k ≡ tells_next number k
      tells = let one : has_to_tell server ≡ true = rw (role) (lt_is server.memory.told server.store.commit low) in
          ap (λ (b : Bool). if b then tells_next number k else k) one

      gives : is_zero (next_entry server).uid ≡ false → tell_phase number k ≡ gives_pair number TellPair server.memory.told k
      gives z = tells ∙ ap (λ (b : Bool). if b then with_moves number (given_at k.allocator.now) (TellNothing ∷ []) k else gives_pair number TellPair server.memory.told k) z

      sixteen : length (next_entry server).uid ≡ 16
      sixteen = whole (next_entry server) (in_at server.store.log server.memory.told (blank 0) (omega (arith, low, inside)))

      full : has_room k.allocator.queue payload ≡ false → 29 < length k.allocator.queue
      full y = elim (leb_tells (length k.allocator.queue + frame_count (length payload)) 32) [
        | inl x ↦ absurd (cc (x.0, y))
        | inr x ↦ let f : frame_count (length payload) ≡ 3 = three_frames (length payload) (omega (arith, sixteen)) in omega (arith, x.1, f)
      ]

  ends_told : HasTold k.allocator (call_phase number (tell_phase number k)).allocator
  ends_told = elim (lt_tells server.memory.told server.store.commit) [
    | inl z ↦ tells_on z.1
    | inr z ↦ has_told (ap (λ (b : Bool). is_leader server.memory.role && b) z.0 ∙ and_false (is_leader server.memory.role))
  ]

-- ---- a tick

module _ (n : ℕ) (t : AllocatorState) (nobody : HearsNobody n t) (number moment word : ℕ) (later : t.now ≤ moment) where
  abbrev g : StepState
  g = begin_phase number moment t

  now_is : max t.now moment ≡ moment
  now_is = omega (arith, later)

  discovers : discovery_phase number g ≡ g
  discovers = discovers_nobody t nobody.size nobody.discovery number moment

  -- what the NodeStatus leaves, if one is due
  record HasStated (h : StepState) : Type 0 where
    same : h.allocator ≡ record g.allocator { queue = h.allocator.queue; ids = h.allocator.ids; status_at = h.allocator.status_at }
    queue : length t.queue ≤ length h.allocator.queue
    one : length h.allocator.queue ≤ length t.queue + 1
    status : ((h.allocator.status_at ≡ t.status_at) × (length h.allocator.queue ≡ length t.queue))
        ⊎ ((h.allocator.status_at ≡ moment) × (t.status_at + 1000 ≤ moment))

  abbrev h : StepState
  h = status_phase number g

  states : HasStated h
  states = elim (leb_tells 1000 (max t.now moment - t.status_at)) [
    | inl z ↦ subst HasStated (sym (ap (λ (b : Bool). if b then tells_status number g else g) z.0)) (record {
      same = refl;
      queue = longer (has_room t.queue bytes) t.queue frames;
      one = one_longer_at_most (has_room t.queue bytes) t.queue frames (ap length (status_frame t.me number t.ids.stat bytes refl).2);
      status = inr (now_is, omega (arith, z.1, later));
    })
    | inr z ↦ subst HasStated (sym (ap (λ (b : Bool). if b then tells_status number g else g) z.0)) (record {
      same = refl;
      queue = omega arith;
      one = omega arith;
      status = inl (refl, refl);
    })
  ]
    where
      bytes : List ℕ
      bytes = node_status_bytes (status_of g.allocator)

      frames : List Queued
      frames = queued_frames (record { ident = ident_of t.me Stat 0; signature = signature_of Stat; id = t.ids.stat; payload = record { items = bytes } }) number 0

  -- the allocator, when its election comes
  abbrev a : AllocatorState
  a = h.allocator

  members : members_of a ≡ n ∷ []
  members = lists_itself a (ap (λ (x : AllocatorState). x.size) states.same ∙ nobody.size)
      ∙ ap (λ (m : ℕ). m ∷ []) (ap (λ (x : AllocatorState). x.me) states.same ∙ nobody.me)

  me : a.me ≡ n
  me = ap (λ (x : AllocatorState). x.me) states.same ∙ nobody.me

  alone : members_of a ≡ a.me ∷ []
  alone = members ∙ ap (λ (m : ℕ). m ∷ []) (sym me)

  knows : knows_all a ≡ true
  knows = (λ i. nat_eq (length (members i)) ((ap (λ (x : AllocatorState). x.size) states.same ∙ nobody.size) i))

  hears_nobody : HearsNobody n a
  hears_nobody = record {
    me = me;
    size = ap (λ (x : AllocatorState). x.size) states.same ∙ nobody.size;
    discovery = ap (λ (x : AllocatorState). owes (start_of x) x.heard) states.same ∙ nobody.discovery;
    watch = ap (λ (x : AllocatorState). x.watch) states.same ∙ nobody.watch;
    accepted = ap (λ (x : AllocatorState). x.accepted) states.same ∙ nobody.accepted;
  }

  abbrev elected : StepState
  elected = election_phase number word h

  clock : clock_phase number word g ≡ elected
  clock = ap (λ (k : StepState). query_phase number (record_phase number (election_phase number word (status_phase number k)))) discovers
      ∙ (ap (λ (k : StepState). query_phase number k) (records_nothing number elected hears_nobody.watch) ∙ asks_nothing number elected hears_nobody.watch)

  steps : (step t number (Tick moment word)).step_state ≡ end_phase number elected
  unfolding step
  steps = ap (λ (k : StepState). end_phase number k) clock

  -- ---- from its election on

  -- where it leads and has committed all, it tells on
  leads_then : (left : ℕ) (log : List Entry) (k : StepState) → HasWholeUids log
      → k.allocator ≡ record a { raft_server = k.allocator.raft_server; times = k.allocator.times }
      → k.allocator.raft_server.memory.role ≡ Leader → k.allocator.raft_server.store.log ≡ log → k.allocator.raft_server.store.commit ≡ length log
      → k.allocator.raft_server.memory.told + left ≡ length log
      → (u : AllocatorState) × (u ≡ (call_phase number (tell_phase number k)).allocator) × HasTicked moment t u
      × (Leads n (left - 1) log u ⊎ (Leads n left log u × (0 < left) × (28 < length t.queue)))
  leads_then left log k whole same role log_is committed told = (u, refl, ticked, leads ends.told)
    where
      u : AllocatorState
      u = (call_phase number (tell_phase number k)).allocator

      alone_then : members_of k.allocator ≡ k.allocator.me ∷ []
      alone_then = ap members_of same ∙ (alone ∙ ap (λ (x : AllocatorState). x.me ∷ []) (sym same))

      ends : HasTold k.allocator u
      ends = ends_told number k alone_then role (subst HasWholeUids (sym log_is) whole) (let e = ap length log_is in omega (arith, committed, e))

      still : u ≡ record a { raft_server = u.raft_server; times = u.times; queue = u.queue; ids = u.ids }
      still = ends.same ∙ ap (λ (x : AllocatorState). record x { raft_server = u.raft_server; times = u.times; queue = u.queue; ids = u.ids }) same

      queue_was : k.allocator.queue ≡ a.queue
      queue_was = ap (λ (x : AllocatorState). x.queue) same

      nobody_then : HearsNobody n u
      nobody_then = record {
        me = ap (λ (x : AllocatorState). x.me) still ∙ hears_nobody.me;
        size = ap (λ (x : AllocatorState). x.size) still ∙ hears_nobody.size;
        discovery = ap (λ (x : AllocatorState). owes (start_of x) x.heard) still ∙ hears_nobody.discovery;
        watch = ap (λ (x : AllocatorState). x.watch) still ∙ hears_nobody.watch;
        accepted = ap (λ (x : AllocatorState). x.accepted) still ∙ hears_nobody.accepted;
      }

      ticked : HasTicked moment t u
      ticked = record {
        now = ap (λ (x : AllocatorState). x.now) still ∙ (ap (λ (x : AllocatorState). x.now) states.same ∙ now_is);
        status = status_of_it states.status;
        queue = let q = states.queue in let e = ends.queue in let l = ap length queue_was in omega (arith, q, e, l);
      }
        where
          status_is : u.status_at ≡ a.status_at
          status_is = ap (λ (x : AllocatorState). x.status_at) still

          status_of_it : ((a.status_at ≡ t.status_at) × (length a.queue ≡ length t.queue)) ⊎ ((a.status_at ≡ moment) × (t.status_at + 1000 ≤ moment))
              → (u.status_at ≡ t.status_at) ⊎ (u.status_at ≡ moment)
          status_of_it (inl z) = inl (status_is ∙ z.0)
          status_of_it (inr z) = inr (status_is ∙ z.0)

      leads_with : (rest : ℕ) → u.raft_server.memory.told + rest ≡ length log → Leads n rest log u
      leads_with rest e = record {
        nobody = nobody_then;
        role = ends.role ∙ role;
        log_is = ap (λ (s : Store). s.log) ends.store ∙ log_is;
        committed = ap (λ (s : Store). s.commit) ends.store ∙ committed;
        told = e;
      }

      leads : ((u.raft_server.memory.told ≡ k.allocator.raft_server.memory.told + 1) × (k.allocator.raft_server.memory.told < k.allocator.raft_server.store.commit))
          ⊎ ((u.raft_server.memory.told ≡ k.allocator.raft_server.memory.told)
          × ((k.allocator.raft_server.store.commit ≤ k.allocator.raft_server.memory.told) ⊎ (29 < length k.allocator.queue)))
          → Leads n (left - 1) log u ⊎ (Leads n left log u × (0 < left) × (28 < length t.queue))
      leads (inl z) = inl (leads_with (left - 1) (omega (arith, z.0, z.1, told, committed)))
      leads (inr (same_told, inl z)) = inl (leads_with (left - 1) (omega (arith, same_told, z, told, committed)))
      leads (inr (same_told, inr z)) = elim (lt_tells 0 left) [
        | inl y ↦ inr (leads_with left (omega (arith, same_told, told)), y.1, let o = states.one in let l = ap length queue_was in omega (arith, z, o, l))
        | inr y ↦ inl (leads_with (left - 1) (omega (arith, same_told, told, y.1)))
      ]

  -- what the tick leaves
  abbrev after_tick : AllocatorState
  after_tick = (step t number (Tick moment word)).step_state.allocator

  -- a leader tells one place more, where its queue has room
  pub tells_then : (left : ℕ) (log : List Entry) → HasWholeUids log → Leads n left log t
      → HasTicked moment t after_tick × (Leads n (left - 1) log after_tick ⊎ (Leads n left log after_tick × (0 < left) × (28 < length t.queue)))
  tells_then left log whole s = let r = leads_then left log k whole refl role_then log_then commit_then told_then in
      let is : r.0 ≡ after_tick = r.1 ∙ sym ends in
      (subst (HasTicked moment t) is r.2, subst (λ (u : AllocatorState). Leads n (left - 1) log u ⊎ (Leads n left log u × (0 < left) × (28 < length t.queue))) is r.3)
    where
      before : IsAsBefore t.raft_server a.raft_server
      before = subst (λ (x : AllocatorState). IsAsBefore t.raft_server x.raft_server) (sym states.same)
          (expired (members_of (at_moment moment t)) t.me number (overdue t.times (max t.now moment) all_nodes) t.raft_server)

      role_then : a.raft_server.memory.role ≡ Leader
      role_then = before.role ∙ s.role

      log_then : a.raft_server.store.log ≡ log
      log_then = ap (λ (x : Store). x.log) before.store ∙ s.log_is

      commit_then : a.raft_server.store.commit ≡ length log
      commit_then = ap (λ (x : Store). x.commit) before.store ∙ s.committed

      told_then : a.raft_server.memory.told + left ≡ length log
      told_then = let e = before.told in let f = s.told in omega (arith, e, f)

      leader : StepState
      leader = with_moves number (given_tick a.now word) [] h

      k : StepState
      k = with_moves number (given_at a.now) [] leader

      elects : elected ≡ leader
      elects = ap (λ (moves : List Move). with_moves number (given_tick a.now word) (with_blank (members_of a) a.me number a.times a.raft_server moves) h)
          (no_election (knows_all a && has_waited a.times a.now) a.raft_server role_then)

      ends : after_tick ≡ (call_phase number (tell_phase number k)).allocator
      ends = ap (λ (x : StepState). x.allocator) steps
          ∙ (ap (λ (x : StepState). (end_phase number x).allocator) elects
          ∙ ap (λ (x : StepState). (call_phase number (tell_phase number x)).allocator) (commits_nothing number leader (commit_then ∙ ap length (sym log_then))))

  -- ---- before its election, and at it

  module _ (since word_then : ℕ) (store : Store) (s : Waits n since word_then store t) where
    begins : g ≡ with_moves number (given_at (max t.now moment)) [] (initial_state (at_moment moment t))
    begins = ap (λ (nodes : List ℕ). with_moves number (given_at (max t.now moment)) (moves_of_expire nodes) (initial_state (at_moment moment t)))
        (none_overdue t.times (max t.now moment) all_nodes s.sending)

    raft_server : a.raft_server ≡ opened_server store
    raft_server = ap (λ (x : AllocatorState). x.raft_server) states.same ∙ (ap (λ (x : StepState). x.allocator.raft_server) begins ∙ s.raft_server)

    times : a.times ≡ t.times
    times = ap (λ (x : AllocatorState). x.times) states.same ∙ ap (λ (x : StepState). x.allocator.times) begins

    waited_is : has_waited a.times a.now ≡ nat_le (wait word_then) (moment - since)
    waited_is = (λ i. nat_le (wait ((ap (λ (x : Times). x.word) times ∙ s.word_is) i))
        ((ap (λ (x : AllocatorState). x.now) states.same ∙ now_is) i - (ap (λ (x : Times). x.since) times ∙ s.since_is) i))

    -- it waits on
    pub waits_on : moment < since + wait word_then → Waits n since word_then store after_tick × HasTicked moment t after_tick
    waits_on early = (
      subst (Waits n since word_then store) (sym ends) (record {
        nobody = hears_nobody;
        raft_server = raft_server;
        since_is = ap (λ (x : Times). x.since) times ∙ s.since_is;
        word_is = ap (λ (x : Times). x.word) times ∙ s.word_is;
        sending = λ node. ap (λ (x : Times). x.sending node) times ∙ s.sending node;
        few = few_then states.status;
      }),
      subst (HasTicked moment t) (sym ends) (record {
        now = ap (λ (x : AllocatorState). x.now) states.same ∙ now_is;
        status = status_then states.status;
        queue = states.queue;
      }),
    )
      where
        few_then : ((a.status_at ≡ t.status_at) × (length a.queue ≡ length t.queue)) ⊎ ((a.status_at ≡ moment) × (t.status_at + 1000 ≤ moment))
            → since + 1000 * length a.queue ≤ a.status_at
        few_then (inl z) = let f = s.few in omega (arith, f, z.0, z.1)
        few_then (inr z) = let f = s.few in let o = states.one in omega (arith, f, o, z.0, z.1)

        status_then : ((a.status_at ≡ t.status_at) × (length a.queue ≡ length t.queue)) ⊎ ((a.status_at ≡ moment) × (t.status_at + 1000 ≤ moment))
            → (a.status_at ≡ t.status_at) ⊎ (a.status_at ≡ moment)
        status_then (inl z) = inl z.0
        status_then (inr z) = inr z.0

        waited : has_waited a.times a.now ≡ false
        waited = elim (leb_tells (wait word_then) (moment - since)) [
          | inl z ↦ absurd (omega (arith, z.1, early))
          | inr z ↦ waited_is ∙ z.0
        ]

        nothing : election_moves number a ≡ []
        nothing = ap (λ (b : Bool). with_blank (members_of a) a.me number a.times a.raft_server (duty.tick_phase b a.raft_server))
            (ap (λ (b : Bool). knows_all a && b) waited ∙ and_false (knows_all a))

        follower : StepState
        follower = with_moves number (given_tick a.now word) [] h

        k : StepState
        k = with_moves number (given_at a.now) [] follower

        commits : commit_phase number follower ≡ k
        commits = ap (λ (moves : List Move). with_moves number (given_at a.now) moves follower)
            (ap (λ (x : RaftServer). duty.commit_phase (members_of a) a.me x) raft_server)

        ends : after_tick ≡ a
        ends = ap (λ (x : StepState). x.allocator) steps
            ∙ (ap (λ (moves : List Move). (end_phase number (with_moves number (given_tick a.now word) moves h)).allocator) nothing
            ∙ (ap (λ (x : StepState). (call_phase number (tell_phase number x)).allocator) commits
            ∙ (ap (λ (b : Bool). (call_phase number (if b then tells_next number k else k)).allocator) (ap has_to_tell raft_server)
            ∙ ap (λ (x : StepState). x.allocator) (calls_nobody number k alone))))

    -- ---- it stands and wins

    abbrev leader : RaftServer
    leader = record {
      store = record { term = store.term + 1; vote = Some n; log = store.log; commit = store.commit };
      memory = win_memory store (stand_memory n memory_when_opened);
    }

    wins : server_after (n ∷ []) n number (opened_server store) TimeOut ≡ leader
    wins = rw (same_number n) refl

    abbrev HasWon : Type 0
    HasWon = (log : List Entry) × HasGrown store.log log × HasTicked moment t after_tick × Leads n (length store.log - store.commit) log after_tick

    module _ (low : store.term < term_limit) (inside : store.commit ≤ length store.log) (rising : last_term store.log ≤ store.term)
        (room : store.commit < length store.log → length store.log < log_limit) (whole : HasWholeUids store.log)
        (late : since + wait word_then ≤ moment) (short : length t.queue ≤ 28) where
      waited : has_waited a.times a.now ≡ true
      waited = waited_is ∙ le_is (wait word_then) (moment - since) (omega (arith, late))

      stands : duty.tick_phase (knows_all a && has_waited a.times a.now) a.raft_server ≡ TimeOut ∷ []
      stands = rw (knows) (rw (waited) (rw (raft_server) (rw (lt_is store.term term_limit low) refl)))

      has_heard : duty.is_heard (n ∷ []) n leader ≡ true
      has_heard = rw (lt_is (last_term store.log) (store.term + 1) (omega (arith, rising))) (rw (same_number n) refl)

      its_moment : is_moment (n ∷ []) n a.times (opened_server store) leader ≡ true
      its_moment = either (λ (b : Bool). b ≡ true) a.times.waits (duty.is_heard (n ∷ []) n leader) true (λ e. has_heard) (λ e. refl)

      moves_are : election_moves number a ≡ TimeOut ∷ duty.blank_moves leader
      moves_are = ap (λ (moves : List Move). with_blank (members_of a) a.me number a.times a.raft_server moves) stands
          ∙ ((λ i. with_blank (members i) (me i) number a.times (raft_server i) (TimeOut ∷ []))
          ∙ (ap (λ (x : RaftServer). TimeOut ∷ blank_behind (is_moment (n ∷ []) n a.times (opened_server store) x) x) wins
          ∙ ap (λ (b : Bool). TimeOut ∷ blank_behind b leader) its_moment))

      abbrev won : List Move → StepState
      won moves = with_moves number (given_tick a.now word) (TimeOut ∷ moves) h

      server_is : (moves : List Move) → (won moves).allocator.raft_server ≡ server_after_all (n ∷ []) n number leader moves
      server_is moves = (λ i. server_after_all (members i) (me i) number (raft_server i) (TimeOut ∷ moves))
          ∙ ap (λ (x : RaftServer). server_after_all (n ∷ []) n number x moves) wins

      -- it has won, with this log
      has_won : (moves : List Move) → duty.blank_moves leader ≡ moves → (log : List Entry) → HasGrown store.log log → (k : StepState)
          → commit_phase number (won moves) ≡ k → k.allocator ≡ record a { raft_server = k.allocator.raft_server; times = k.allocator.times }
          → k.allocator.raft_server.memory.role ≡ Leader → k.allocator.raft_server.store.log ≡ log → k.allocator.raft_server.store.commit ≡ length log
          → k.allocator.raft_server.memory.told ≡ store.commit → (left : ℕ) → store.commit + left ≡ length log → left - 1 ≡ length store.log - store.commit
          → HasWon
      has_won moves blank_is log grown k commits same role log_is committed told left sum less =
          let r = leads_then left log k (grown_whole store.log log grown whole) same role log_is committed (omega (arith, told, sum)) in
          let is : r.0 ≡ after_tick = r.1 ∙ sym ends in (
            log,
            grown,
            subst (HasTicked moment t) is r.2,
            subst (Leads n (length store.log - store.commit) log) is (subst (λ (m : ℕ). Leads n m log r.0) less (tells r.0 r.3)),
          )
        where
          ends : after_tick ≡ (call_phase number (tell_phase number k)).allocator
          ends = ap (λ (x : StepState). x.allocator) steps
              ∙ (ap (λ (list : List Move). (end_phase number (with_moves number (given_tick a.now word) list h)).allocator) (moves_are ∙ ap (λ (list : List Move). TimeOut ∷ list) blank_is)
              ∙ ap (λ (x : StepState). (call_phase number (tell_phase number x)).allocator) commits)

          tells : (u : AllocatorState) → Leads n (left - 1) log u ⊎ (Leads n left log u × (0 < left) × (28 < length t.queue)) → Leads n (left - 1) log u
          tells u (inl z) = z
          tells u (inr z) = absurd (omega (arith, z.2, short))

      -- where all that is stored is committed
      wins_at_once : store.commit ≡ length store.log → HasWon
      wins_at_once committed = has_won [] nothing store.log (inl refl) (with_moves number (given_at a.now) [] (won []))
          (commits_nothing number (won []) (ap (λ (x : RaftServer). x.store.commit) is ∙ (committed ∙ ap (λ (x : RaftServer). length x.store.log) (sym is))))
          refl (ap (λ (x : RaftServer). x.memory.role) is) (ap (λ (x : RaftServer). x.store.log) is) (ap (λ (x : RaftServer). x.store.commit) is ∙ committed)
          (ap (λ (x : RaftServer). x.memory.told) is) 0 (omega (arith, committed)) (omega (arith, committed))
        where
          is : (won []).allocator.raft_server ≡ leader
          is = server_is []

          nothing : duty.blank_moves leader ≡ []
          nothing = elim (lt_tells store.commit (length store.log)) [
            | inl z ↦ absurd (omega (arith, z.1, committed))
            | inr z ↦ rw (z.0) refl
          ]

      -- where something is not, a blank commits it
      wins_by_blank : store.commit < length store.log → HasWon
      wins_by_blank behind = has_won (ProposeEntry more ∷ []) adds (store.log ++ more ∷ []) (inr (store.term + 1, refl)) k commits refl
          (ap (λ (x : RaftServer). x.memory.role) k_is) (ap (λ (x : RaftServer). x.store.log) k_is) (ap (λ (x : RaftServer). x.store.commit) k_is)
          (ap (λ (x : RaftServer). x.memory.told) k_is) (length store.log - store.commit + 1)
          (let e = one_longer store.log more in omega (arith, e, behind)) (omega arith)
        where
          more : Entry
          more = blank (store.term + 1)

          added : RaftServer
          added = record leader { store = record leader.store { log = store.log ++ more ∷ [] } }

          adds : duty.blank_moves leader ≡ ProposeEntry more ∷ []
          adds = rw (lt_is store.commit (length store.log) behind) (rw (lt_is (length store.log) log_limit (room behind)) refl)

          is : (won (ProposeEntry more ∷ [])).allocator.raft_server ≡ added
          is = server_is (ProposeEntry more ∷ [])

          commit : Move
          commit = CommitTo (length (store.log ++ more ∷ []))

          k : StepState
          k = with_moves number (given_at a.now) (commit ∷ []) (won (ProposeEntry more ∷ []))

          commits : commit_phase number (won (ProposeEntry more ∷ [])) ≡ k
          commits = ap (λ (moves : List Move). with_moves number (given_at a.now) moves (won (ProposeEntry more ∷ [])))
              ((λ i. duty.commit_phase (members i) (me i) (is i))
              ∙ ap duty.commit_moves (to_the_end n added (let e = one_longer store.log more in omega (arith, e, behind)) (ap (λ (x : Entry). x.term) (last_entry store.log more))))

          k_is : k.allocator.raft_server ≡ record added { store = record added.store { commit = length (store.log ++ more ∷ []) } }
          k_is = (λ i. server_after (members i) (me i) number (is i) commit)

      -- at the first tick behind its wait it leads, and all is committed
      pub leads_at_once : HasWon
      leads_at_once = elim (lt_tells store.commit (length store.log)) [
        | inl z ↦ wins_by_blank z.1
        | inr z ↦ wins_at_once (omega (arith, z.1, inside))
      ]
