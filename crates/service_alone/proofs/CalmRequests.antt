-- What an allocator that is alone does with a request, whatever waits in its queue.
use Rattle.std.proofs.Common.{◌≡◌, ℕ, ◌+◌, ◌<◌, ◌≤◌, Bool, true, false, List, [], ◌∷◌, ◌++◌, length, length-append, inl, inr, refl, sym, ◌∙◌, ap, subst, arith, None}
use Rattle.std.specs.Prelude.{◌&&◌, ◌||◌, if◌then◌else◌, nat_eq, nat_lt, slice_index_or}
use Rattle.std.proofs.Math.Seq.{get_or-append_seam}
use Rattle.alloc_exchange.specs.declared.heard.Heard.{Heard}
use Rattle.alloc_exchange.specs.declared.heard.Heard.TheVariants.{FollowUp, Whole}
use Rattle.alloc_exchange.specs.Exchange.{Accepted, after, answer, has_length, is_expected, is_whole, last_moment, left_over, recent_requests, with_request as with_one_more}
use Rattle.can_frame.specs.declared.entry.Entry.{Entry}
use Rattle.can_frame.specs.declared.step.What.TheVariants.{Alloc}
use Rattle.can_frame.specs.Log.{blank}
use Rattle.cluster_discovery.specs.Members.{is_on_list, owes}
use Rattle.dsdl_codec.specs.declared.allocation.Allocation.{Allocation}
use Rattle.node_discovery.specs.History.{is_online}
use Rattle.node_discovery.specs.Watch.{history}
use Rattle.raft_core.specs.Taken.{proposal}
use Rattle.raft_core.specs.Times.{given_at}
use Rattle.raft_model.specs.Duty as duty
use Rattle.raft_model.specs.Log.{term_at}
use Rattle.raft_model.specs.Moves.{Move}
use Rattle.raft_model.specs.Moves.Elections.{is_leader}
use Rattle.raft_model.specs.Moves.Move.{CommitTo, TellPair}
use Rattle.raft_model.specs.Server.{Store}
use Rattle.raft_model.specs.Server.Role.{Leader}
use Rattle.transfer_rx.specs.Reassembly.{Arrival}
use Rattle.transfer_tx.specs.Queue.{queued_frames}
use Rattle.alloc_spec.specs.AllocatorState.{AllocatorState, is_recorded, is_zero, members_of, start_of}
use Rattle.alloc_spec.specs.Delivered.{StepResult, took}
use Rattle.alloc_spec.specs.Ending.{call_phase, commit_phase, end_phase, has_to_tell, tell_phase}
use Rattle.alloc_spec.specs.Exchange.{allocation_payload, answers_request, hears_allocation, may_follow, with_request}
use Rattle.alloc_spec.specs.Step.{step, with_end_phase}
use Rattle.alloc_spec.specs.Step.Event.{Rx}
use Rattle.alloc_spec.specs.StepState.{StepState, with_moves, with_transfer}
use Rattle.alloc_spec.specs.Transfers.{has_room, id_after, outgoing}
use Rattle.alloc_spec.specs.Outbox.{counted_if}
use Rattle.alloc_spec_laws.proofs.Choices.{either, tell}
use Rattle.service_steps.specs.Requests.{IsRequest, moment_at}
use Rattle.service_steps.specs.Serving.{FollowsUp, IsReady, MayRecord}
use Rattle.service_steps.proofs.Alone.{last_entry, lt_is, one_longer, to_the_end}
use Rattle.service_steps.proofs.Begins.{IsAsBefore}
use Rattle.service_steps.proofs.FollowUps.{begun, gives, may, same_follow, step_is, when_come}
use Rattle.service_steps.proofs.Records.{records_there, when_recorded}
use Rattle.service_alone.proofs.CalmRest.{Serves, lists_itself, offline_later}
use Rattle.service_alone.proofs.Leads.{calls_nobody, quiet_end}

-- it is ready for requests
pub ready : (n : ℕ) (log : List Entry) (accepted : List Accepted) (next : ℕ) (t : AllocatorState) → Serves n log accepted next t → IsReady t
ready n log accepted next t s = record { leads = s.role; committed = s.committed ∙ ap length (sym s.log_is) }

all_told : (n : ℕ) (log : List Entry) (accepted : List Accepted) (next : ℕ) (t : AllocatorState) → Serves n log accepted next t
    → t.raft_server.memory.told ≡ t.raft_server.store.commit
all_told n log accepted next t s = s.told ∙ sym s.committed

-- no request was accepted later than now, behind one more
left_moment : (accepted : List Accepted) (message : Allocation) (now : ℕ) (may : Bool) → last_moment (left_over (with_one_more accepted message now) may) ≤ now
left_moment accepted message now may = either (λ (l : List Accepted). last_moment l ≤ now) (is_whole (with_one_more accepted message now)) [] (if may then with_one_more accepted message now else [])
    (λ e. omega arith)
    (λ e. either (λ (l : List Accepted). last_moment l ≤ now) may (with_one_more accepted message now) [] (λ f. omega arith) (λ f. omega arith))

recent_moment : (accepted : List Accepted) (now : ℕ) → last_moment accepted ≤ now → last_moment (recent_requests accepted now) ≤ now
recent_moment accepted now by = either (λ (l : List Accepted). last_moment l ≤ now) (nat_lt (last_moment accepted + 500) now) [] accepted (λ e. omega arith) (λ e. by)

pub after_moment : (accepted : List Accepted) (message : Allocation) (now : ℕ) (may : Bool) → last_moment accepted ≤ now → last_moment (after accepted message now may) ≤ now
unfolding after
after_moment accepted message now may by = let recent : List Accepted = recent_requests accepted now in
    either (λ (l : List Accepted). last_moment l ≤ now) (has_length message && is_expected recent message) (left_over (with_one_more recent message now) may) recent
    (λ e. left_moment recent message now may) (λ e. recent_moment accepted now by)

-- what the answer to a request leaves: the frames of an Allocation behind those that wait
pub record HasAnswered (n : ℕ) (t : AllocatorState) (moment next number node : ℕ) (bytes : List ℕ) (u : AllocatorState) : Type 0 where
  pub now : u.now ≡ moment
  pub queue : u.queue ≡ t.queue ++ queued_frames (outgoing n Alloc 0 next (allocation_payload node bytes)) number 0
  pub status : u.status_at ≡ t.status_at
  pub requests : last_moment t.accepted ≤ moment → last_moment u.accepted ≤ moment

-- ---- a follow-up

module _ (n : ℕ) (log : List Entry) (accepted : List Accepted) (next : ℕ) (t : AllocatorState) (s : Serves n log accepted next t)
    (number : ℕ) (arrival : Arrival) (message : Allocation) (bytes : List ℕ) (later : t.now ≤ arrival.moment) (request : IsRequest arrival message)
    (follows : answer accepted message arrival.moment true ≡ FollowUp (record { items = bytes }))
    (room : has_room t.queue (allocation_payload 0 bytes) ≡ true) where
  now_is : moment_at t arrival ≡ arrival.moment
  now_is = omega (arith, later)

  asks : answer t.accepted message (moment_at t arrival) true ≡ FollowUp (record { items = bytes })
  asks = (λ i. answer (s.accepts i) message (now_is i) true) ∙ follows

  gives_it : FollowsUp t arrival message bytes (step t number (Rx arrival))
  gives_it = gives t number arrival message bytes (ready n log accepted next t s) request asks room

  abbrev g : StepState
  g = when_come t number arrival

  before : IsAsBefore t.raft_server g.allocator.raft_server
  before = begun t number arrival

  abbrev answered : StepState
  answered = with_transfer number Alloc 0 (allocation_payload 0 bytes) None (with_request message g)

  hears : hears_allocation number message g ≡ answered
  hears = ap (λ (h : Heard). answers_request number h (with_request message g))
      (ap (λ (b : Bool). answer t.accepted message (moment_at t arrival) b)
      (same_follow t g.allocator.raft_server before.store before.role ∙ may t (ready n log accepted next t s)) ∙ asks)

  ends : end_phase number answered ≡ with_moves number (given_at answered.allocator.now) [] answered
  ends = quiet_end number answered
      (rw (before.store) (s.committed ∙ ap length (sym s.log_is)))
      (before.told ∙ (all_told n log accepted next t s ∙ ap (λ (x : Store). x.commit) (sym before.store)))
      (lists_itself t s.size)

  exactly : step t number (Rx arrival) ≡ took (with_moves number (given_at answered.allocator.now) [] answered)
  exactly = step_is t number arrival message request
      ∙ (ap (λ (k : StepState). with_end_phase number (took k)) hears ∙ ap (λ (k : StepState). took k) ends)

  abbrev then_t : AllocatorState
  then_t = (step t number (Rx arrival)).step_state.allocator

  -- its frames are behind those that waited
  pub follow_up_waits : HasAnswered n t arrival.moment next number 0 bytes then_t
  follow_up_waits = record {
    now = gives_it.now ∙ now_is;
    queue = ap (λ (r : StepResult). r.step_state.allocator.queue) exactly
        ∙ (ap (λ (b : Bool). if b then t.queue ++ queued_frames (outgoing t.me Alloc 0 t.ids.alloc (allocation_payload 0 bytes)) number 0 else t.queue) room
        ∙ (λ i. t.queue ++ queued_frames (outgoing (s.me i) Alloc 0 (s.id i) (allocation_payload 0 bytes)) number 0));
    status = ap (λ (r : StepResult). r.step_state.allocator.status_at) exactly;
    requests = λ by. subst (λ (l : List Accepted). last_moment l ≤ arrival.moment) (sym gives_it.accepted)
        (subst (λ (m : ℕ). last_moment (after t.accepted message m true) ≤ arrival.moment) (sym now_is) (after_moment t.accepted message arrival.moment true by));
  }

  -- and it is at rest again, but for them
  pub serves_on : Serves n log (after accepted message arrival.moment true) (id_after next) then_t
  serves_on = record {
    me = gives_it.ready.me ∙ s.me;
    size = gives_it.ready.size ∙ s.size;
    offline = λ other e. (λ i. is_online (history other (gives_it.ready.watch i)) (gives_it.now i))
        ∙ offline_later n log t.watch t.now (moment_at t arrival) (omega arith) s.offline other e;
    discovery = ap (λ (r : StepResult). owes (start_of r.step_state.allocator) r.step_state.allocator.heard) exactly ∙ s.discovery;
    accepts = gives_it.accepted ∙ (λ i. after (s.accepts i) message (now_is i) true);
    id = ap (λ (r : StepResult). r.step_state.allocator.ids.alloc) exactly
        ∙ (ap (λ (b : Bool). (counted_if b Alloc 0 t.ids).alloc) room ∙ ap id_after s.id);
    role = gives_it.ready.role ∙ s.role;
    log_is = ap (λ (x : Store). x.log) gives_it.ready.store ∙ s.log_is;
    committed = ap (λ (x : Store). x.commit) gives_it.ready.store ∙ s.committed;
    told = gives_it.told (all_told n log accepted next t s)
        ∙ (ap (λ (x : Store). x.commit) gives_it.ready.store ∙ s.committed);
  }

-- ---- the pair

record IsTellable (g : StepState) (front : List Entry) (entry : Entry) : Type 0 where
  alone : members_of g.allocator ≡ g.allocator.me ∷ []
  leads : g.allocator.raft_server.memory.role ≡ Leader
  log : g.allocator.raft_server.store.log ≡ front ++ entry ∷ []
  commit : g.allocator.raft_server.store.commit ≡ length front
  told : g.allocator.raft_server.memory.told ≡ length front
  own : entry.term ≡ g.allocator.raft_server.store.term
  device : is_zero entry.uid ≡ false
  room : has_room g.allocator.queue (allocation_payload entry.node entry.uid) ≡ true

-- the end of a step in which an entry is committed and told
module _ (number : ℕ) (g : StepState) (front : List Entry) (entry : Entry) (h : IsTellable g front entry) where
  abbrev committed_one : StepState
  committed_one = with_moves number (given_at g.allocator.now) (CommitTo (length g.allocator.raft_server.store.log) ∷ []) g

  abbrev told_one : StepState
  told_one = with_moves number (given_at g.allocator.now) (TellPair ∷ []) (with_transfer number Alloc 0 (allocation_payload entry.node entry.uid) None committed_one)

  commits : commit_phase number g ≡ committed_one
  commits = ap (λ (moves : List Move). with_moves number (given_at g.allocator.now) moves g)
      (rw (ap is_leader h.leads) (rw (h.alone) (ap duty.commit_moves (to_the_end g.allocator.me g.allocator.raft_server below own))))
    where
      below : g.allocator.raft_server.store.commit < length g.allocator.raft_server.store.log
      below = omega (arith, h.commit, ap length h.log, one_longer front entry)

      own : term_at g.allocator.raft_server.store.log (length g.allocator.raft_server.store.log) ≡ g.allocator.raft_server.store.term
      own = ap (λ (l : List Entry). term_at l (length l)) h.log ∙ (ap (λ (e : Entry). e.term) (last_entry front entry) ∙ h.own)

  tells : tell_phase number committed_one ≡ told_one
  tells = rw (one) (rw (next_one) (rw (h.device) (rw (h.room) refl)))
    where
      one : has_to_tell committed_one.allocator.raft_server ≡ true
      one = rw (h.leads) (lt_is g.allocator.raft_server.memory.told (length g.allocator.raft_server.store.log)
          (omega (arith, h.told, ap length h.log, one_longer front entry)))

      next_one : slice_index_or g.allocator.raft_server.store.log g.allocator.raft_server.memory.told (blank 0) ≡ entry
      next_one = rw (h.log) (rw (h.told) (get_or-append_seam front entry [] (blank 0)))

  finishes : end_phase number g ≡ told_one
  finishes = ap (λ (k : StepState). call_phase number (tell_phase number k)) commits
      ∙ (ap (λ (k : StepState). call_phase number k) tells ∙ calls_nobody number told_one h.alone)

module _ (n : ℕ) (log : List Entry) (accepted : List Accepted) (next : ℕ) (t : AllocatorState) (s : Serves n log accepted next t)
    (number : ℕ) (arrival : Arrival) (message : Allocation) (uid : List ℕ) (preferred node : ℕ) (later : t.now ≤ arrival.moment)
    (request : IsRequest arrival message) (whole : answer accepted message arrival.moment true ≡ Whole uid preferred)
    (record_it : MayRecord t arrival.moment preferred uid node) (room : has_room t.queue (allocation_payload node uid) ≡ true) where
  at_is : moment_at t arrival ≡ arrival.moment
  at_is = omega (arith, later)

  abbrev h : StepState
  h = when_recorded t number arrival message uid node

  begins : IsAsBefore t.raft_server (when_come t number arrival).allocator.raft_server
  begins = begun t number arrival

  -- the entry that it adds
  abbrev pub entry_of_it : Entry
  entry_of_it = proposal t.raft_server.store.term uid node

  tellable : IsTellable h t.raft_server.store.log entry_of_it
  tellable = record {
    alone = lists_itself t s.size;
    leads = begins.role ∙ s.role;
    log = ap (λ (x : Store). x.log ++ proposal x.term uid node ∷ []) begins.store;
    commit = ap (λ (x : Store). x.commit) begins.store ∙ (s.committed ∙ ap length (sym s.log_is));
    told = begins.told ∙ (s.told ∙ ap length (sym s.log_is));
    own = ap (λ (x : Store). x.term) (sym begins.store);
    device = record_it.device;
    room = room;
  }

  asks_whole : answer t.accepted message (moment_at t arrival) (may_follow t) ≡ Whole uid preferred
  asks_whole = (λ i. answer (s.accepts i) message (at_is i) (may t (ready n log accepted next t s) i)) ∙ whole

  recorded : MayRecord t (moment_at t arrival) preferred uid node
  recorded = subst (λ (m : ℕ). MayRecord t m preferred uid node) (sym at_is) record_it

  exactly_so : step t number (Rx arrival) ≡ took (told_one number h t.raft_server.store.log entry_of_it tellable)
  exactly_so = records_there t number arrival message uid preferred node request asks_whole recorded
      ∙ ap (λ (k : StepState). took k) (finishes number h t.raft_server.store.log entry_of_it tellable)

  abbrev then_u : AllocatorState
  then_u = (step t number (Rx arrival)).step_state.allocator

  -- its frames are behind those that waited
  pub pair_waits : HasAnswered n t arrival.moment next number node uid then_u
  pair_waits = record {
    now = ap (λ (r : StepResult). r.step_state.allocator.now) exactly_so ∙ at_is;
    queue = ap (λ (r : StepResult). r.step_state.allocator.queue) exactly_so
        ∙ (ap (λ (b : Bool). if b then t.queue ++ queued_frames (outgoing t.me Alloc 0 t.ids.alloc (allocation_payload node uid)) number 0 else t.queue) room
        ∙ (λ i. t.queue ++ queued_frames (outgoing (s.me i) Alloc 0 (s.id i) (allocation_payload node uid)) number 0));
    status = ap (λ (r : StepResult). r.step_state.allocator.status_at) exactly_so;
    requests = λ by. subst (λ (r : StepResult). last_moment r.step_state.allocator.accepted ≤ arrival.moment) (sym exactly_so)
        (subst (λ (m : ℕ). last_moment (after t.accepted message m (may_follow (when_come t number arrival).allocator)) ≤ arrival.moment) (sym at_is)
        (after_moment t.accepted message arrival.moment (may_follow (when_come t number arrival).allocator) by));
  }

  -- and it is at rest again, but for them
  pub serves_then : Serves n (log ++ entry_of_it ∷ []) then_u.accepted (id_after next) then_u
  serves_then = record {
    me = ap (λ (r : StepResult). r.step_state.allocator.me) exactly_so ∙ s.me;
    size = ap (λ (r : StepResult). r.step_state.allocator.size) exactly_so ∙ s.size;
    offline = λ other e. (λ i. is_online (history other (exactly_so i).step_state.allocator.watch) (exactly_so i).step_state.allocator.now)
        ∙ offline_later n log t.watch t.now (moment_at t arrival) (omega arith) s.offline other (shorter log other e);
    discovery = ap (λ (r : StepResult). owes (start_of r.step_state.allocator) r.step_state.allocator.heard) exactly_so ∙ s.discovery;
    accepts = refl;
    id = ap (λ (r : StepResult). r.step_state.allocator.ids.alloc) exactly_so
        ∙ (ap (λ (b : Bool). (counted_if b Alloc 0 t.ids).alloc) room ∙ ap id_after s.id);
    role = ap (λ (r : StepResult). r.step_state.allocator.raft_server.memory.role) exactly_so ∙ tellable.leads;
    log_is = ap (λ (r : StepResult). r.step_state.allocator.raft_server.store.log) exactly_so ∙ (tellable.log ∙ ap (λ (l : List Entry). l ++ entry_of_it ∷ []) s.log_is);
    committed = ap (λ (r : StepResult). r.step_state.allocator.raft_server.store.commit) exactly_so
        ∙ ap length (tellable.log ∙ ap (λ (l : List Entry). l ++ entry_of_it ∷ []) s.log_is);
    told = ap (λ (r : StepResult). r.step_state.allocator.raft_server.memory.told) exactly_so
        ∙ (ap (λ (k : ℕ). k + 1) (begins.told ∙ s.told) ∙ sym (let l = length-append log (entry_of_it ∷ []) in omega (arith, l)));
  }
    where
      right : (a b c : Bool) → (a || (b || c)) ≡ false → (a || b) ≡ false
      right true b c e = e
      right false true c e = e
      right false false c e = refl

      in_shorter : (l : List Entry) (other : ℕ) → is_recorded (l ++ entry_of_it ∷ []) other ≡ (is_recorded l other || is_recorded (entry_of_it ∷ []) other)
      in_shorter [] other = refl
      in_shorter (x ∷ l) other = elim (tell (nat_eq x.node other)) [
        | inl z ↦ rw (z) refl
        | inr z ↦ rw (z) (in_shorter l other)
      ]

      shorter : (l : List Entry) (other : ℕ) → (is_on_list (n ∷ []) other || is_recorded (l ++ entry_of_it ∷ []) other) ≡ false
          → (is_on_list (n ∷ []) other || is_recorded l other) ≡ false
      shorter l other e = right (is_on_list (n ∷ []) other) (is_recorded l other) (is_recorded (entry_of_it ∷ []) other)
          (ap (λ (b : Bool). is_on_list (n ∷ []) other || b) (sym (in_shorter l other)) ∙ e)
