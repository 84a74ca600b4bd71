-- The third request of a device is answered: with a new pair, or with the one that stands in the log.
use Rattle.std.proofs.Common.{◌≡◌, ◌≢◌, ℕ, suc, ◌+◌, ◌<◌, ◌≤◌, Bool, true, false, List, [], ◌∷◌, ◌++◌, length, take, drop, inl, inr, refl, sym, ◌∙◌, ap, subst, arith, Option, None, Some}
use Rattle.std.specs.Prelude.{if◌then◌else◌, slice_index_or}
use Rattle.std.proofs.lemmas.Bool.Decides.{leb_tells}
use Rattle.alloc_exchange.specs.declared.heard.Heard.{Heard}
use Rattle.alloc_exchange.specs.declared.heard.Heard.TheVariants.{Whole}
use Rattle.alloc_exchange.specs.Exchange.{Accepted, after, answer, last_moment}
use Rattle.can_frame.specs.declared.entry.Entry.{Entry}
use Rattle.can_frame.specs.declared.step.What.TheVariants.{Alloc}
use Rattle.can_frame.specs.Cutting.{frame_count}
use Rattle.can_frame.specs.Log.{HasPair, IsInjective, blank}
use Rattle.can_frame.specs.Zeros.{zeros}
use Rattle.cluster_discovery.specs.Members.{owes}
use Rattle.dsdl_codec.specs.declared.allocation.Allocation.{Allocation}
use Rattle.id_selector.specs.Choice.{IsChoice, chosen}
use Rattle.node_discovery.specs.History.{is_online}
use Rattle.node_discovery.specs.Watch.{history}
use Rattle.raft_core.specs.Times.{given_at}
use Rattle.raft_model.specs.Moves.Move.{AnswerAgain}
use Rattle.raft_core.specs.Taken.{proposal}
use Rattle.raft_model.specs.Server.{Store}
use Rattle.transfer_rx.specs.Reassembly.{Arrival}
use Rattle.transfer_tx.specs.Queue.{Queued, queued_frames}
use Rattle.allocatee.proofs.Requests.{le_is}
use Rattle.alloc_spec.specs.AllocatorState.{AllocatorState, is_zero, recorded_at, start_of, taken}
use Rattle.alloc_spec.specs.Delivered.{StepResult, took}
use Rattle.alloc_spec.specs.Ending.{end_phase}
use Rattle.alloc_spec.specs.Exchange.{allocation_payload, answers_or_records, answers_request, gives_pair, hears_allocation, may_follow, with_request}
use Rattle.alloc_spec.specs.Outbox.{counted_if}
use Rattle.alloc_spec.specs.Step.{at_moment, step, with_end_phase}
use Rattle.alloc_spec.specs.Step.Event.{Rx}
use Rattle.alloc_spec.specs.StepState.{StepState, with_move_if, with_moves, with_transfer}
use Rattle.alloc_spec.specs.Transfers.{has_room, id_after, outgoing}
use Rattle.service_steps.specs.Requests.{IsRequest, moment_at}
use Rattle.service_steps.proofs.Begins.{IsAsBefore}
use Rattle.service_steps.proofs.FollowUps.{begun, may, same_follow, step_is, when_come}
use Rattle.service_alone.specs.Alone.{IsLeft}
use Rattle.service_alone.specs.Calm.{HasPlaceFor}
use Rattle.service_alone.proofs.CalmChoice.{finds_one, gives_left, may_record}
use Rattle.service_alone.proofs.CalmDevice.{asked}
use Rattle.service_alone.proofs.CalmRequests.{HasAnswered, after_moment, entry_of_it, pair_waits, ready, serves_then}
use Rattle.service_alone.proofs.CalmRest.{Serves, lists_itself, offline_later}
use Rattle.service_alone.proofs.Leads.{quiet_end}
use Rattle.service_alone.proofs.Choosing.{Chooses, StandsAt, not_zeros, recorded_first, same_node, stands}
use Rattle.service_steps.proofs.Alone.{lt_is}

-- an Allocation has three frames at most
pub few_frames : (count : ℕ) → count ≤ 17 → frame_count count ≤ 3
few_frames count few = elim (leb_tells count 7) [ inl z ↦ rw (z.0) (omega arith) | inr z ↦ rw (z.0) (omega (arith, few)) ]

-- the pair is given, whose node ID is one of these
pub record HasGiven (Fits : ℕ → List Entry → Type 0) (n : ℕ) (t : AllocatorState) (moment next number : ℕ) (uid : List ℕ) (u : AllocatorState) : Type 0 where
  pub node : ℕ
  pub least : 1 ≤ node
  pub most : node ≤ 125
  pub then_log : List Entry
  pub fits : Fits node then_log
  pub then_accepted : List Accepted
  pub serves : Serves n then_log then_accepted (id_after next) u
  pub answered : HasAnswered n t moment next number node uid u

-- whoever is at rest with this log gives such a pair for the whole unique ID
pub record Gives (Fits : ℕ → List Entry → Type 0) (n : ℕ) (log : List Entry) (uid : List ℕ) (preferred : ℕ) : Type 0 where
  pub whole : length uid ≡ 16
  pub gives : (accepted : List Accepted) (next : ℕ) (t : AllocatorState) → Serves n log accepted next t → (number : ℕ) (arrival : Arrival) → t.now ≤ arrival.moment
      → IsRequest arrival (asked uid preferred false (take 6 (drop 12 uid)))
      → answer accepted (asked uid preferred false (take 6 (drop 12 uid))) arrival.moment true ≡ Whole uid preferred → length t.queue + 4 ≤ 32
      → HasGiven Fits n t arrival.moment next number uid (step t number (Rx arrival)).step_state.allocator

has_place : (queue : List Queued) (node : ℕ) (uid : List ℕ) → length uid ≡ 16 → length queue + 4 ≤ 32 → has_room queue (allocation_payload node uid) ≡ true
has_place queue node uid whole room = le_is (length queue + frame_count (suc (length uid))) 32
    (let f : frame_count (suc (length uid)) ≤ 3 = few_frames (suc (length uid)) (omega (arith, whole)) in omega (arith, f, room))

-- ---- a new pair

-- a node ID that was left, and the pair is behind the log
abbrev pub FitsNew : (n : ℕ) (log : List Entry) (uid : List ℕ) → ℕ → List Entry → Type 0
FitsNew n log uid node then_log = IsLeft n log node × ((term : ℕ) × (then_log ≡ log ++ proposal term uid node ∷ []))

pub gives_new : ((ids : List Bool) (preferred : ℕ) → IsChoice ids preferred (chosen ids preferred)) → (n : ℕ) (log : List Entry) (uid : List ℕ) (preferred : ℕ)
    → HasPlaceFor n log uid → Gives (FitsNew n log uid) n log uid preferred
gives_new law n log uid preferred place = record {
  whole = place.whole;
  gives = λ accepted next t s number arrival later request whole room.
      let message = asked uid preferred false (take 6 (drop 12 uid)) in
      let choice : Chooses (taken (at_moment arrival.moment t)) preferred = finds_one n log accepted next t s arrival.moment law preferred place.left.0 place.left.1 in
      let may = may_record n log accepted next t s arrival.moment preferred uid later place.device place.new place.room choice in
      let fits = has_place t.queue choice.node uid place.whole room in
      record {
        node = choice.node;
        least = choice.least;
        most = choice.most;
        fits = (gives_left n log accepted next t s arrival.moment preferred choice, (t.raft_server.store.term, refl));
        then_log = log ++ entry_of_it n log accepted next t s number arrival message uid preferred choice.node later request whole may fits ∷ [];
        then_accepted = (step t number (Rx arrival)).step_state.allocator.accepted;
        serves = serves_then n log accepted next t s number arrival message uid preferred choice.node later request whole may fits;
        answered = pair_waits n log accepted next t s number arrival message uid preferred choice.node later request whole may fits;
      };
}

-- ---- a pair that stands in the log

module _ (n : ℕ) (log : List Entry) (accepted : List Accepted) (next : ℕ) (t : AllocatorState) (s : Serves n log accepted next t)
    (number : ℕ) (arrival : Arrival) (message : Allocation) (uid : List ℕ) (preferred node at : ℕ) (later : t.now ≤ arrival.moment)
    (request : IsRequest arrival message) (whole : answer accepted message arrival.moment true ≡ Whole uid preferred)
    (device : is_zero uid ≡ false) (stands_at : recorded_at log uid ≡ Some at) (inside : at < length log)
    (its_uid : (slice_index_or log at (blank 0)).uid ≡ uid) (its_node : (slice_index_or log at (blank 0)).node ≡ node)
    (room : has_room t.queue (allocation_payload node uid) ≡ true) where
  abbrev come : StepState
  come = when_come t number arrival

  before : IsAsBefore t.raft_server come.allocator.raft_server
  before = begun t number arrival

  now_is : moment_at t arrival ≡ arrival.moment
  now_is = omega (arith, later)

  log_then : come.allocator.raft_server.store.log ≡ log
  log_then = ap (λ (x : Store). x.log) before.store ∙ s.log_is

  abbrev offered : StepState
  offered = with_transfer number Alloc 0 (allocation_payload node uid) None (with_request message come)

  abbrev told_again : StepState
  told_again = with_moves number (given_at come.allocator.now) (AnswerAgain at ∷ []) offered

  hears : hears_allocation number message come ≡ told_again
  hears = ap (λ (h : Heard). answers_request number h asked_)
      ((λ i. answer (s.accepts i) message (now_is i) ((same_follow t come.allocator.raft_server before.store before.role
      ∙ may t (ready n log accepted next t s)) i)) ∙ whole)
      ∙ (ap (λ (b : Bool). if b then asked_ else answers_or_records number uid preferred (recorded_at come.allocator.raft_server.store.log uid) asked_) device
      ∙ (ap (λ (o : Option ℕ). answers_or_records number uid preferred o asked_) (ap (λ (l : List Entry). recorded_at l uid) log_then ∙ stands_at)
      ∙ (ap (λ (b : Bool). if b then gives_pair number (AnswerAgain at) at asked_ else asked_) (lt_is at come.allocator.raft_server.store.commit
      (omega (arith, inside, ap (λ (x : Store). x.commit) before.store, s.committed)))
      ∙ ((λ i. gives_as (node_then i) (uid_then i))
      ∙ ap (λ (b : Bool). with_move_if b number (given_at come.allocator.now) (AnswerAgain at) offered) room))))
    where
      asked_ : StepState
      asked_ = with_request message come

      gives_as : ℕ → List ℕ → StepState
      gives_as k u = with_move_if (has_room t.queue (allocation_payload k u)) number (given_at come.allocator.now) (AnswerAgain at)
          (with_transfer number Alloc 0 (allocation_payload k u) None asked_)

      node_then : (slice_index_or come.allocator.raft_server.store.log at (blank 0)).node ≡ node
      node_then = ap (λ (l : List Entry). (slice_index_or l at (blank 0)).node) log_then ∙ its_node

      uid_then : (slice_index_or come.allocator.raft_server.store.log at (blank 0)).uid ≡ uid
      uid_then = ap (λ (l : List Entry). (slice_index_or l at (blank 0)).uid) log_then ∙ its_uid

  ends : end_phase number told_again ≡ with_moves number (given_at told_again.allocator.now) [] told_again
  ends = quiet_end number told_again
      (rw (before.store) (s.committed ∙ ap length (sym s.log_is)))
      (before.told ∙ (s.told ∙ (sym s.committed ∙ ap (λ (x : Store). x.commit) (sym before.store))))
      (lists_itself t s.size)

  exactly : step t number (Rx arrival) ≡ took (with_moves number (given_at told_again.allocator.now) [] told_again)
  exactly = step_is t number arrival message request
      ∙ (ap (λ (k : StepState). with_end_phase number (took k)) hears ∙ ap (λ (k : StepState). took k) ends)

  abbrev then_t : AllocatorState
  then_t = (step t number (Rx arrival)).step_state.allocator

  pub again_waits : HasAnswered n t arrival.moment next number node uid then_t
  again_waits = record {
    now = ap (λ (r : StepResult). r.step_state.allocator.now) exactly ∙ now_is;
    queue = ap (λ (r : StepResult). r.step_state.allocator.queue) exactly
        ∙ (ap (λ (b : Bool). if b then t.queue ++ queued_frames (outgoing t.me Alloc 0 t.ids.alloc (allocation_payload node uid)) number 0 else t.queue) room
        ∙ (λ i. t.queue ++ queued_frames (outgoing (s.me i) Alloc 0 (s.id i) (allocation_payload node uid)) number 0));
    status = ap (λ (r : StepResult). r.step_state.allocator.status_at) exactly;
    requests = λ by. subst (λ (r : StepResult). last_moment r.step_state.allocator.accepted ≤ arrival.moment) (sym exactly)
        (subst (λ (m : ℕ). last_moment (after t.accepted message m (may_follow come.allocator)) ≤ arrival.moment) (sym now_is)
        (after_moment t.accepted message arrival.moment (may_follow come.allocator) by));
  }

  serves_again : Serves n log then_t.accepted (id_after next) then_t
  serves_again = record {
    me = ap (λ (r : StepResult). r.step_state.allocator.me) exactly ∙ s.me;
    size = ap (λ (r : StepResult). r.step_state.allocator.size) exactly ∙ s.size;
    offline = λ other e. (λ i. is_online (history other (exactly i).step_state.allocator.watch) (exactly i).step_state.allocator.now)
        ∙ offline_later n log t.watch t.now (moment_at t arrival) (omega arith) s.offline other e;
    discovery = ap (λ (r : StepResult). owes (start_of r.step_state.allocator) r.step_state.allocator.heard) exactly ∙ s.discovery;
    accepts = refl;
    id = ap (λ (r : StepResult). r.step_state.allocator.ids.alloc) exactly
        ∙ (ap (λ (b : Bool). (counted_if b Alloc 0 t.ids).alloc) room ∙ ap id_after s.id);
    role = ap (λ (r : StepResult). r.step_state.allocator.raft_server.memory.role) exactly ∙ (before.role ∙ s.role);
    log_is = ap (λ (r : StepResult). r.step_state.allocator.raft_server.store.log) exactly ∙ log_then;
    committed = ap (λ (r : StepResult). r.step_state.allocator.raft_server.store.commit) exactly ∙ (ap (λ (x : Store). x.commit) before.store ∙ s.committed);
    told = ap (λ (r : StepResult). r.step_state.allocator.raft_server.memory.told) exactly ∙ (before.told ∙ s.told);
  }

-- the node ID that stands there, and the log is as it was
abbrev pub FitsKnown : (log : List Entry) (given : ℕ) → ℕ → List Entry → Type 0
FitsKnown log given node then_log = (node ≡ given) × (then_log ≡ log)

pub gives_known : (n : ℕ) (log : List Entry) (uid : List ℕ) (preferred node : ℕ) → length uid ≡ 16 → HasPair log uid node → IsInjective log
    → Gives (FitsKnown log node) n log uid preferred
gives_known n log uid preferred node whole_uid p injective = record {
  whole = whole_uid;
  gives = λ accepted next t s number arrival later request whole room.
      let message = asked uid preferred false (take 6 (drop 12 uid)) in
      let fits = has_place t.queue node uid whole_uid room in
      let same = same_node log uid there.place p.place injective device there.inside p.within there.its_uid p.its_uid ∙ p.its_node in
      record {
        node = node;
        least = subst (λ (k : ℕ). 1 ≤ k) p.its_node p.pair.least;
        most = subst (λ (k : ℕ). k ≤ 125) p.its_node p.pair.most;
        fits = (refl, refl);
        then_log = log;
        then_accepted = (step t number (Rx arrival)).step_state.allocator.accepted;
        serves = serves_again n log accepted next t s number arrival message uid preferred node there.place later request whole (not_zeros uid device)
            (recorded_first log uid there) there.inside there.its_uid same fits;
        answered = again_waits n log accepted next t s number arrival message uid preferred node there.place later request whole (not_zeros uid device)
            (recorded_first log uid there) there.inside there.its_uid same fits;
      };
}
  where
    device : uid ≢ zeros
    device = λ e. p.pair.uid (p.its_uid ∙ e)

    there : StandsAt log uid
    there = stands log uid p.place p.within p.its_uid
