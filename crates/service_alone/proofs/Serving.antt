-- What a leader that is alone leaves for the next request when it answers one, where nothing else waits.
use Rattle.std.proofs.Common.{◌≡◌, ℕ, suc, ◌+◌, ◌<◌, ◌≤◌, true, false, List, [], ◌++◌, length, refl, sym, ◌∙◌, ap, subst, arith, Some}
use Rattle.std.specs.Prelude.{slice_index_or}
use Rattle.alloc_exchange.specs.declared.heard.Heard.TheVariants.{FollowUp, Whole}
use Rattle.alloc_exchange.specs.Exchange.{Accepted, after, answer}
use Rattle.can_frame.specs.declared.entry.Entry.{Entry}
use Rattle.can_frame.specs.declared.step.What.TheVariants.{Alloc}
use Rattle.can_frame.specs.Log.{blank}
use Rattle.can_frame.specs.Cutting.{frame_count}
use Rattle.cluster_discovery.specs.Members.{Event as Heard_, owes}
use Rattle.dsdl_codec.specs.declared.allocation.Allocation.{Allocation}
use Rattle.node_discovery.specs.History.{is_online}
use Rattle.node_discovery.specs.Watch.{Watched, history}
use Rattle.raft_model.specs.Server.{Store}
use Rattle.transfer_rx.specs.Reassembly.{Arrival}
use Rattle.transfer_tx.specs.Queue.{Queued, queued_frames}
use Rattle.alloc_spec.specs.AllocatorState.{AllocatorState, is_zero, recorded_at, start_of}
use Rattle.alloc_spec.specs.Exchange.{allocation_payload}
use Rattle.alloc_spec.specs.Step.{step}
use Rattle.alloc_spec.specs.Step.Event.{Rx}
use Rattle.alloc_spec.specs.Transfers.{has_room, id_after, outgoing}
use Rattle.service_steps.specs.Requests.{IsRequest}
use Rattle.service_steps.specs.Serving.{MayRecord, with_queue}
use Rattle.allocatee.proofs.Requests.{le_is}
use Rattle.service_alone.proofs.CalmGiving.{again_waits, few_frames}
use Rattle.service_alone.proofs.CalmRequests.{HasAnswered, follow_up_waits, pair_waits as pair_waits_behind, serves_on}
use Rattle.service_alone.proofs.CalmRest.{Serves, whatever_waits}
use Rattle.service_alone.proofs.Leads.{IsFreshLeader}

-- its clock has not passed this moment, and nothing waits
pub record IsServing (n : ℕ) (log : List Entry) (moment next : ℕ) (accepted : List Accepted) (t : AllocatorState) : Type 0 where
  pub serves : Serves n log accepted next t
  pub now : t.now ≤ moment
  pub queue : t.queue ≡ []

pub serves_fresh : (n : ℕ) (store : Store) (moment later : ℕ) (t : AllocatorState) → IsFreshLeader n store moment t → moment ≤ later
    → IsServing n store.log later 0 [] (with_queue [] t)
serves_fresh n store moment later t f after_it = record {
  serves = record {
    me = f.me;
    size = f.size;
    offline = λ other e. ap (λ (watch : List Watched). is_online (history other watch) t.now) f.watch;
    discovery = ap (λ (heard : List Heard_). owes (start_of t) heard) f.heard;
    accepts = f.accepted;
    id = f.next;
    role = f.role;
    log_is = f.log;
    committed = f.committed;
    told = f.told;
  };
  now = omega (arith, f.now, after_it);
  queue = refl;
}

module _ (n : ℕ) (log : List Entry) (moment next : ℕ) (accepted : List Accepted) (t : AllocatorState) (s : IsServing n log moment next accepted t)
    (number : ℕ) (arrival : Arrival) (message : Allocation) (in_time : arrival.moment ≡ moment) (request : IsRequest arrival message) where
  later : t.now ≤ arrival.moment
  later = let a = s.now in omega (arith, a, in_time)

  -- an Allocation has room
  room : (node : ℕ) (bytes : List ℕ) → length bytes ≤ 16 → has_room t.queue (allocation_payload node bytes) ≡ true
  room node bytes short = le_is (length t.queue + frame_count (suc (length bytes))) 32
      (let few : frame_count (suc (length bytes)) ≤ 3 = few_frames (suc (length bytes)) (omega (arith, short)) in let e = ap length s.queue in omega (arith, few, e))

  -- and its frames wait alone
  waits_alone : (node : ℕ) (bytes : List ℕ) → HasAnswered n t arrival.moment next number node bytes (step t number (Rx arrival)).step_state.allocator
      → (step t number (Rx arrival)).step_state.allocator.queue ≡ queued_frames (outgoing n Alloc 0 next (allocation_payload node bytes)) number 0
  waits_alone node bytes a = a.queue ∙ ap (λ (queue : List Queued). queue ++ queued_frames (outgoing n Alloc 0 next (allocation_payload node bytes)) number 0) s.queue

  -- ---- a follow-up

  module _ (bytes : List ℕ) (short : length bytes ≤ 12) (follows : answer accepted message moment true ≡ FollowUp (record { items = bytes })) where
    follows_then : answer accepted message arrival.moment true ≡ FollowUp (record { items = bytes })
    follows_then = ap (λ (m : ℕ). answer accepted message m true) in_time ∙ follows

    has_room_for_it : has_room t.queue (allocation_payload 0 bytes) ≡ true
    has_room_for_it = room 0 bytes (omega (arith, short))

    pub answers_it : (step t number (Rx arrival)).step_state.allocator.queue ≡ queued_frames (outgoing n Alloc 0 next (allocation_payload 0 bytes)) number 0
    answers_it = waits_alone 0 bytes (follow_up_waits n log accepted next t s.serves number arrival message bytes later request follows_then has_room_for_it)

    pub goes_on : IsServing n log moment (id_after next) (after accepted message moment true) (with_queue [] (step t number (Rx arrival)).step_state.allocator)
    goes_on = record {
      serves = whatever_waits n log (after accepted message moment true) (id_after next) (step t number (Rx arrival)).step_state.allocator []
          (subst (λ (m : ℕ). Serves n log (after accepted message m true) (id_after next) (step t number (Rx arrival)).step_state.allocator) in_time
          (serves_on n log accepted next t s.serves number arrival message bytes later request follows_then has_room_for_it));
      now = let e = (follow_up_waits n log accepted next t s.serves number arrival message bytes later request follows_then has_room_for_it).now in omega (arith, e, in_time);
      queue = refl;
    }

  -- ---- the pair

  module _ (uid : List ℕ) (preferred node : ℕ) (short : length uid ≤ 16) (whole : answer accepted message moment true ≡ Whole uid preferred) where
    whole_then : answer accepted message arrival.moment true ≡ Whole uid preferred
    whole_then = ap (λ (m : ℕ). answer accepted message m true) in_time ∙ whole

    -- one that it records
    pub pair_waits : MayRecord t moment preferred uid node
        → (step t number (Rx arrival)).step_state.allocator.queue ≡ queued_frames (outgoing n Alloc 0 next (allocation_payload node uid)) number 0
    pair_waits may = waits_alone node uid (pair_waits_behind n log accepted next t s.serves number arrival message uid preferred node later request whole_then
        (subst (λ (m : ℕ). MayRecord t m preferred uid node) (sym in_time) may) (room node uid short))

    -- one that stands in the log
    pub pair_waits_again : (at : ℕ) → is_zero uid ≡ false → recorded_at log uid ≡ Some at → at < length log → (slice_index_or log at (blank 0)).uid ≡ uid
        → (slice_index_or log at (blank 0)).node ≡ node
        → (step t number (Rx arrival)).step_state.allocator.queue ≡ queued_frames (outgoing n Alloc 0 next (allocation_payload node uid)) number 0
    pair_waits_again at device stands inside its_uid its_node = waits_alone node uid
        (again_waits n log accepted next t s.serves number arrival message uid preferred node at later request whole_then device stands inside its_uid its_node (room node uid short))
