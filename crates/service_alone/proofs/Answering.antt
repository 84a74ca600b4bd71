-- A request of a device reaches an allocator that leads alone, and its answer reaches the device.
use Rattle.std.proofs.Common.{◌≡◌, ℕ, suc, ◌+◌, ◌<◌, ◌≤◌, true, false, List, [], ◌∷◌, ◌++◌, length, length-take, max, take, refl, sym, ◌∙◌, ap, subst, arith, Option, None, Some}
use Rattle.std.specs.Prelude.{not}
use Rattle.alloc_exchange.specs.declared.heard.Heard.TheVariants.{FollowUp as Follows}
use Rattle.alloc_exchange.specs.Exchange.{Accepted, after, answer}
use Rattle.can_frame.specs.declared.entry.Entry.{Entry}
use Rattle.can_frame.specs.declared.step.Judged.TheVariants.{Fine}
use Rattle.can_frame.specs.declared.step.What.TheVariants.{Alloc}
use Rattle.can_frame.specs.Cutting.{frame_count}
use Rattle.can_frame.specs.Identifier.{identifier_number}
use Rattle.dsdl_codec.specs.declared.allocation.Allocation.{Allocation}
use Rattle.dsdl_codec.specs.Allocation.{IsAllocation, allocation_bytes, allocation_of}
use Rattle.bus_rows.specs.declared.row.Row.TheVariants.{Rx as RxRow}
use Rattle.transfer_rx.specs.Reassembly.{Arrival, Gives, answer as receiver_answer}
use Rattle.transfer_rx.specs.Reassembly as receiver
use Rattle.transfer_rx.specs.Sessions.{Session}
use Rattle.transfer_tx.specs.declared.outgoing.Outgoing.{Outgoing}
use Rattle.transfer_tx.specs.Queue.{Queued, queued_frames}
use Rattle.allocatee.specs.Accepted.{setting}
use Rattle.allocatee.specs.Allocatee.{Device}
use Rattle.allocatee.specs.Asking.{Asking, after_allocation}
use Rattle.alloc_spec.specs.Accepted.{setting_for}
use Rattle.alloc_spec.specs.AllocatorState.{AllocatorState}
use Rattle.alloc_spec.specs.Exchange.{allocation_payload}
use Rattle.alloc_spec.specs.Judging.{answer_judgement, arrival_judgement}
use Rattle.alloc_spec.specs.Step.{step}
use Rattle.alloc_spec.specs.Step.Event.{Rx}
use Rattle.alloc_spec.specs.Transfers.{id_after, outgoing}
use Rattle.service_steps.specs.Devices.{comes_at}
use Rattle.service_steps.specs.Serving.{with_queue}
use Rattle.service_steps.proofs.FollowUps.{same_number}
use Rattle.service_steps.proofs.Requests.{delivered}
use Rattle.bus_spec.specs.declared.unlawful.Unlawful.TheVariants.{NoNode, Stopped}
use Rattle.bus_spec.specs.Allocatees.{is_place}
use Rattle.bus_spec.specs.Cluster.{Cluster, arrival_at, frame_at, receipt_of}
use Rattle.bus_spec.specs.Lawful.{arrival_refusal, because, cause_of_judgement, or_else}
use Rattle.bus_spec.specs.Members.{is_running, member_after_step}
use Rattle.service_alone.proofs.Asking.{Asked, asking_with, device_with, follow_up_behind}
use Rattle.service_alone.proofs.Goes.{CanGo, and_then, at_most, one_row, so}
use Rattle.service_alone.proofs.Hearing.{HearingLaws, its_key}
use Rattle.service_alone.proofs.Members.{IsUp, steps_up}
use Rattle.service_alone.proofs.Receiving.{Awaits}
use Rattle.service_alone.proofs.Scenes.{At, it_is, own_is}
use Rattle.service_alone.proofs.Sending.{drains, frames_of_one}
use Rattle.service_alone.proofs.Serving.{IsServing, answers_it, goes_on}
use Rattle.service_alone.proofs.Taking.{HasTaken, frame_is, part_taken, takes, there_is, whole_taken}

-- ---- a request may be given to it

pub is_fine : (t : AllocatorState) (frame : Queued) (message : Allocation) (moment : ℕ) → t.now ≤ moment → Asked message moment frame
    → arrival_judgement t (comes_at frame moment) ≡ Fine
unfolding arrival_judgement
is_fine t frame message moment now asked =
    ap (λ (m : ℕ). answer_judgement t frame.mark.step m (receiver_answer (setting_for t.me) t.sessions (comes_at frame m))) (let e : max t.now moment ≡ moment = omega (arith, now) in e)
    ∙ (ap (λ (x : receiver.Answer). answer_judgement t frame.mark.step moment x) (delivered t.me t.sessions (comes_at frame moment) message asked.request)
    ∙ rw (same_number frame.mark.step) (rw (asked.place) (rw (asked.request.kind) refl)))

module _ (n a : ℕ) where
  pub receives : (t : AllocatorState) (x : Option Device) (frames front : List Queued) (frame : Queued) (message : Allocation) (moment : ℕ) (w : Cluster)
      → t.now ≤ moment → Asked message moment frame → frames ≡ front ++ frame ∷ [] → At n a t x frames w
      → CanGo w moment moment 1 (At n a (step t (w.rows + 1) (Rx (comes_at frame moment))).step_state.allocator x frames)
  receives t x frames front frame message moment w now asked cut is =
      one_row (At n a (step t (w.rows + 1) (Rx (comes_at frame moment))).step_state.allocator x frames) w (RxRow n (length front + 1) moment) moment (omega arith)
      (λ i. or_else (because NoNode (not (it_is n a w is.ids i))) (or_else (because Stopped (not (is_running (is.up.status i))))
      (or_else (there_is w front [] frame (is.sent ∙ cut) i) (refuses_not i))))
      (record {
        ids = is.ids;
        up = subst (IsUp (step t (w.rows + 1) (Rx (comes_at frame moment))).step_state.allocator)
            (sym (own_is w n (member_after_step (w.rows + 1) (receipt_of w (length front + 1) moment) (w.member n).status (w.member n))
            ∙ ap (λ (f : Queued). member_after_step (w.rows + 1) (Rx (arrival_at f moment)) (w.member n).status (w.member n)) at_it))
            (steps_up (w.rows + 1) (Rx (comes_at frame moment)) t (w.member n) is.up);
        there = is.there;
        sent = is.sent;
      })
    where
      at_it : frame_at w.frames (length front + 1) ≡ frame
      at_it = ap (λ (l : List Queued). frame_at l (length front + 1)) (is.sent ∙ cut) ∙ frame_is front [] frame

      refuses_not : arrival_refusal (w.member n).status (arrival_at (frame_at w.frames (length front + 1)) moment) ≡ None
      refuses_not = (λ i. arrival_refusal (is.up.status i) (arrival_at (at_it i) moment)) ∙ ap cause_of_judgement (is_fine t frame message moment now asked)

-- ---- an answer, from the request on the bus to the device that took it

-- what the laws below say
pub record AnsweringLaws : Type 0 where
  pub hearing : HearingLaws
  pub read : (value : Allocation) → IsAllocation value → allocation_of (allocation_bytes value) ≡ Some value
  pub count : (what : Outgoing) (number re : ℕ) → length (queued_frames what number re) ≡ frame_count (length what.payload.items)

module _ (laws : AnsweringLaws) (n a : ℕ) (low : 1 ≤ n) (high : n ≤ 125) (place : is_place a ≡ true) (uid : List ℕ) (preferred moment : ℕ) where
  abbrev device_of : ℕ → List Session → Device
  device_of next_one sessions = device_with uid preferred moment next_one None [] sessions

  -- the answer goes out, and the device takes it
  goes_out : (t : AllocatorState) (frames : List Queued) (sessions : List Session) (w : Cluster) (next_one id number node most : ℕ) (bytes : List ℕ)
      → (small : id < 32) → (short : length bytes ≤ 16) → (allowed : node < 128) → frame_count (suc (length bytes)) ≤ most
      → Awaits setting (its_key laws.hearing n low high) moment id sessions
      → At n a (with_queue (queued_frames (outgoing n Alloc 0 id (allocation_payload node bytes)) number 0) t) (Some (device_of next_one sessions)) frames w
      → CanGo w moment moment (most + most) (HasTaken laws.hearing n a low high place uid preferred moment number id small bytes node short allowed
      (with_queue [] t) (frames ++ queued_frames (outgoing n Alloc 0 id (allocation_payload node bytes)) number 0) next_one)
  goes_out t frames sessions w next_one id number node most bytes small short allowed few awaits at =
      at_most Taken w moment moment (length answer_frames + length answer_frames) (most + most) (omega (arith, counted, few))
      (and_then (At n a (with_queue [] t) (Some (device_of next_one sessions)) (frames ++ answer_frames)) Taken w moment moment moment (length answer_frames) (length answer_frames)
      (drains n a moment t (Some (device_of next_one sessions)) (identifier_number what.ident) answer_frames frames w (frames_of_one what number 0) at)
      (λ v h. takes laws.hearing n a low high place uid preferred moment number id small bytes node short allowed
      (laws.read (record { node = node; first_part = false; uid = record { items = bytes } }) (record { node = allowed; uid = short }))
      (with_queue [] t) (frames ++ answer_frames) frames v next_one sessions awaits refl h))
    where
      what : Outgoing
      what = outgoing n Alloc 0 id (allocation_payload node bytes)

      answer_frames : List Queued
      answer_frames = queued_frames what number 0

      counted : length answer_frames ≡ frame_count (suc (length bytes))
      counted = laws.count what number 0

      Taken : Cluster → Type 0
      Taken v = HasTaken laws.hearing n a low high place uid preferred moment number id small bytes node short allowed
          (with_queue [] t) (frames ++ answer_frames) next_one v

  -- ---- a follow-up

  -- the allocator is ready for the next request, and the device follows up when its clock is read
  pub record HasFollowed (log : List Entry) (next next_one known : ℕ) (accepted : List Accepted) (w : Cluster) : Type 0 where
    pub server : AllocatorState
    pub sessions : List Session
    pub frames : List Queued
    pub serves : IsServing n log moment next accepted server
    pub awaits : Awaits setting (its_key laws.hearing n low high) moment next sessions
    pub at : At n a server (Some (device_with uid preferred moment next_one (Some (follow_up_behind uid preferred moment known)) [] sessions)) frames w

  pub follows : (t : AllocatorState) (frames front : List Queued) (frame : Queued) (sessions : List Session) (w : Cluster) (log : List Entry)
      (next next_one known most : ℕ) (accepted : List Accepted) (message : Allocation)
      → next < 32 → 1 ≤ known → known ≤ 12 → known < length uid → frame_count (suc known) ≤ most
      → IsServing n log moment next accepted t → Asked message moment frame
      → answer accepted message moment true ≡ Follows (record { items = take known uid })
      → Awaits setting (its_key laws.hearing n low high) moment next sessions → frames ≡ front ++ frame ∷ []
      → At n a t (Some (device_of next_one sessions)) frames w
      → CanGo w moment moment (suc (most + most)) (HasFollowed log (id_after next) next_one known (after accepted message moment true))
  follows t frames front frame sessions w log next next_one known most accepted message small some low_enough part few serves asked answers awaits cut at =
      subst (λ (k : ℕ). CanGo w moment moment k Followed) (omega arith)
      (and_then (At n a then_server (Some (device_of next_one sessions)) frames) Followed w moment moment moment 1 (most + most)
      (receives n a t (Some (device_of next_one sessions)) frames front frame message moment w serves.now asked cut at)
      (λ v h. so (HasTaken laws.hearing n a low high place uid preferred moment number next small bytes 0 short (omega arith) (with_queue [] then_server) (frames ++ answer_frames) next_one)
      Followed v moment moment (most + most)
      (goes_out then_server frames sessions v next_one next number 0 most bytes small short (omega arith)
      (subst (λ (k : ℕ). frame_count (suc k) ≤ most) (sym size) few) awaits
      (subst (λ (s : AllocatorState). At n a s (Some (device_of next_one sessions)) frames v) queued h))
      (λ u k. record {
        server = with_queue [] then_server;
        sessions = k.sessions;
        frames = frames ++ answer_frames;
        serves = goes_on n log moment next accepted t serves number arrival message refl asked.request bytes (omega (arith, size, low_enough)) answers;
        awaits = k.awaits;
        at = subst (λ (x : Asking). At n a (with_queue [] then_server) (Some (record { asking = x; sessions = k.sessions })) (frames ++ answer_frames) u)
            as_followed k.at;
      })))
    where
      number : ℕ
      number = w.rows + 1

      arrival : Arrival
      arrival = comes_at frame moment

      bytes : List ℕ
      bytes = take known uid

      size : length bytes ≡ known
      size = let e = length-take known uid in omega (arith, e, part)

      short : length bytes ≤ 16
      short = omega (arith, size, low_enough)

      then_server : AllocatorState
      then_server = (step t number (Rx arrival)).step_state.allocator

      answer_frames : List Queued
      answer_frames = queued_frames (outgoing n Alloc 0 next (allocation_payload 0 bytes)) number 0

      queued : then_server ≡ with_queue answer_frames then_server
      queued = λ i. record then_server {
        queue = answers_it n log moment next accepted t serves number arrival message refl asked.request bytes (omega (arith, size, low_enough)) answers i;
      }

      as_followed : after_allocation 0 false (record { node = 0; first_part = false; uid = record { items = bytes } }) (asking_with uid preferred moment next_one None [])
          ≡ asking_with uid preferred moment next_one (Some (follow_up_behind uid preferred moment known)) []
      as_followed = part_taken uid preferred moment next_one 0 known some part

      Followed : Cluster → Type 0
      Followed v = HasFollowed log (id_after next) next_one known (after accepted message moment true) v

  -- ---- the pair

  pub record IsGiven (node : ℕ) (w : Cluster) : Type 0 where
    pub device : Device
    pub there : w.allocatee a ≡ Some device
    pub its_uid : device.asking.uid ≡ uid
    pub its_node : device.asking.holds ≡ Some node

  pub gives_pair : (t : AllocatorState) (frames front : List Queued) (frame : Queued) (sessions : List Session) (w : Cluster) (log : List Entry)
      (next next_one node most : ℕ) (accepted : List Accepted) (message : Allocation)
      → next < 32 → 1 ≤ node → node ≤ 125 → length uid ≤ 16 → frame_count (suc (length uid)) ≤ most
      → IsServing n log moment next accepted t → Asked message moment frame
      → (step t (w.rows + 1) (Rx (comes_at frame moment))).step_state.allocator.queue
      ≡ queued_frames (outgoing n Alloc 0 next (allocation_payload node uid)) (w.rows + 1) 0
      → Awaits setting (its_key laws.hearing n low high) moment next sessions → frames ≡ front ++ frame ∷ []
      → At n a t (Some (device_of next_one sessions)) frames w
      → CanGo w moment moment (suc (most + most)) (IsGiven node)
  gives_pair t frames front frame sessions w log next next_one node most accepted message small some most_node short few serves asked waits awaits cut at =
      subst (λ (k : ℕ). CanGo w moment moment k (IsGiven node)) (omega arith)
      (and_then (At n a then_server (Some (device_of next_one sessions)) frames) (IsGiven node) w moment moment moment 1 (most + most)
      (receives n a t (Some (device_of next_one sessions)) frames front frame message moment w serves.now asked cut at)
      (λ v h. so (HasTaken laws.hearing n a low high place uid preferred moment number next small uid node short (omega (arith, most_node))
      (with_queue [] then_server) (frames ++ answer_frames) next_one)
      (IsGiven node) v moment moment (most + most)
      (goes_out then_server frames sessions v next_one next number node most uid small short (omega (arith, most_node)) few awaits
      (subst (λ (s : AllocatorState). At n a s (Some (device_of next_one sessions)) frames v) queued h))
      (λ u k. record {
        device = record { asking = record (asking_with uid preferred moment next_one None []) { holds = Some node }; sessions = k.sessions };
        there = k.at.there ∙ ap (λ (x : Asking). Some (record { asking = x; sessions = k.sessions })) (whole_taken uid preferred moment next_one node some most_node);
        its_uid = refl;
        its_node = refl;
      })))
    where
      number : ℕ
      number = w.rows + 1

      arrival : Arrival
      arrival = comes_at frame moment

      then_server : AllocatorState
      then_server = (step t number (Rx arrival)).step_state.allocator

      answer_frames : List Queued
      answer_frames = queued_frames (outgoing n Alloc 0 next (allocation_payload node uid)) number 0

      queued : then_server ≡ with_queue answer_frames then_server
      queued = λ i. record then_server {
        queue = waits i;
      }
