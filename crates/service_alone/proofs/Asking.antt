-- A device that comes to the bus, and what its clock makes it send.
use Rattle.std.proofs.Common.{◌≡◌, ℕ, suc, ◌+◌, ◌<◌, ◌≤◌, Bool, true, false, List, [], ◌∷◌, ◌++◌, length, length-take, take, drop, max, refl, sym, ◌∙◌, ap, subst, arith, Option, None, Some}
use Rattle.std.specs.Prelude.{◌-◌, ◌%◌, is_some, not, slice_index_or}
use Rattle.can_frame.specs.Cutting.{Piece, frames_of}
use Rattle.can_frame.specs.DataTypes.{allocation}
use Rattle.can_frame.specs.Identifier.{identifier_number}
use Rattle.dsdl_codec.specs.declared.allocation.Allocation.{Allocation}
use Rattle.dsdl_codec.specs.Allocation.{allocation_bytes}
use Rattle.raft_model.specs.Lists.{at_here}
use Rattle.bus_rows.specs.declared.row.Row.TheVariants.{AEnd, AOpen, ASend, ATick}
use Rattle.transfer_rx.specs.Sessions.{Session}
use Rattle.transfer_tx.specs.Queue.{Queued, marked, next_out, queued_frames}
use Rattle.allocatee.specs.Allocatee.{Device, Tick, after_pop, opening, step}
use Rattle.allocatee.specs.Allocatee as device
use Rattle.allocatee.specs.Asking.{Asking, clock_phase, has_room, ident_of, outgoing, timer_from}
use Rattle.allocatee.specs.declared.timer.FollowUp.{FollowUp}
use Rattle.allocatee.proofs.Requests.{le_is}
use Rattle.alloc_spec.specs.AllocatorState.{AllocatorState}
use Rattle.service_steps.specs.Devices.{RequestsAreRequests, comes_at}
use Rattle.service_steps.specs.Requests.{IsRequest}
use Rattle.bus_spec.specs.declared.unlawful.Unlawful.TheVariants.{Absent, NoAllocatee, Present}
use Rattle.bus_spec.specs.Allocatees.{after_sending_from, device_after_step, is_place, next_from}
use Rattle.bus_spec.specs.Cluster.{Cluster, in_list, with_allocatee}
use Rattle.bus_spec.specs.Lawful.{because, nothing_to_send, or_else}
use Rattle.service_alone.proofs.Goes.{CanGo, and_then, at_most, one_row, so, stays}
use Rattle.service_alone.proofs.Scenes.{At}
use Rattle.service_alone.proofs.Sending.{first_out, others_left}

pub its_own : (w : Cluster) (a : ℕ) (x : Option Device) → (with_allocatee w a x).allocatee a ≡ x
its_own w a x = at_here w.allocatee a a x refl

module _ (n a : ℕ) (place : is_place a ≡ true) (now : ℕ) where
  -- ---- rows of the device

  ends : (t : AllocatorState) (d : Device) (frames : List Queued) (w : Cluster) → At n a t (Some d) frames w → CanGo w now now 1 (At n a t None frames)
  ends t d frames w is = one_row (At n a t None frames) w (AEnd a) now (omega arith)
      (λ i. or_else (because NoAllocatee (not (place i))) (because Absent (not (is_some (is.there i)))))
      (record { ids = is.ids; up = is.up; there = its_own w a None; sent = is.sent })

  -- whoever is there leaves
  pub leaves : (t : AllocatorState) (x : Option Device) (frames : List Queued) (w : Cluster) → At n a t x frames w → CanGo w now now 1 (At n a t None frames)
  leaves t None frames w is = at_most (At n a t None frames) w now now 0 1 (omega arith) (stays (At n a t None frames) w now is)
  leaves t (Some d) frames w is = ends t d frames w is

  pub comes : (t : AllocatorState) (frames : List Queued) (w : Cluster) (uid : List ℕ) (preferred moment : ℕ) → now ≤ moment → At n a t None frames w
      → CanGo w now moment 1 (At n a t (Some (opening uid preferred moment 0)) frames)
  comes t frames w uid preferred moment later is = one_row (At n a t (Some (opening uid preferred moment 0)) frames) w (AOpen a uid preferred moment 0) now later
      (λ i. or_else (because NoAllocatee (not (place i))) (because Present (is_some (is.there i))))
      (record { ids = is.ids; up = is.up; there = its_own w a (Some (opening uid preferred moment 0)); sent = is.sent })

  reads : (t : AllocatorState) (d : Device) (frames : List Queued) (w : Cluster) (moment : ℕ) → now ≤ moment → At n a t (Some d) frames w
      → CanGo w now moment 1 (At n a t (Some (step d (w.rows + 1) (device.Tick moment 0)).device) frames)
  reads t d frames w moment later is = one_row (At n a t (Some (step d (w.rows + 1) (device.Tick moment 0)).device) frames) w (ATick a moment 0) now later
      (λ i. or_else (because NoAllocatee (not (place i))) (because Absent (not (is_some (is.there i)))))
      (record {
        ids = is.ids;
        up = is.up;
        there = its_own w a (device_after_step (w.rows + 1) (device.Tick moment 0) (w.allocatee a))
            ∙ ap (device_after_step (w.rows + 1) (device.Tick moment 0)) is.there;
        sent = is.sent;
      })

  sends : (t : AllocatorState) (d : Device) (frames : List Queued) (w : Cluster) (frame : Queued) → next_out d.asking.queue ≡ Some frame
      → At n a t (Some d) frames w → CanGo w now now 1 (At n a t (Some (after_pop d)) (frames ++ frame ∷ []))
  sends t d frames w frame next is = one_row (At n a t (Some (after_pop d)) (frames ++ frame ∷ [])) w (ASend a) now (omega arith)
      (λ i. or_else (because NoAllocatee (not (place i))) (or_else (because Absent (not (is_some (is.there i)))) (nothing_to_send (out i))))
      (record {
        ids = is.ids;
        up = is.up;
        there = its_own w a (after_sending_from (w.allocatee a)) ∙ ap after_sending_from is.there;
        sent = λ i. is.sent i ++ in_list (out i);
      })
    where
      out : next_from (w.allocatee a) ≡ Some frame
      out = ap next_from is.there ∙ next

-- ---- a device that asks, at one moment

module _ (uid : List ℕ) (preferred moment : ℕ) where
  -- its next request has this transfer ID; these wait, and these sessions are open
  abbrev pub asking_with : ℕ → Option FollowUp → List Queued → Asking
  asking_with id follow_up queue = record {
    uid = uid;
    preferred = preferred;
    queue = queue;
    id = id;
    moment = moment;
    request = timer_from moment 600;
    follow_up = follow_up;
    holds = None;
  }

  abbrev pub device_with : ℕ → Option FollowUp → List Queued → List Session → Device
  device_with id follow_up queue sessions = record { asking = asking_with id follow_up queue; sessions = sessions }

  abbrev pub asks : Bool → List ℕ → Allocation
  asks first part = record { node = preferred; first_part = first; uid = record { items = part } }

  -- it follows up at once
  abbrev pub follow_up_behind : ℕ → FollowUp
  follow_up_behind known = record { timer = timer_from moment 0; known = known }

  room_is : (first : Bool) (part : List ℕ) → length part ≤ 6 → has_room [] (allocation_bytes (asks first part)) ≡ true
  room_is first part short = rw (le_is (suc (length part)) 7 (omega (arith, short))) refl

  pub at_most_six : (part : List ℕ) → length (take 6 part) ≤ 6
  at_most_six part = let e = length-take 6 part in omega (arith, e)

  offers_first : (since number : ℕ) → since + 600 ≡ moment → (step (opening uid preferred since 0) number (device.Tick moment 0)).device
      ≡ device_with 1 None (queued_frames (outgoing 0 0 (allocation_bytes (asks true (take 6 uid)))) number 0) []
  unfolding step clock_phase
  offers_first since number later =
      let now : max since moment ≡ moment = omega (arith, later) in
      rw (now) (rw (le_is 600 (moment - since) (omega (arith, later))) (rw (room_is true (take 6 uid) (at_most_six uid)) refl))

  offers_more : (id known number : ℕ) (sessions : List Session)
      → (step (device_with id (Some (follow_up_behind known)) [] sessions) number (device.Tick moment 0)).device
      ≡ device_with ((id + 1) % 32) None (queued_frames (outgoing 0 id (allocation_bytes (asks false (take 6 (drop known uid))))) number 0) sessions
  unfolding step clock_phase
  offers_more id known number sessions =
      let now : max moment moment ≡ moment = omega arith in
      rw (now) (rw (le_is 0 (moment - moment) (omega arith)) (rw (room_is false (take 6 (drop known uid)) (at_most_six (drop known uid))) refl))

-- ---- its request is on the bus

pub first_place : (id step re : ℕ) (pieces : List Piece) (frame : Queued) → marked id step re 0 pieces ≡ frame ∷ [] → frame.mark.place ≡ 0
first_place id step re [] frame e = absurd (omega (arith, ap length e))
first_place id step re (piece ∷ pieces) frame e = sym (ap (λ (l : List Queued). (slice_index_or l 0 frame).mark.place) e)

at_first : (id number : ℕ) (payload : List ℕ) (frame : Queued) → queued_frames (outgoing 0 id payload) number 0 ≡ frame ∷ [] → frame.mark.place ≡ 0
unfolding queued_frames
at_first id number payload frame e = first_place (identifier_number (ident_of 0)) number 0 (frames_of allocation.signature id payload) frame e

-- a frame that is this request to every allocator, at this moment of the allocator
pub record Asked (message : Allocation) (moment : ℕ) (frame : Queued) : Type 0 where
  pub request : IsRequest (comes_at frame moment) message
  pub place : frame.mark.place ≡ 0

module _ (requests : RequestsAreRequests) (n a : ℕ) (place : is_place a ≡ true) (uid : List ℕ) (preferred moment : ℕ) (few : preferred < 128) where
  abbrev pub HasAsked : AllocatorState → List Session → List Queued → ℕ → Allocation → Cluster → Type 0
  HasAsked t sessions frames id message w = (frame : Queued) × Asked message moment frame
      × At n a t (Some (device_with uid preferred moment id None [] sessions)) (frames ++ frame ∷ []) w

  goes_out : (t : AllocatorState) (sessions : List Session) (frames : List Queued) (w : Cluster) (id next number : ℕ) (first : Bool) (part : List ℕ)
      → id < 32 → length part ≤ 6
      → At n a t (Some (device_with uid preferred moment next None
      (queued_frames (outgoing 0 id (allocation_bytes (asks uid preferred moment first part))) number 0) sessions)) frames w
      → CanGo w moment moment 1 (HasAsked t sessions frames next (asks uid preferred moment first part))
  goes_out t sessions frames w id next number first part small short at =
      let message = asks uid preferred moment first part in
      let made = requests 0 id number moment message small few short in
      let waits = subst (λ (queue : List Queued). At n a t (Some (device_with uid preferred moment next None queue sessions)) frames w) made.1 at in
      so (At n a t (Some (after_pop (device_with uid preferred moment next None (made.0 ∷ []) sessions))) (frames ++ made.0 ∷ []))
      (HasAsked t sessions frames next message) w moment moment 1
      (sends n a place moment t (device_with uid preferred moment next None (made.0 ∷ []) sessions) frames w made.0
      (first_out made.0.id made.0 [] (refl, tt)) waits)
      (λ v later. (
        made.0,
        record { request = made.2; place = at_first id number (allocation_bytes message) made.0 made.1 },
        subst (λ (queue : List Queued). At n a t (Some (device_with uid preferred moment next None queue sessions)) (frames ++ made.0 ∷ []) v)
            (others_left made.0.id made.0 [] (refl, tt)) later,
      ))

  -- it came before: its first request
  pub asks_first : (t : AllocatorState) (frames : List Queued) (w : Cluster) (since : ℕ) → since + 600 ≡ moment
      → At n a t (Some (opening uid preferred since 0)) frames w
      → CanGo w since moment 2 (HasAsked t [] frames 1 (asks uid preferred moment true (take 6 uid)))
  asks_first t frames w since later at =
      and_then (At n a t (Some (step (opening uid preferred since 0) (w.rows + 1) (device.Tick moment 0)).device) frames)
      (HasAsked t [] frames 1 (asks uid preferred moment true (take 6 uid))) w since moment moment 1 1
      (reads n a place since t (opening uid preferred since 0) frames w moment (omega (arith, later)) at)
      (λ v then_at. goes_out t [] frames v 0 1 (w.rows + 1) true (take 6 uid) (omega arith) (at_most_six uid preferred moment uid)
      (subst (λ (d : Device). At n a t (Some d) frames v) (offers_first uid preferred moment since (w.rows + 1) later) then_at))

  -- and a follow-up
  pub asks_more : (t : AllocatorState) (frames : List Queued) (sessions : List Session) (w : Cluster) (id known : ℕ) → id < 32
      → At n a t (Some (device_with uid preferred moment id (Some (follow_up_behind uid preferred moment known)) [] sessions)) frames w
      → CanGo w moment moment 2 (HasAsked t sessions frames ((id + 1) % 32) (asks uid preferred moment false (take 6 (drop known uid))))
  asks_more t frames sessions w id known small at =
      and_then (At n a t (Some (step d (w.rows + 1) (device.Tick moment 0)).device) frames)
      (HasAsked t sessions frames ((id + 1) % 32) (asks uid preferred moment false (take 6 (drop known uid)))) w moment moment moment 1 1
      (reads n a place moment t d frames w moment (omega arith) at)
      (λ v then_at. goes_out t sessions frames v id ((id + 1) % 32) (w.rows + 1) false (take 6 (drop known uid)) small
      (at_most_six uid preferred moment (drop known uid))
      (subst (λ (e : Device). At n a t (Some e) frames v) (offers_more uid preferred moment id known (w.rows + 1) sessions) then_at))
    where
      d : Device
      d = device_with uid preferred moment id (Some (follow_up_behind uid preferred moment known)) [] sessions
