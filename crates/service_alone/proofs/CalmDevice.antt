-- What a device does that asks among calm rows: at a tick, and at a frame.
use Rattle.std.proofs.Common.{◌≡◌, ℕ, suc, ◌+◌, ◌<◌, ◌≤◌, Bool, true, false, List, [], length, length-take, take, drop, max, refl, ◌∙◌, ap, arith, inl, inr, Option, None, Some}
use Rattle.std.specs.Prelude.{◌%◌, nat_eq, Result, Err}
use Rattle.std.specs.Str.{bytes_eq}
use Rattle.std.proofs.lemmas.Bool.{cases_Bool}
use Rattle.std.proofs.lemmas.Bool.Decides.{eqb_tells}
use Rattle.std.proofs.lemmas.Slice.Eq.{bytes_eq-Decides}
use Rattle.can_frame.specs.declared.step.Why.{Why}
use Rattle.dsdl_codec.specs.declared.allocation.Allocation.{Allocation}
use Rattle.dsdl_codec.specs.Allocation.{allocation_bytes}
use Rattle.transfer_rx.specs.declared.accept.Wanted.{Wanted}
use Rattle.transfer_rx.specs.Acceptance.{wanted}
use Rattle.transfer_rx.specs.Reassembly.{Arrival, Drops, answer, next, of_wanted}
use Rattle.transfer_rx.specs.Reassembly as receiver
use Rattle.transfer_rx.specs.Sessions.{Session}
use Rattle.transfer_tx.specs.Queue.{Queued, queued_frames}
use Rattle.allocatee.specs.Accepted.{setting}
use Rattle.allocatee.specs.Allocatee.{Device, after_receiver_answer, step}
use Rattle.allocatee.specs.Allocatee as device
use Rattle.allocatee.specs.Asking.{Asking, after_allocation, clock_phase, due, follow_up_wait, has_passed, has_room, outgoing, request_wait, timer_from}
use Rattle.allocatee.specs.declared.timer.FollowUp.{FollowUp}
use Rattle.allocatee.specs.declared.timer.Timer.{Timer}
use Rattle.allocatee.specs.Judging.{answer_judgement, arrival_judgement}
use Rattle.can_frame.specs.declared.step.Judged.TheVariants.{Fine}
use Rattle.allocatee.proofs.Requests.{le_is}

module _ (uid : List ℕ) (preferred : ℕ) where
  -- a device that holds no node ID
  abbrev pub asking_as : (queue : List Queued) (id moment : ℕ) (request : Timer) (follow_up : Option FollowUp) → Asking
  asking_as queue id moment request follow_up = record {
    uid = uid;
    preferred = preferred;
    queue = queue;
    id = id;
    moment = moment;
    request = request;
    follow_up = follow_up;
    holds = None;
  }

  -- the same, with these sessions
  abbrev pub device_as : (queue : List Queued) (id moment : ℕ) (request : Timer) (follow_up : Option FollowUp) (sessions : List Session) → Device
  device_as queue id moment request follow_up sessions = record { asking = asking_as queue id moment request follow_up; sessions = sessions }

  -- what it asks
  abbrev pub asked : Bool → List ℕ → Allocation
  asked first part = record { node = preferred; first_part = first; uid = record { items = part } }

  -- the frames of such a request
  abbrev pub request_frames : (number word id : ℕ) (first : Bool) (part : List ℕ) → List Queued
  request_frames number word id first part = queued_frames (outgoing word id (allocation_bytes (asked first part))) number 0

  room_is : (first : Bool) (part : List ℕ) → length part ≤ 6 → has_room [] (allocation_bytes (asked first part)) ≡ true
  room_is first part short = rw (le_is (suc (length part)) 7 (omega (arith, short))) refl

  -- a part has six bytes at most
  pub six_at_most : (part : List ℕ) → length (take 6 part) ≤ 6
  six_at_most part = let e = length-take 6 part in omega (arith, e)

  -- ---- at a tick

  module _ (id moment now : ℕ) (later : moment ≤ now) (request : Timer) (sessions : List Session) (number word : ℕ) where
    now_is : max moment now ≡ now
    now_is = omega (arith, later)

    -- nothing is due
    pub ticks_quietly : (queue : List Queued) (follow_up : Option FollowUp) → due now follow_up ≡ None → has_passed now request ≡ false
        → (step (device_as queue id moment request follow_up sessions) number (device.Tick now word)).device
        ≡ device_as queue id now request follow_up sessions
    unfolding step clock_phase
    ticks_quietly queue follow_up none early = rw (now_is) (rw (none) (rw (early) refl))

    -- the first request is due
    pub asks_first : has_passed now request ≡ true → (step (device_as [] id moment request None sessions) number (device.Tick now word)).device
        ≡ device_as (request_frames number word id true (take 6 uid)) ((id + 1) % 32) now (timer_from now (request_wait word)) None sessions
    unfolding step clock_phase
    asks_first passed = rw (now_is) (rw (passed) (rw (room_is true (take 6 uid) (six_at_most uid)) refl))

    -- a follow-up is due
    pub asks_on : (follow_up : FollowUp) → has_passed now follow_up.timer ≡ true
        → (step (device_as [] id moment request (Some follow_up) sessions) number (device.Tick now word)).device
        ≡ device_as (request_frames number word id false (take 6 (drop follow_up.known uid))) ((id + 1) % 32) now request None sessions
    unfolding step clock_phase
    asks_on follow_up passed = rw (now_is) (rw (passed) (rw (room_is false (take 6 (drop follow_up.known uid)) (six_at_most (drop follow_up.known uid))) refl))

  -- ---- at a frame

  module _ (queue : List Queued) (id moment : ℕ) (request : Timer) (follow_up : Option FollowUp) (sessions : List Session) (number word : ℕ)
      (arrival : Arrival) (later : moment ≤ arrival.moment) where
    same_arrival : (record arrival { moment = max moment arrival.moment }) ≡ arrival
    same_arrival = let now : max moment arrival.moment ≡ arrival.moment = omega (arith, later) in λ i. record arrival { moment = now i }

    -- what a frame leaves, by what the receiver answers
    pub receives : (step (device_as queue id moment request follow_up sessions) number (device.Rx arrival word)).device ≡ record {
      asking = after_receiver_answer word (answer setting sessions arrival) (asking_as queue id arrival.moment request follow_up);
      sessions = next setting sessions arrival;
    }
    unfolding step
    receives =
        let now : max moment arrival.moment ≡ arrival.moment = omega (arith, later) in
        λ i. record {
          asking = after_receiver_answer word (answer setting sessions (same_arrival i)) (asking_as queue id (now i) request follow_up);
          sessions = next setting sessions (same_arrival i);
        }

    -- it may come, where what the receiver answers may
    pub judged_as : answer_judgement arrival.mark.step (answer setting sessions arrival) ≡ Fine
        → arrival_judgement (device_as queue id moment request follow_up sessions) arrival ≡ Fine
    unfolding arrival_judgement
    judged_as fine = ap (λ (x : Arrival). answer_judgement arrival.mark.step (answer setting sessions x)) same_arrival ∙ fine

    -- as one that is not wanted
    pub ignored_fine : (why : Why) → wanted setting.rows setting.me arrival.id ≡ Err why → answer_judgement arrival.mark.step (answer setting sessions arrival) ≡ Fine
    unfolding receiver.step
    ignored_fine why not_wanted = ap (λ (w : Result Wanted Why). answer_judgement arrival.mark.step (of_wanted setting arrival sessions w).answer) not_wanted

    -- one that is not wanted
    pub ignores : (why : Why) → wanted setting.rows setting.me arrival.id ≡ Err why
        → (step (device_as queue id moment request follow_up sessions) number (device.Rx arrival word)).device
        ≡ device_as queue id arrival.moment request follow_up sessions
    unfolding receiver.step
    ignores why not_wanted = receives
        ∙ ap (λ (s : receiver.Step). record {
          asking = after_receiver_answer word s.answer (asking_as queue id arrival.moment request follow_up);
          sessions = s.sessions;
        }) stepped
      where
        stepped : receiver.step setting sessions arrival ≡ record { answer = Drops why; sessions = sessions }
        stepped = ap (λ (w : Result Wanted Why). of_wanted setting arrival sessions w) not_wanted

  -- ---- what an answer leaves

  module _ (id moment : ℕ) (request : Timer) (follow_up : Option FollowUp) (word node : ℕ) where
    -- an answer to so many bytes, and not to all
    pub follows_up : (known : ℕ) → 1 ≤ known → known < length uid
        → after_allocation word false (record { node = node; first_part = false; uid = record { items = take known uid } }) (asking_as [] id moment request follow_up)
        ≡ asking_as [] id moment (timer_from moment (request_wait word)) (Some (record { timer = timer_from moment (follow_up_wait word); known = known }))
    unfolding after_allocation
    follows_up known some part = rw (not_all) (rw (size) (rw (nonzero) (rw (same) refl)))
      where
        size : length (take known uid) ≡ known
        size = let e = length-take known uid in omega (arith, e, part)

        not_all : bytes_eq (take known uid) uid ≡ false
        not_all = elim (cases_Bool (bytes_eq (take known uid) uid)) [
          | inl z ↦ let e = ap length ((bytes_eq-Decides (take known uid) uid).0 z) in absurd (omega (arith, e, size, part))
          | inr z ↦ z
        ]

        nonzero : nat_eq known 0 ≡ false
        nonzero = elim (eqb_tells known 0) [ inl z ↦ absurd (omega (arith, z.1, some)) | inr z ↦ z.0 ]

        same : bytes_eq (take known uid) (take known uid) ≡ true
        same = (bytes_eq-Decides (take known uid) (take known uid)).1 refl

    -- an answer to all of them
    pub gets : 1 ≤ node → node ≤ 125
        → (after_allocation word false (record { node = node; first_part = false; uid = record { items = uid } }) (asking_as [] id moment request follow_up)).holds ≡ Some node
    unfolding after_allocation
    gets low high = rw ((bytes_eq-Decides uid uid).1 refl) (rw (le_is 1 node low) (rw (le_is node 125 high) refl))

    -- and it is the same device
    pub same_uid : 1 ≤ node → node ≤ 125
        → (after_allocation word false (record { node = node; first_part = false; uid = record { items = uid } }) (asking_as [] id moment request follow_up)).uid ≡ uid
    unfolding after_allocation
    same_uid low high = rw ((bytes_eq-Decides uid uid).1 refl) (rw (le_is 1 node low) (rw (le_is node 125 high) refl))
