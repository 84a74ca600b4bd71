-- A device takes an answer from the bus, frame by frame.
use Rattle.std.proofs.Common.{◌≡◌, ℕ, suc, ◌+◌, ◌<◌, ◌≤◌, true, false, List, [], ◌∷◌, ◌++◌, append_assoc, length, length-append, length-take, take, max, refl, sym, ◌∙◌, ap, subst, arith, inl, inr, Option, None, Some}
use Rattle.std.specs.Prelude.{◌-◌, ◌==◌, ◌||◌, is_some, nat_lt, nat_eq, not}
use Rattle.std.specs.Str.{bytes_eq}
use Rattle.std.proofs.lemmas.Bool.Decides.{eqb_tells}
use Rattle.std.proofs.lemmas.List.{get_or_at}
use Rattle.std.proofs.lemmas.Slice.Eq.{bytes_eq-Decides}
use Rattle.can_frame.specs.declared.step.Judged.TheVariants.{Fine}
use Rattle.can_frame.specs.declared.step.What.TheVariants.{Alloc}
use Rattle.can_frame.specs.Cutting.{Piece, frame_bytes, frames_of}
use Rattle.can_frame.specs.Identifier.{identifier_number}
use Rattle.dsdl_codec.specs.declared.allocation.Allocation.{Allocation}
use Rattle.dsdl_codec.specs.Allocation.{allocation_of}
use Rattle.bus_rows.specs.declared.row.Row.TheVariants.{ARx}
use Rattle.transfer_rx.specs.Parts.{IsPart}
use Rattle.transfer_rx.specs.Reassembly.{Answer, Arrival, Continues, Drops, Gives, answer, next}
use Rattle.transfer_rx.specs.Run.{is_of, run}
use Rattle.transfer_rx.specs.Sessions.{Session, next_id}
use Rattle.transfer_tx.specs.declared.outgoing.Outgoing.{Outgoing}
use Rattle.transfer_tx.specs.Queue.{Queued, marked, queued_frames}
use Rattle.allocatee.specs.Accepted.{setting}
use Rattle.allocatee.specs.Allocatee.{Device, after_reading, after_receiver_answer, step}
use Rattle.allocatee.specs.Allocatee as device
use Rattle.allocatee.specs.Asking.{Asking, after_allocation}
use Rattle.allocatee.specs.Judging.{answer_judgement, arrival_judgement}
use Rattle.allocatee.proofs.Requests.{le_is}
use Rattle.alloc_spec.specs.AllocatorState.{AllocatorState}
use Rattle.alloc_spec.specs.Exchange.{allocation_payload}
use Rattle.alloc_spec.specs.Transfers.{outgoing}
use Rattle.alloc_spec_laws.proofs.Choices.{tell}
use Rattle.service_steps.specs.Devices.{comes_at}
use Rattle.bus_spec.specs.declared.unlawful.Unlawful.TheVariants.{Absent, NoAllocatee, NoFrame}
use Rattle.bus_spec.specs.Allocatees.{device_after_step, is_place}
use Rattle.bus_spec.specs.Cluster.{Cluster, arrival_at, frame_at, no_frame, receipt_at}
use Rattle.bus_spec.specs.Lawful.{arrival_refusal_at, because, cause_of_judgement, no_such_frame, or_else}
use Rattle.service_alone.proofs.Asking.{asking_with, device_with, follow_up_behind, its_own}
use Rattle.service_alone.proofs.Goes.{CanGo, and_then, one_row, so, stays}
use Rattle.service_alone.proofs.Hearing.{HearingLaws, arrival_of, arrivals_from, hears_whole, its_ident, its_key, last, last_arrival, last_arrival_id, open_part, own, part, parts}
use Rattle.service_alone.proofs.Receiving.{AreOfKey, Awaits, GivesNone, HasOnly, awaits_next, gives_none, keeps, only_run}
use Rattle.service_alone.proofs.Scenes.{At}

-- ---- a frame of the bus

pub frame_is : (front rest : List Queued) (frame : Queued) → frame_at (front ++ frame ∷ rest) (length front + 1) ≡ frame
frame_is front rest frame = get_or_at front frame rest no_frame (length front + 1 - 1) (omega arith)

pub is_there : (k count : ℕ) → 1 ≤ k → k ≤ count → ((k == 0) || nat_lt count k) ≡ false
is_there k count low high = grind arith

pub there_is : (w : Cluster) (front rest : List Queued) (frame : Queued) → w.frames ≡ front ++ frame ∷ rest → no_such_frame w (length front + 1) ≡ None
there_is w front rest frame e = ap (because NoFrame) (is_there (length front + 1) (length w.frames) (omega arith)
    (let l = length-append front (frame ∷ rest) in omega (arith, l, ap length e)))

module _ (n a : ℕ) (place : is_place a ≡ true) where
  hears : (t : AllocatorState) (d : Device) (frames front rest : List Queued) (frame : Queued) (w : Cluster) (moment : ℕ)
      → frames ≡ front ++ frame ∷ rest → arrival_judgement d (comes_at frame moment) ≡ Fine → At n a t (Some d) frames w
      → CanGo w moment moment 1 (At n a t (Some (step d (w.rows + 1) (device.Rx (comes_at frame moment) 0)).device) frames)
  hears t d frames front rest frame w moment cut fine is =
      one_row (At n a t (Some (step d (w.rows + 1) (device.Rx (comes_at frame moment) 0)).device) frames) w (ARx a (length front + 1) moment 0) moment (omega arith)
      (λ i. or_else (because NoAllocatee (not (place i))) (or_else (because Absent (not (is_some (is.there i))))
      (or_else (there_is w front rest frame (is.sent ∙ cut) i) (refuses_not i))))
      (record {
        ids = is.ids;
        up = is.up;
        there = its_own w a (device_after_step (w.rows + 1) (receipt_at w (length front + 1) moment 0) (w.allocatee a))
            ∙ (λ i. device_after_step (w.rows + 1) (device.Rx (arrival_at (at_it i) moment) 0) (is.there i));
        sent = is.sent;
      })
    where
      at_it : frame_at w.frames (length front + 1) ≡ frame
      at_it = ap (λ (l : List Queued). frame_at l (length front + 1)) (is.sent ∙ cut) ∙ frame_is front rest frame

      refuses_not : arrival_refusal_at (w.allocatee a) (arrival_at (frame_at w.frames (length front + 1)) moment) ≡ None
      refuses_not = (λ i. arrival_refusal_at (is.there i) (arrival_at (at_it i) moment)) ∙ ap cause_of_judgement fine

pub fine_none : (number : ℕ) (x : Answer) → GivesNone x → answer_judgement number x ≡ Fine
fine_none number (Gives d) none = absurd none
fine_none number Continues none = refl
fine_none number (Drops why) none = refl

none_taken : (x : Answer) (asking : Asking) → GivesNone x → after_receiver_answer 0 x asking ≡ asking
none_taken (Gives d) asking none = absurd none
none_taken Continues asking none = refl
none_taken (Drops why) asking none = refl

module _ (uid : List ℕ) (preferred moment : ℕ) where
  abbrev holding : ℕ → List Session → Device
  holding id sessions = device_with uid preferred moment id None [] sessions

  same_moment : (arrival : Arrival) → arrival.moment ≡ moment → (record arrival { moment = max moment arrival.moment }) ≡ arrival
  same_moment arrival e = let now : max moment arrival.moment ≡ arrival.moment = omega (arith, e) in λ i. record arrival { moment = now i }

  module _ (id : ℕ) (sessions : List Session) (arrival : Arrival) (e : arrival.moment ≡ moment) where
    judged : (answer_judgement arrival.mark.step (answer setting sessions arrival) ≡ Fine) → arrival_judgement (holding id sessions) arrival ≡ Fine
    unfolding arrival_judgement
    judged fine = ap (λ (x : Arrival). answer_judgement arrival.mark.step (answer setting sessions x)) (same_moment arrival e) ∙ fine

    stepped : (number : ℕ) → (step (holding id sessions) number (device.Rx arrival 0)).device ≡ record {
      asking = after_receiver_answer 0 (answer setting sessions arrival) (asking_with uid preferred moment id None []);
      sessions = next setting sessions arrival;
    }
    unfolding step
    stepped number =
        let now : max moment arrival.moment ≡ moment = omega (arith, e) in
        λ i. record {
          asking = after_receiver_answer 0 (answer setting sessions (same_moment arrival e i)) (record (asking_with uid preferred moment id None []) { moment = now i });
          sessions = next setting sessions (same_moment arrival e i);
        }

-- ---- what the answer leaves

-- an answer to so many bytes, and not to all
pub part_taken : (uid : List ℕ) (preferred moment id node known : ℕ) → 1 ≤ known → known < length uid
    → after_allocation 0 false (record { node = node; first_part = false; uid = record { items = take known uid } }) (asking_with uid preferred moment id None [])
    ≡ asking_with uid preferred moment id (Some (follow_up_behind uid preferred moment known)) []
unfolding after_allocation
part_taken uid preferred moment id node known some part = rw (not_all) (rw (size) (rw (nonzero) (rw (same) refl)))
  where
    size : length (take known uid) ≡ known
    size = let e = length-take known uid in omega (arith, e, part)

    not_all : bytes_eq (take known uid) uid ≡ false
    not_all = elim (tell (bytes_eq (take known uid) uid)) [
      | inl z ↦ let e = ap length ((bytes_eq-Decides (take known uid) uid).0 z) in absurd (omega (arith, e, size, part))
      | inr z ↦ z
    ]

    nonzero : nat_eq known 0 ≡ false
    nonzero = elim (eqb_tells known 0) [ inl z ↦ absurd (omega (arith, z.1, some)) | inr z ↦ z.0 ]

    same : bytes_eq (take known uid) (take known uid) ≡ true
    same = (bytes_eq-Decides (take known uid) (take known uid)).1 refl

pub whole_taken : (uid : List ℕ) (preferred moment id node : ℕ) → 1 ≤ node → node ≤ 125
    → after_allocation 0 false (record { node = node; first_part = false; uid = record { items = uid } }) (asking_with uid preferred moment id None [])
    ≡ record (asking_with uid preferred moment id None []) { holds = Some node }
unfolding after_allocation
whole_taken uid preferred moment id node low high =
    rw ((bytes_eq-Decides uid uid).1 refl) (rw (le_is 1 node low) (rw (le_is node 125 high) refl))

-- ---- the frames of a transfer, but for the last, and the last

marked_both : (id number place : ℕ) (part : List Piece) (last_one : Piece)
    → marked id number 0 place (part ++ last_one ∷ []) ≡ marked id number 0 place part ++ marked id number 0 (place + length part) (last_one ∷ [])
marked_both id number place [] last_one = let e : place ≡ place + 0 = omega arith in ap (λ (p : ℕ). marked id number 0 p (last_one ∷ [])) e
marked_both id number place (piece ∷ part) last_one =
    let e : suc place + length part ≡ place + suc (length part) = omega arith in
    ap (λ (l : List Queued). (record { id = id; bytes = frame_bytes piece; mark = record { step = number; re = 0; place = place } }) ∷ l)
    (marked_both id number (suc place) part last_one
    ∙ ap (λ (p : ℕ). marked id number 0 (suc place) part ++ marked id number 0 p (last_one ∷ [])) e)

length_marked : (id number place : ℕ) (part : List Piece) → length (marked id number 0 place part) ≡ length part
length_marked id number place [] = refl
length_marked id number place (piece ∷ part) = ap (λ (k : ℕ). suc k) (length_marked id number (suc place) part)

queued_are : (id : ℕ) (what : Outgoing) (number : ℕ) (part : List Piece) (last_one : Piece) → identifier_number what.ident ≡ id
    → frames_of what.signature what.id what.payload.items ≡ part ++ last_one ∷ []
    → queued_frames what number 0 ≡ marked id number 0 0 part ++ marked id number 0 (0 + length part) (last_one ∷ [])
unfolding queued_frames
queued_are id what number part last_one same all = (λ i. marked (same i) number 0 0 (all i)) ∙ marked_both id number 0 part last_one

-- ---- frame by frame

module _ (laws : HearingLaws) (n a : ℕ) (low : 1 ≤ n) (high : n ≤ 125) (place : is_place a ≡ true) (uid : List ℕ) (preferred moment : ℕ) (number : ℕ) where
  abbrev frames_from : ℕ → List Piece → List Queued
  frames_from at_place pieces_ = marked (identifier_number (its_ident laws n low high)) number 0 at_place pieces_

  abbrev arrivals : ℕ → List Piece → List Arrival
  arrivals at_place pieces_ = arrivals_from laws n low high number moment at_place pieces_

  hears_part : (t : AllocatorState) (frames front rest : List Queued) (w : Cluster) (next_one id at_place : ℕ) (small : id < 32) (pieces_ : List Piece)
      (sessions : List Session) → IsPart id at_place pieces_ → HasOnly (its_key laws n low high) sessions
      → frames ≡ front ++ (frames_from at_place pieces_ ++ rest)
      → At n a t (Some (device_with uid preferred moment next_one None [] sessions)) frames w
      → CanGo w moment moment (length pieces_) (At n a t (Some (device_with uid preferred moment next_one None [] (run setting sessions (arrivals at_place pieces_)))) frames)
  hears_part t frames front rest w next_one id at_place small [] sessions is only cut at =
      stays (At n a t (Some (device_with uid preferred moment next_one None [] sessions)) frames) w moment at
  hears_part t frames front rest w next_one id at_place small (piece ∷ pieces_) sessions is only cut at =
      subst (λ (k : ℕ). CanGo w moment moment k After) (omega arith)
      (and_then Then After w moment moment moment 1 (length pieces_)
      (so (At n a t (Some (step d (w.rows + 1) (device.Rx arrival 0)).device) frames) Then w moment moment 1
      (hears n a place t d frames front (frames_from (suc at_place) pieces_ ++ rest) frame w moment cut
      (judged uid preferred moment next_one sessions arrival refl (fine_none number (answer setting sessions arrival) none)) at)
      (λ v h. subst (λ (e : Device). At n a t (Some e) frames v)
      (stepped uid preferred moment next_one sessions arrival refl (w.rows + 1)
      ∙ ap (λ (x : Asking). record { asking = x; sessions = next setting sessions arrival })
      (none_taken (answer setting sessions arrival) (asking_with uid preferred moment next_one None []) none)) h))
      (λ v h. hears_part t frames (front ++ frame ∷ []) rest v next_one id (suc at_place) small pieces_ (next setting sessions arrival) is.2
      (keeps setting sessions arrival (its_key laws n low high) (own laws n low high number moment at_place piece) only).only
      (cut ∙ sym (append_assoc front (frame ∷ []) (frames_from (suc at_place) pieces_ ++ rest))) h))
    where
      d : Device
      d = device_with uid preferred moment next_one None [] sessions

      frame : Queued
      frame = record { id = identifier_number (its_ident laws n low high); bytes = frame_bytes piece; mark = record { step = number; re = 0; place = at_place } }

      arrival : Arrival
      arrival = arrival_of laws n low high number moment at_place piece

      none : GivesNone (answer setting sessions arrival)
      none = gives_none setting sessions arrival (its_key laws n low high) (own laws n low high number moment at_place piece) only
          (open_part laws n low high number moment id small at_place piece is.1)

      Then : Cluster → Type 0
      Then v = At n a t (Some (device_with uid preferred moment next_one None [] (next setting sessions arrival))) frames v

      After : Cluster → Type 0
      After v = At n a t (Some (device_with uid preferred moment next_one None [] (run setting sessions (arrivals at_place (piece ∷ pieces_))))) frames v

  -- ---- a whole answer

  module _ (id : ℕ) (small : id < 32) (bytes : List ℕ) (node : ℕ) (short : length bytes ≤ 16) (allowed : node < 128) where
    abbrev payload : List ℕ
    payload = allocation_payload node bytes

    abbrev message : Allocation
    message = record { node = node; first_part = false; uid = record { items = bytes } }

    fits : length payload ≤ 100
    fits = omega (arith, short)

    abbrev ends_with : Arrival
    ends_with = last_arrival laws n low high number moment id small payload fits

    abbrev before_it : List Piece
    before_it = part laws n low high number moment id small payload fits

    -- the device when it has taken it, for whatever number of the step
    pub record HasTaken (t : AllocatorState) (frames : List Queued) (next_one : ℕ) (w : Cluster) : Type 0 where
      pub sessions : List Session
      pub awaits : Awaits setting (its_key laws n low high) moment (next_id id) sessions
      pub at : At n a t (Some (record { asking = after_allocation 0 false message (asking_with uid preferred moment next_one None []); sessions = sessions })) frames w

    reads : (allocation_of payload ≡ Some message) → (sessions : List Session) → HasOnly (its_key laws n low high) sessions
        → answer setting sessions ends_with ≡ Gives (record { ident = its_ident laws n low high; id = id; payload = payload; mark = ends_with.mark; whole = true })
        → (t : AllocatorState) (frames front rest : List Queued) (frame : Queued) (w : Cluster) (next_one : ℕ)
        → comes_at frame moment ≡ ends_with → frames ≡ front ++ frame ∷ rest
        → At n a t (Some (device_with uid preferred moment next_one None [] sessions)) frames w → CanGo w moment moment 1 (HasTaken t frames next_one)
    reads says sessions only gives t frames front rest frame w next_one same cut at =
        so (At n a t (Some (step d (w.rows + 1) (device.Rx (comes_at frame moment) 0)).device) frames) (HasTaken t frames next_one) w moment moment 1
        (hears n a place t d frames front rest frame w moment cut
        (subst (λ (x : Arrival). arrival_judgement d x ≡ Fine) (sym same) (judged uid preferred moment next_one sessions ends_with refl fine)) at)
        (λ v h. record {
          sessions = next setting sessions ends_with;
          awaits = subst (λ (k : ℕ). Awaits setting (its_key laws n low high) moment (next_id k) (next setting sessions ends_with))
              (last_arrival_id laws n low high number moment id small payload fits)
              (awaits_next setting sessions ends_with (its_key laws n low high) _ its_own_last only gives);
          at = subst (λ (e : Device). At n a t (Some e) frames v)
              (ap (λ (x : Arrival). (step d (w.rows + 1) (device.Rx x 0)).device) same
              ∙ (stepped uid preferred moment next_one sessions ends_with refl (w.rows + 1)
              ∙ ap (λ (x : Asking). record { asking = x; sessions = next setting sessions ends_with }) taken)) h;
        })
      where
        d : Device
        d = device_with uid preferred moment next_one None [] sessions

        its_own_last : is_of setting (its_key laws n low high) ends_with ≡ true
        its_own_last = own laws n low high number moment (0 + length before_it) (last laws n low high number moment id small payload fits)

        fine : answer_judgement ends_with.mark.step (answer setting sessions ends_with) ≡ Fine
        fine = ap (λ (x : Answer). answer_judgement ends_with.mark.step x) gives

        taken : after_receiver_answer 0 (answer setting sessions ends_with) (asking_with uid preferred moment next_one None [])
            ≡ after_allocation 0 false message (asking_with uid preferred moment next_one None [])
        taken = ap (λ (x : Answer). after_receiver_answer 0 x (asking_with uid preferred moment next_one None [])) gives
            ∙ ap (λ (o : Option Allocation). after_reading 0 false o (asking_with uid preferred moment next_one None [])) says

    -- all its frames, which came to the bus last
    pub takes : (allocation_of payload ≡ Some message) → (t : AllocatorState) (frames front : List Queued) (w : Cluster) (next_one : ℕ) (sessions : List Session)
        → Awaits setting (its_key laws n low high) moment id sessions
        → frames ≡ front ++ queued_frames (outgoing n Alloc 0 id payload) number 0
        → At n a t (Some (device_with uid preferred moment next_one None [] sessions)) frames w
        → CanGo w moment moment (length (queued_frames (outgoing n Alloc 0 id payload) number 0)) (HasTaken t frames next_one)
    takes says t frames front w next_one sessions awaits cut at =
        subst (λ (k : ℕ). CanGo w moment moment k (HasTaken t frames next_one)) count
        (and_then (At n a t (Some (device_with uid preferred moment next_one None [] heard)) frames) (HasTaken t frames next_one) w moment moment moment (length before_it) 1
        (hears_part t frames front (last_frame ∷ []) w next_one id 0 small before_it sessions (parts laws n low high number moment id small payload fits).goes
        awaits.only (cut ∙ ap (λ (l : List Queued). front ++ l) in_two) at)
        (λ v h. reads says heard (only_run setting (its_key laws n low high) (arrivals 0 before_it) sessions (all_own_part 0 before_it) awaits.only)
        (hears_whole laws n low high number moment id small payload fits sessions awaits)
        t frames (front ++ frames_from 0 before_it) [] last_frame v next_one refl
        (cut ∙ (ap (λ (l : List Queued). front ++ l) in_two ∙ sym (append_assoc front (frames_from 0 before_it) (last_frame ∷ [])))) h))
      where
        heard : List Session
        heard = run setting sessions (arrivals 0 before_it)

        last_frame : Queued
        last_frame = record {
          id = identifier_number (its_ident laws n low high);
          bytes = frame_bytes (last laws n low high number moment id small payload fits);
          mark = record { step = number; re = 0; place = 0 + length before_it };
        }

        in_two : queued_frames (outgoing n Alloc 0 id payload) number 0 ≡ frames_from 0 before_it ++ last_frame ∷ []
        in_two = queued_are (identifier_number (its_ident laws n low high)) (outgoing n Alloc 0 id payload) number before_it
            (last laws n low high number moment id small payload fits) refl (parts laws n low high number moment id small payload fits).all

        count : length before_it + 1 ≡ length (queued_frames (outgoing n Alloc 0 id payload) number 0)
        count = let e = ap length in_two in
            let f = length-append (frames_from 0 before_it) (last_frame ∷ []) in
            let g = length_marked (identifier_number (its_ident laws n low high)) number 0 before_it in omega (arith, e, f, g)

        all_own_part : (at_place : ℕ) (pieces_ : List Piece) → AreOfKey setting (its_key laws n low high) (arrivals at_place pieces_)
        all_own_part at_place [] = tt
        all_own_part at_place (piece ∷ pieces_) = (own laws n low high number moment at_place piece, all_own_part (suc at_place) pieces_)
