-- A device that tells its unique ID part by part goes on so in each step, where what it hears has as many bytes as a member
-- tells.
use Rattle.std.proofs.Common.{◌≡◌, ◌⊎◌, ℕ, ◌≤◌, Bool, true, false, List, [], length, take, drop, refl, sym, ◌∙◌, ap, subst, arith, inl, inr, Option, None, Some}
use Rattle.std.specs.Prelude.{◌&&◌, is_some, nat_eq, nat_le, not, if◌then◌else◌}
use Rattle.std.proofs.lemmas.List.{length-take, take_at}
use Rattle.std.proofs.lemmas.Slice.Eq.{bytes_eq-Decides}
use Rattle.std.specs.Str.{bytes_eq}
use Rattle.alloc_exchange.specs.Exchange.{IsEndOfStage}
use Rattle.allocatee.specs.declared.timer.FollowUp.{FollowUp}
use Rattle.can_frame.specs.Kinds.{is_anonymous}
use Rattle.dsdl_codec.specs.declared.allocation.Allocation.{Allocation}
use Rattle.dsdl_codec.specs.Allocation.{allocation_of}
use Rattle.raft_model.specs.Lists.{In}
use Rattle.transfer_rx.specs.Reassembly.{Answer, Continues, Delivery, Drops, Gives}
use Rattle.transfer_tx.specs.Queue.{Queued, queued_frames}
use Rattle.allocatee.specs.Allocatee.{Device, Event, after_reading, after_receiver_answer, answer_to, step}
use Rattle.allocatee.specs.Allocatee as device
use Rattle.allocatee.specs.Asking.{Asking, after_allocation, after_answer, after_interruption, at_moment, begins_with, clock_phase, due, has_passed, has_room, next_stage, nothing_offered, outgoing, request_bytes, request_offer, with_follow_up, with_node_id, with_queued, with_timer_restarted}
use Rattle.alloc_spec_laws.proofs.Choices.{and_right, either}
use Rattle.bus_agreement.proofs.Lists.{in_append}
use Rattle.service_steps.specs.Devices.{RequestsAreRequests, comes_at}
use Rattle.service_steps.specs.Requests.{IsRequest}
use Rattle.service_device.specs.Requests.{DevicesThatComeTell, IsRequestFor, TellsPart, TellsParts}
use Rattle.service_device.proofs.RequestsTell.{at_end}

-- what holds of the follow-up that waits holds of the one that is due
due_is : (Holds : ℕ → Type 0) (now : ℕ) (o : Option FollowUp) → ((follow_up : FollowUp) → o ≡ Some follow_up → Holds follow_up.known) → (known : ℕ) → due now o ≡ Some known → Holds known
due_is Holds now None f known e = absurd (cc (e))
due_is Holds now (Some follow_up) f known e = by (has_passed now follow_up.timer) e
  where
    one : (x y : ℕ) → ◌≡◌ {A = Option ℕ} (Some x) (Some y) → x ≡ y
    one x y e = cc (e)

    by : (b : Bool) → (if b then Some follow_up.known else None) ≡ Some known → Holds known
    by true e = subst Holds (one follow_up.known known e) (f follow_up refl)
    by false e = absurd (cc (e))

-- one that has just come tells parts
pub comes_telling : DevicesThatComeTell
comes_telling uid preferred now word few = record {
  its_uid = refl;
  small = few;
  id = omega arith;
  follows = λ follow_up e. absurd (cc (e));
  waits = λ frame i. absurd i;
}

-- an Allocation that comes of a source has as many bytes as a member tells
abbrev pub IsSized : Answer → Type 0
IsSized answer = (delivery : Delivery) (message : Allocation) → answer ≡ Gives delivery → is_anonymous delivery.ident.kind ≡ false → allocation_of delivery.payload ≡ Some message
    → IsEndOfStage (length message.uid.items)

module _ (requests : RequestsAreRequests) (uid : List ℕ) (whole : length uid ≡ 16) where
  abbrev Tells : Asking → Type 0
  Tells a = TellsParts uid a

  six_at_most : (part : List ℕ) → length (take 6 part) ≤ 6
  six_at_most part = let e = length-take 6 part in omega (arith, e)

  -- ---- what it offers

  module _ (number word : ℕ) where
    module _ (first : Bool) (part : List ℕ) (a : Asking) (h : TellsParts uid a)
        (tells : TellsPart uid (record { node = a.preferred; first_part = first; uid = record { items = part } })) (short : length part ≤ 6) where
      abbrev said : Allocation
      said = record { node = a.preferred; first_part = first; uid = record { items = part } }

      new : (frame : Queued) → In frame (queued_frames (outgoing word a.id (request_bytes a first part)) number 0) → IsRequestFor uid frame
      new frame i moment =
          let r = requests word a.id number moment said h.id h.small short in
          let same : frame ≡ r.0 = elim (subst (λ (l : List Queued). In frame l) r.1 i) [ inl e ↦ e | inr none ↦ absurd none ] in
          (said, subst (λ (f : Queued). IsRequest (comes_at f moment) said) (sym same) r.2, tells)

      queued : (fits : Bool) → Tells (with_queued number word (request_bytes a first part) fits a)
      queued true = record {
        its_uid = h.its_uid;
        small = h.small;
        id = omega arith;
        follows = h.follows;
        waits = λ frame i. elim (in_append frame a.queue (queued_frames (outgoing word a.id (request_bytes a first part)) number 0) i) [
          | inl old ↦ h.waits frame old
          | inr j ↦ new frame j
        ];
      }
      queued false = h

      offers : Tells (request_offer number word first part a).asking
      offers = queued (has_room a.queue (request_bytes a first part))

    first_ticks : (passed : Bool) (a : Asking) → Tells a
        → Tells (if passed then request_offer number word true (take 6 a.uid) (with_timer_restarted word a) else nothing_offered a).asking
    first_ticks true a h = offers true (take 6 a.uid) (with_timer_restarted word a) (record { its_uid = h.its_uid; small = h.small; id = h.id; follows = h.follows; waits = h.waits })
        (inl (refl, ap (λ (l : List ℕ). take 6 l) h.its_uid)) (six_at_most a.uid)
    first_ticks false a h = h

    next_ticks : (known : Option ℕ) (a : Asking) → due a.moment a.follow_up ≡ known → Tells a → Tells (next_stage number word known a).asking
    next_ticks None a e h = first_ticks (has_passed a.moment a.request) a h
    next_ticks (Some known) a e h = offers false (take 6 (drop known a.uid)) (record a { follow_up = None })
        (record { its_uid = h.its_uid; small = h.small; id = h.id; follows = λ follow_up f. absurd (cc (f)); waits = h.waits })
        (inr (known, due_is (λ (k : ℕ). (k ≡ 6) ⊎ (k ≡ 12)) a.moment a.follow_up h.follows known e, refl, ap (λ (l : List ℕ). take 6 (drop known l)) h.its_uid))
        (six_at_most (drop known a.uid))

    phase_ticks : (held : Bool) (a : Asking) → Tells a → Tells (if held then nothing_offered a else next_stage number word (due a.moment a.follow_up) a).asking
    phase_ticks true a h = h
    phase_ticks false a h = next_ticks (due a.moment a.follow_up) a refl h

    ticks : (a : Asking) → Tells a → Tells (clock_phase number word a).asking
    unfolding clock_phase
    ticks a h = phase_ticks (is_some a.holds) a h

  -- ---- what it hears

  interrupted : (word : ℕ) (a : Asking) → Tells a → Tells (after_interruption word a)
  interrupted word a h = record { its_uid = h.its_uid; small = h.small; id = h.id; follows = λ follow_up e. absurd (cc (e)); waits = h.waits }

  one_known : (x y : FollowUp) → ◌≡◌ {A = Option FollowUp} (Some x) (Some y) → x.known ≡ y.known
  one_known x y e = ap (λ (o : Option ℕ). by o) (ap (λ (o : Option FollowUp). known_in o) e)
    where
      known_in : Option FollowUp → Option ℕ
      known_in None = None
      known_in (Some f) = Some f.known

      by : Option ℕ → ℕ
      by None = 0
      by (Some k) = k

  module _ (word : ℕ) (message : Allocation) (sized : IsEndOfStage (length message.uid.items)) where
    -- a part that is all of it is the unique ID
    all_of_it : (own : List ℕ) → own ≡ uid → length message.uid.items ≡ 16 → begins_with own message.uid.items ≡ true → bytes_eq message.uid.items own ≡ true
    all_of_it own is size e =
        let front : message.uid.items ≡ take (length message.uid.items) own
        = (bytes_eq-Decides message.uid.items (take (length message.uid.items) own)).0
        (and_right (not (nat_eq (length message.uid.items) 0)) (bytes_eq message.uid.items (take (length message.uid.items) own)) e) in
        let long : length own ≡ length message.uid.items = ap length is ∙ (whole ∙ sym size) in
        (bytes_eq-Decides message.uid.items own).1
        (front ∙ (ap (λ (l : List ℕ). take (length message.uid.items) l) (sym (at_end own)) ∙ take_at own [] (length message.uid.items) long))

    answered : (a : Asking) → Tells a → Tells (after_answer word message a)
    answered a h = either Tells (bytes_eq message.uid.items a.uid) (with_node_id message.node a)
        (if begins_with a.uid message.uid.items then with_follow_up word (length message.uid.items) a else a)
        (λ e. either Tells (nat_le 1 message.node && nat_le message.node 125) (record a { holds = Some message.node }) a
        (λ f. record { its_uid = h.its_uid; small = h.small; id = h.id; follows = h.follows; waits = h.waits }) (λ f. h))
        (λ e. either Tells (begins_with a.uid message.uid.items) (with_follow_up word (length message.uid.items) a) a
        (λ f. record {
          its_uid = h.its_uid;
          small = h.small;
          id = h.id;
          follows = λ follow_up g. elim sized [
            | inl (inl six) ↦ inl (sym (one_known (record { timer = _; known = length message.uid.items }) follow_up g) ∙ six)
            | inl (inr twelve) ↦ inr (sym (one_known (record { timer = _; known = length message.uid.items }) follow_up g) ∙ twelve)
            | inr all ↦ absurd (cc (e, all_of_it a.uid h.its_uid all f))
          ];
          waits = h.waits;
        }) (λ f. h))

  heard : (word : ℕ) (anonymous : Bool) (message : Allocation) (a : Asking) → (anonymous ≡ false → IsEndOfStage (length message.uid.items)) → Tells a
      → Tells (after_allocation word anonymous message a)
  unfolding after_allocation
  heard word anonymous message a sized h =
      either Tells (is_some a.holds) a (if anonymous then after_interruption word a else after_answer word message (after_interruption word a))
      (λ e. h)
      (λ e. either Tells anonymous (after_interruption word a) (after_answer word message (after_interruption word a))
      (λ f. interrupted word a h) (λ f. answered word message (sized f) (after_interruption word a) (interrupted word a h)))

  -- ---- a step of it

  read : (word : ℕ) (anonymous : Bool) (o : Option Allocation) (a : Asking) → ((message : Allocation) → anonymous ≡ false → o ≡ Some message → IsEndOfStage (length message.uid.items))
      → Tells a → Tells (after_reading word anonymous o a)
  read word anonymous None a sized h = h
  read word anonymous (Some message) a sized h = heard word anonymous message a (λ e. sized message e refl) h

  received : (word : ℕ) (answer : Answer) (a : Asking) → IsSized answer → Tells a → Tells (after_receiver_answer word answer a)
  received word (Gives delivery) a sized h = read word (is_anonymous delivery.ident.kind) (allocation_of delivery.payload) a (λ message e says. sized delivery message refl e says) h
  received word Continues a sized h = h
  received word (Drops why) a sized h = h

  later : (now : ℕ) (a : Asking) → Tells a → Tells (at_moment now a)
  later now a h = record { its_uid = h.its_uid; small = h.small; id = h.id; follows = h.follows; waits = h.waits }

  pub tells_on : (d : Device) (number : ℕ) (event : Event) → ((arrival : _) (word : ℕ) → event ≡ device.Rx arrival word → IsSized (answer_to d arrival)) → Tells d.asking
      → Tells (step d number event).device.asking
  unfolding step
  tells_on d number (device.Tick now word) sized h = ticks number word (at_moment now d.asking) (later now d.asking h)
  tells_on d number (device.Rx arrival word) sized h =
      received word (answer_to d arrival) (at_moment arrival.moment d.asking) (sized arrival word refl) (later arrival.moment d.asking h)
