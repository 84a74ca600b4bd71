-- What a step of a device leaves of its queue and of the transfer ID that comes next, and what it offers that asks.
use Rattle.std.proofs.Common.{◌≡◌, ℕ, ◌+◌, ◌<◌, ◌≤◌, Bool, true, false, List, [], ◌∷◌, ◌++◌, length, length-take, refl, sym, ◌∙◌, ap, subst, arith, inl, inr, Option, None, Some}
use Rattle.std.specs.Prelude.{⊤, ◌⊎◌, ◌&&◌, drop, is_some, nat_eq, nat_le, slice_index_or, take, if◌then◌else◌}
use Rattle.std.specs.Str.{bytes_eq}
use Rattle.std.proofs.lemmas.Bool.Decides.{eqb_tells}
use Rattle.can_frame.specs.declared.step.Sent.{Sent}
use Rattle.can_frame.specs.declared.step.What.TheVariants.{Alloc}
use Rattle.can_frame.specs.Kinds.{is_anonymous}
use Rattle.dsdl_codec.specs.declared.allocation.Allocation.{Allocation}
use Rattle.dsdl_codec.specs.Allocation.{allocation_bytes, allocation_of}
use Rattle.raft_model.specs.Lists.{In, at, at_here, at_other}
use Rattle.bus_rows.specs.declared.row.Row.{Row}
use Rattle.bus_rows.specs.declared.row.Row.TheVariants.{AEnd, AOpen, ARx, ASend, ATick, Crash, Ext, Fault, Open, Rx, Send, Tick}
use Rattle.transfer_rx.specs.Reassembly.{Answer, Continues, Drops, Gives}
use Rattle.transfer_tx.specs.Queue.{Queued, left_behind, next_out, queued_frames}
use Rattle.transfer_tx.specs.Run.{of_identifier}
use Rattle.allocatee.specs.Allocatee.{Device, Event, after_reading, after_receiver_answer, answer_to, opening, step}
use Rattle.allocatee.specs.Allocatee as device
use Rattle.allocatee.specs.Asking.{Asking, after_allocation, after_answer, after_interruption, at_moment, begins_with, clock_phase, due, has_passed, has_room, next_stage, nothing_offered, outgoing, request_bytes, request_offer, with_follow_up, with_node_id, with_queued, with_timer_restarted}
use Rattle.allocatee.specs.declared.timer.FollowUp.{FollowUp}
use Rattle.allocatee.proofs.Steps.{moment_of}
use Rattle.alloc_spec_laws.proofs.Choices.{either, tell}
use Rattle.bus_agreement.proofs.Lists.{in_front}
use Rattle.service_alone.proofs.CalmQueue.{goes_out}
use Rattle.service_calm.specs.Devices.{IsRequestOf}
use Rattle.bus_spec.specs.Allocatees.{after_sending_from, device_after_step}
use Rattle.bus_spec.specs.Cluster.{Cluster, after_row, after_rows, receipt_at}

-- ---- a frame that waits, where the next one goes out

-- the frames of an identifier in a list, the first of which is this one
abbrev its_own : ℕ → Queued → List Queued → Bool → List Queued
its_own id f frames own = if own then f ∷ of_identifier id frames else of_identifier id frames

in_own : (id : ℕ) (frame : Queued) (frames : List Queued) → frame.id ≡ id → In frame frames → In frame (of_identifier id frames)
in_own id frame [] e i = i
in_own id frame (f ∷ frames) e (inl same) = elim (eqb_tells f.id id) [
  | inl z ↦ subst (λ (b : Bool). In frame (its_own id f frames b)) (sym z.0) (inl same)
  | inr z ↦ absurd (z.1 (ap (λ (g : Queued). g.id) (sym same) ∙ e))
]
in_own id frame (f ∷ frames) e (inr i) = elim (eqb_tells f.id id) [
  | inl z ↦ subst (λ (b : Bool). In frame (its_own id f frames b)) (sym z.0) (inr (in_own id frame frames e i))
  | inr z ↦ subst (λ (b : Bool). In frame (its_own id f frames b)) (sym z.0) (in_own id frame frames e i)
]

own_in : (id : ℕ) (frame : Queued) (frames : List Queued) → In frame (of_identifier id frames) → In frame frames
own_in id frame [] i = i
own_in id frame (f ∷ frames) i = elim (tell (nat_eq f.id id)) [
  | inl t ↦ elim (subst (λ (b : Bool). In frame (its_own id f frames b)) t i) [ inl same ↦ inl same | inr j ↦ inr (own_in id frame frames j) ]
  | inr e ↦ inr (own_in id frame frames (subst (λ (b : Bool). In frame (its_own id f frames b)) e i))
]

-- it is the one that goes out, or waits on
pub out_or_left : (queue : List Queued) (frame out : Queued) → next_out queue ≡ Some out → In frame queue → (frame ≡ out) ⊎ In frame (left_behind queue)
out_or_left queue frame out next i =
    own_in frame.id frame (out ∷ left_behind queue)
    (subst (λ (l : List Queued). In frame l) (sym (goes_out frame.id [] queue out next)) (in_own frame.id frame queue refl i))

-- ---- a step of a device

-- the frames that wait stay, the next transfer ID has five bits, and the moment is the same
abbrev pub Keeps : Asking → Asking → Type 0
Keeps before after = ((frame : Queued) → In frame before.queue → In frame after.queue) × (before.id < 32 → after.id < 32) × (after.moment ≡ before.moment)

module _ (word : ℕ) where
  heard_keeps : (anonymous : Bool) (message : Allocation) (a : Asking) → Keeps a (after_allocation word anonymous message a)
  unfolding after_allocation
  heard_keeps anonymous message a =
      either (Keeps a) (is_some a.holds) a
      (if anonymous then after_interruption word a else after_answer word message (after_interruption word a))
      (λ e. (λ frame i. i, λ h. h, refl))
      (λ e. either (Keeps a) anonymous (after_interruption word a) (after_answer word message (after_interruption word a))
      (λ f. (λ frame i. i, λ h. h, refl)) (λ f. answered (after_interruption word a) (λ frame i. i, λ h. h, refl)))
    where
      answered : (b : Asking) → Keeps a b → Keeps a (after_answer word message b)
      answered b kept =
          either (Keeps a) (bytes_eq message.uid.items b.uid) (with_node_id message.node b)
          (if begins_with b.uid message.uid.items then with_follow_up word (length message.uid.items) b else b)
          (λ e. either (Keeps a) (nat_le 1 message.node && nat_le message.node 125) (record b { holds = Some message.node }) b (λ f. kept) (λ f. kept))
          (λ e. either (Keeps a) (begins_with b.uid message.uid.items) (with_follow_up word (length message.uid.items) b) b (λ f. kept) (λ f. kept))

  read_keeps : (anonymous : Bool) (o : Option Allocation) (a : Asking) → Keeps a (after_reading word anonymous o a)
  read_keeps anonymous None a = (λ frame i. i, λ h. h, refl)
  read_keeps anonymous (Some message) a = heard_keeps anonymous message a

  frame_keeps : (answer : Answer) (a : Asking) → Keeps a (after_receiver_answer word answer a)
  frame_keeps (Gives delivery) a = read_keeps (is_anonymous delivery.ident.kind) (allocation_of delivery.payload) a
  frame_keeps Continues a = (λ frame i. i, λ h. h, refl)
  frame_keeps (Drops why) a = (λ frame i. i, λ h. h, refl)

  module _ (number : ℕ) where
    queued_keeps : (payload : List ℕ) (fits : Bool) (a : Asking) → Keeps a (with_queued number word payload fits a)
    queued_keeps payload true a = (λ frame i. in_front frame a.queue (queued_frames (outgoing word a.id payload) number 0) i, λ h. omega arith, refl)
    queued_keeps payload false a = (λ frame i. i, λ h. h, refl)

    offered_keeps : (first : Bool) (part : List ℕ) (a : Asking) → Keeps a (request_offer number word first part a).asking
    offered_keeps first part a = queued_keeps (request_bytes a first part) (has_room a.queue (request_bytes a first part)) a

    asked_keeps : (passed : Bool) (a : Asking)
        → Keeps a (if passed then request_offer number word true (take 6 a.uid) (with_timer_restarted word a) else nothing_offered a).asking
    asked_keeps true a = offered_keeps true (take 6 a.uid) (with_timer_restarted word a)
    asked_keeps false a = (λ frame i. i, λ h. h, refl)

    next_keeps : (known : Option ℕ) (a : Asking) → Keeps a (next_stage number word known a).asking
    next_keeps None a = asked_keeps (has_passed a.moment a.request) a
    next_keeps (Some known) a = offered_keeps false (take 6 (drop known a.uid)) (record a { follow_up = None })

    phase_keeps : (held : Bool) (a : Asking) → Keeps a (if held then nothing_offered a else next_stage number word (due a.moment a.follow_up) a).asking
    phase_keeps true a = (λ frame i. i, λ h. h, refl)
    phase_keeps false a = next_keeps (due a.moment a.follow_up) a

    ticks_keep : (a : Asking) → Keeps a (clock_phase number word a).asking
    unfolding clock_phase
    ticks_keep a = phase_keeps (is_some a.holds) a

-- a step keeps the frames that wait, and its transfer IDs small; its moment is the greatest so far
pub step_keeps : (d : Device) (number : ℕ) (x : Event) → Keeps (at_moment (moment_of x) d.asking) (step d number x).device.asking
unfolding step
step_keeps d number (device.Tick now word) = ticks_keep word number (at_moment now d.asking)
step_keeps d number (device.Rx arrival word) = frame_keeps word (answer_to d arrival) (at_moment arrival.moment d.asking)

-- ---- the transfer IDs of the devices of a world have five bits

abbrev HasSmallId : Option Device → Type 0
HasSmallId None = ⊤
HasSmallId (Some d) = d.asking.id < 32

abbrev pub HaveSmallIds : (ℕ → Option Device) → Type 0
HaveSmallIds devices = (b : ℕ) → HasSmallId (devices b)

small_with : (devices : ℕ → Option Device) (a : ℕ) (o : Option Device) → HaveSmallIds devices → HasSmallId o → HaveSmallIds (at devices a o)
small_with devices a o all here b = elim (eqb_tells b a) [
  | inl z ↦ subst HasSmallId (sym (at_here devices a b o z.1)) here
  | inr z ↦ subst HasSmallId (sym (at_other devices a b o z.1)) (all b)
]

small_step : (number : ℕ) (x : Event) (o : Option Device) → HasSmallId o → HasSmallId (device_after_step number x o)
small_step number x None h = tt
small_step number x (Some d) h = (step_keeps d number x).1 h

small_sent : (o : Option Device) → HasSmallId o → HasSmallId (after_sending_from o)
small_sent None h = tt
small_sent (Some d) h = h

-- a row leaves them small
pub small_row : (w : Cluster) (row : Row) → HaveSmallIds w.allocatee → HaveSmallIds (after_row w row).allocatee
small_row w (Open n told ms word) all = all
small_row w (Tick n ms word) all = all
small_row w (Rx n k ms) all = all
small_row w (Send n) all = all
small_row w (Ext frame) all = all
small_row w (Crash n calls pattern) all = all
small_row w (Fault n call) all = all
small_row w (AOpen a uid pref ms word) all = small_with w.allocatee a (Some (opening uid pref ms word)) all (omega arith)
small_row w (ATick a ms word) all = small_with w.allocatee a _ all (small_step (w.rows + 1) (device.Tick ms word) (w.allocatee a) (all a))
small_row w (ARx a k ms word) all = small_with w.allocatee a _ all (small_step (w.rows + 1) (receipt_at w k ms word) (w.allocatee a) (all a))
small_row w (ASend a) all = small_with w.allocatee a _ all (small_sent (w.allocatee a) (all a))
small_row w (AEnd a) all = small_with w.allocatee a None all tt

-- rows leave them small
pub small_rows : (w : Cluster) (rows : List Row) → HaveSmallIds w.allocatee → HaveSmallIds (after_rows w rows).allocatee
small_rows w [] all = all
small_rows w (row ∷ rows) all = small_rows (after_row w row) rows (small_row w row all)

-- so that of a device that is there is
pub small_there : (devices : ℕ → Option Device) (a : ℕ) (d : Device) → HaveSmallIds devices → devices a ≡ Some d → d.asking.id < 32
small_there devices a d all there = subst HasSmallId there (all a)

-- ---- what a device offers that asks

-- the frames of a request wait behind what waited
pub record Offered (d : Device) (number word : ℕ) (after : Asking) : Type 0 where
  pub message : Allocation
  pub says : IsRequestOf d message
  pub short : length message.uid.items ≤ 6
  pub queue : after.queue ≡ d.asking.queue ++ queued_frames (outgoing word d.asking.id (allocation_bytes message)) number 0

six_at_most : (part : List ℕ) → length (take 6 part) ≤ 6
six_at_most part = let e = length-take 6 part in omega (arith, e)

abbrev is_sent : Bool → List Sent
is_sent fits = record { what = Alloc; to = 0; fitted = fits } ∷ []

fits : (b : Bool) → is_sent b ≡ is_sent true → b ≡ true
fits b e = ap (λ (l : List Sent). (slice_index_or l 0 (record { what = Alloc; to = 0; fitted = b })).fitted) e

-- what the follow-up that is due follows
follows : (now : ℕ) (o : Option FollowUp) (known : ℕ) → due now o ≡ Some known → (follow_up : FollowUp) × (o ≡ Some follow_up) × (known ≡ follow_up.known)
follows now None known e = absurd (cc (e))
follows now (Some follow_up) known e = by (has_passed now follow_up.timer) e
  where
    by : (b : Bool) → (if b then Some follow_up.known else None) ≡ Some known
        → (other : FollowUp) × (Some follow_up ≡ Some other) × (known ≡ other.known)
    by true e = (follow_up, refl, cc (e))
    by false e = absurd (cc (e))

module _ (d : Device) (number word now : ℕ) where
  abbrev a : Asking
  a = at_moment now d.asking

  queue_is : (b : Asking) (payload : List ℕ) (room : Bool) → room ≡ true → (with_queued number word payload room b).queue ≡ b.queue ++ queued_frames (outgoing word b.id payload) number 0
  queue_is b payload room is = ap (λ (x : Bool). (with_queued number word payload x b).queue) is

  first_asks : (passed : Bool)
      → (if passed then request_offer number word true (take 6 a.uid) (with_timer_restarted word a) else nothing_offered a).sent ≡ is_sent true
      → Offered d number word (if passed then request_offer number word true (take 6 a.uid) (with_timer_restarted word a) else nothing_offered a).asking
  first_asks true e = record {
    message = record { node = d.asking.preferred; first_part = true; uid = record { items = take 6 d.asking.uid } };
    says = (refl, inl (refl, refl));
    short = six_at_most d.asking.uid;
    queue = queue_is (with_timer_restarted word a) (request_bytes a true (take 6 a.uid)) (has_room a.queue (request_bytes a true (take 6 a.uid)))
        (fits (has_room a.queue (request_bytes a true (take 6 a.uid))) e);
  }
  first_asks false e = absurd (cc (e))

  next_asks : (known : Option ℕ) → due a.moment a.follow_up ≡ known → (next_stage number word known a).sent ≡ is_sent true
      → Offered d number word (next_stage number word known a).asking
  next_asks None is e = first_asks (has_passed a.moment a.request) e
  next_asks (Some known) is e = record {
    message = record { node = d.asking.preferred; first_part = false; uid = record { items = take 6 (drop known d.asking.uid) } };
    says =
        let f = follows a.moment a.follow_up known is in
        (refl, inr (f.0, f.1, refl, ap (λ (k : ℕ). take 6 (drop k d.asking.uid)) f.2));
    short = six_at_most (drop known d.asking.uid);
    queue = queue_is (record a { follow_up = None }) (request_bytes a false (take 6 (drop known a.uid))) (has_room a.queue (request_bytes a false (take 6 (drop known a.uid))))
        (fits (has_room a.queue (request_bytes a false (take 6 (drop known a.uid)))) e);
  }

  phase_asks : (held : Bool) → (if held then nothing_offered a else next_stage number word (due a.moment a.follow_up) a).sent ≡ is_sent true
      → Offered d number word (if held then nothing_offered a else next_stage number word (due a.moment a.follow_up) a).asking
  phase_asks true e = absurd (cc (e))
  phase_asks false e = next_asks (due a.moment a.follow_up) refl e

  tick_asks : (clock_phase number word a).sent ≡ is_sent true → Offered d number word (clock_phase number word a).asking
  unfolding clock_phase
  tick_asks e = phase_asks (is_some a.holds) e

  -- a tick that offers one puts its frames into the queue
  pub asks : (step d number (device.Tick now word)).sent ≡ is_sent true → Offered d number word (step d number (device.Tick now word)).device.asking
  unfolding step
  asks e = tick_asks e
