-- What a device that asks does at a tick and at a frame, whatever waits in its queue; and how its timers stand.
use Rattle.std.proofs.Common.{◌≡◌, ◌⊎◌, ℕ, ◌+◌, ◌-◌, ◌<◌, ◌≤◌, Bool, true, false, List, [], ◌∷◌, ◌++◌, length, take, drop, max, refl, sym, ◌∙◌, ap, subst, arith, inl, inr, Option, None, Some}
use Rattle.std.specs.Prelude.{⊤, ◌%◌, ◌&&◌, is_some, nat_le, if◌then◌else◌}
use Rattle.std.specs.Str.{bytes_eq}
use Rattle.std.proofs.lemmas.Bool.Decides.{eqb_tells}
use Rattle.std.proofs.lemmas.Option.{none-some}
use Rattle.can_frame.specs.Kinds.{is_anonymous}
use Rattle.dsdl_codec.specs.declared.allocation.Allocation.{Allocation}
use Rattle.dsdl_codec.specs.Allocation.{allocation_bytes, allocation_of}
use Rattle.raft_model.specs.Lists.{at, at_here, at_other}
use Rattle.bus_rows.specs.declared.row.Row.{Row}
use Rattle.bus_rows.specs.declared.row.Row.TheVariants.{AEnd, AOpen, ARx, ASend, ATick, Crash, Ext, Fault, Open, Rx, Send, Tick}
use Rattle.transfer_rx.specs.Reassembly.{Answer, Continues, Delivery, Drops, Gives}
use Rattle.transfer_rx.specs.Sessions.{Session}
use Rattle.transfer_tx.specs.Queue.{Queued}
use Rattle.allocatee.specs.Allocatee.{Device, Event, after_reading, after_receiver_answer, answer_to, opening, step}
use Rattle.allocatee.specs.Allocatee as device
use Rattle.allocatee.specs.Asking.{Asking, after_allocation, after_answer, after_interruption, at_moment, begins_with, clock_phase, due, follow_up_wait, has_passed, has_room, next_stage, nothing_offered, request_bytes, request_offer, request_wait, timer_from, with_follow_up, with_node_id, with_queued, with_timer_restarted}
use Rattle.allocatee.specs.declared.timer.FollowUp.{FollowUp}
use Rattle.allocatee.specs.declared.timer.Timer.{Timer}
use Rattle.allocatee.proofs.Requests.{le_from, lt_from}
use Rattle.allocatee.proofs.Steps.{effect}
use Rattle.alloc_spec_laws.proofs.Choices.{either, tell}
use Rattle.service_alone.proofs.CalmDevice.{asked, asking_as, device_as, request_frames}
use Rattle.bus_spec.specs.Allocatees.{after_sending_from, device_after_step}
use Rattle.bus_spec.specs.Cluster.{Cluster, after_row, after_rows, receipt_at}

-- ---- how the timers stand

-- The request timer runs 600 to 1,000 ms, from a moment that has come. A follow-up that waits began with it, and waits
-- 400 at most.
pub record AreWound (a : Asking) : Type 0 where
  pub since : a.request.since ≤ a.moment
  pub least : 600 ≤ a.request.length
  pub most : a.request.length ≤ 1000
  pub behind : (f : FollowUp) → a.follow_up ≡ Some f → (f.timer.since ≡ a.request.since) × (f.timer.length ≤ 400)

pub not_due : (now : ℕ) (f : FollowUp) → due now (Some f) ≡ None → now - f.timer.since < f.timer.length
not_due now f e = lt_from f.timer.length (now - f.timer.since) (by (has_passed now f.timer) e)
  where
    by : (b : Bool) → (if b then Some f.known else None) ≡ None → b ≡ false
    by true e = absurd (none-some f.known (sym e))
    by false e = refl

wound_step : (d : Device) (number : ℕ) (event : Event) → AreWound d.asking → AreWound (step d number event).device.asking
wound_step d number event h = elim (effect d number event) [
  | inl z ↦ subst AreWound (sym z.same) (record { since = let s = h.since in omega (arith, s); least = h.least; most = h.most; behind = h.behind })
  | inr y ↦ elim y [
    | inl z ↦ record {
      since = let s = z.since in let m = z.moment in omega (arith, s, m);
      least = z.least;
      most = z.most;
      behind = λ f e. let b = z.follow f e in (b.0 ∙ sym z.since, b.1);
    }
    | inr x ↦ elim x [
      | inl z ↦
          let since = ap (λ (t : Timer). t.since) z.offer.request in let long = ap (λ (t : Timer). t.length) z.offer.request in let m = z.offer.moment in record {
            since = omega (arith, since, m);
            least = omega (arith, long);
            most = omega (arith, long);
            behind = λ f e.
                let b = h.behind f (sym z.offer.follow_up ∙ e) in
                let early = not_due _ f (ap (due _) (sym (sym z.offer.follow_up ∙ e)) ∙ z.none) in
                let passed = le_from _ _ z.passed in let l = h.least in let s = b.0 in let k = b.1 in absurd (omega (arith, early, passed, l, s, k));
          }
      | inr z ↦
          let since = ap (λ (t : Timer). t.since) z.offer.request in let long = ap (λ (t : Timer). t.length) z.offer.request in let m = z.offer.moment in
          let s = h.since in let l = h.least in let k = h.most in record {
            since = omega (arith, since, m, s);
            least = omega (arith, long, l);
            most = omega (arith, long, k);
            behind = λ f e. absurd (none-some f (sym z.offer.follow_up ∙ e));
          }
    ]
  ]
]

-- so stand those of each device of a world
abbrev IsWound : Option Device → Type 0
IsWound None = ⊤
IsWound (Some d) = AreWound d.asking

abbrev pub AllWound : (ℕ → Option Device) → Type 0
AllWound devices = (b : ℕ) → IsWound (devices b)

wound_with : (devices : ℕ → Option Device) (a : ℕ) (o : Option Device) → AllWound devices → IsWound o → AllWound (at devices a o)
wound_with devices a o all here b = elim (eqb_tells b a) [
  | inl z ↦ subst IsWound (sym (at_here devices a b o z.1)) here
  | inr z ↦ subst IsWound (sym (at_other devices a b o z.1)) (all b)
]

wound_stepped : (number : ℕ) (x : Event) (o : Option Device) → IsWound o → IsWound (device_after_step number x o)
wound_stepped number x None h = tt
wound_stepped number x (Some d) h = wound_step d number x h

wound_sent : (o : Option Device) → IsWound o → IsWound (after_sending_from o)
wound_sent None h = tt
wound_sent (Some d) h = record { since = h.since; least = h.least; most = h.most; behind = h.behind }

wound_opened : (uid : List ℕ) (preferred now word : ℕ) → AreWound (opening uid preferred now word).asking
wound_opened uid preferred now word = record { since = omega arith; least = omega arith; most = omega arith; behind = λ f e. absurd (none-some f e) }

wound_row : (w : Cluster) (row : Row) → AllWound w.allocatee → AllWound (after_row w row).allocatee
wound_row w (Open n told ms word) all = all
wound_row w (Tick n ms word) all = all
wound_row w (Rx n k ms) all = all
wound_row w (Send n) all = all
wound_row w (Ext frame) all = all
wound_row w (Crash n calls pattern) all = all
wound_row w (Fault n call) all = all
wound_row w (AOpen a uid pref ms word) all = wound_with w.allocatee a (Some (opening uid pref ms word)) all (wound_opened uid pref ms word)
wound_row w (ATick a ms word) all = wound_with w.allocatee a _ all (wound_stepped (w.rows + 1) (device.Tick ms word) (w.allocatee a) (all a))
wound_row w (ARx a k ms word) all = wound_with w.allocatee a _ all (wound_stepped (w.rows + 1) (receipt_at w k ms word) (w.allocatee a) (all a))
wound_row w (ASend a) all = wound_with w.allocatee a _ all (wound_sent (w.allocatee a) (all a))
wound_row w (AEnd a) all = wound_with w.allocatee a None all tt

-- rows leave them so
pub wound_rows : (w : Cluster) (rows : List Row) → AllWound w.allocatee → AllWound (after_rows w rows).allocatee
wound_rows w [] all = all
wound_rows w (row ∷ rows) all = wound_rows (after_row w row) rows (wound_row w row all)

pub wound_there : (devices : ℕ → Option Device) (a : ℕ) (d : Device) → AllWound devices → devices a ≡ Some d → AreWound d.asking
wound_there devices a d all there = subst IsWound there (all a)

-- ---- its unique ID, and what it prefers

abbrev IsSame : Asking → Asking → Type 0
IsSame a b = (b.uid ≡ a.uid) × (b.preferred ≡ a.preferred)

module _ (word : ℕ) where
  heard_same : (anonymous : Bool) (message : Allocation) (a : Asking) → IsSame a (after_allocation word anonymous message a)
  unfolding after_allocation
  heard_same anonymous message a =
      either (IsSame a) (is_some a.holds) a (if anonymous then after_interruption word a else after_answer word message (after_interruption word a)) (λ e. (refl, refl))
      (λ e. either (IsSame a) anonymous (after_interruption word a) (after_answer word message (after_interruption word a)) (λ f. (refl, refl))
      (λ f. answered_same (after_interruption word a) (refl, refl)))
    where
      answered_same : (b : Asking) → IsSame a b → IsSame a (after_answer word message b)
      answered_same b same =
          either (IsSame a) (bytes_eq message.uid.items b.uid) (with_node_id message.node b)
          (if begins_with b.uid message.uid.items then with_follow_up word (length message.uid.items) b else b)
          (λ e. either (IsSame a) (nat_le 1 message.node && nat_le message.node 125) (record b { holds = Some message.node }) b (λ f. same) (λ f. same))
          (λ e. either (IsSame a) (begins_with b.uid message.uid.items) (with_follow_up word (length message.uid.items) b) b (λ f. same) (λ f. same))

  read_same : (anonymous : Bool) (o : Option Allocation) (a : Asking) → IsSame a (after_reading word anonymous o a)
  read_same anonymous None a = (refl, refl)
  read_same anonymous (Some message) a = heard_same anonymous message a

  frame_same : (x : Answer) (a : Asking) → IsSame a (after_receiver_answer word x a)
  frame_same (Gives d) a = read_same (is_anonymous d.ident.kind) (allocation_of d.payload) a
  frame_same Continues a = (refl, refl)
  frame_same (Drops why) a = (refl, refl)

  module _ (number : ℕ) where
    queued_same : (payload : List ℕ) (fits : Bool) (a : Asking) → IsSame a (with_queued number word payload fits a)
    queued_same payload true a = (refl, refl)
    queued_same payload false a = (refl, refl)

    offered_same : (first : Bool) (part : List ℕ) (a : Asking) → IsSame a (request_offer number word first part a).asking
    offered_same first part a = queued_same (request_bytes a first part) (has_room a.queue (request_bytes a first part)) a

    asked_same : (passed : Bool) (a : Asking)
        → IsSame a (if passed then request_offer number word true (take 6 a.uid) (with_timer_restarted word a) else nothing_offered a).asking
    asked_same true a = offered_same true (take 6 a.uid) (with_timer_restarted word a)
    asked_same false a = (refl, refl)

    next_same : (known : Option ℕ) (a : Asking) → IsSame a (next_stage number word known a).asking
    next_same None a = asked_same (has_passed a.moment a.request) a
    next_same (Some known) a = offered_same false (take 6 (drop known a.uid)) (record a { follow_up = None })

    phase_same : (held : Bool) (a : Asking) → IsSame a (if held then nothing_offered a else next_stage number word (due a.moment a.follow_up) a).asking
    phase_same true a = (refl, refl)
    phase_same false a = next_same (due a.moment a.follow_up) a

    ticks_same : (a : Asking) → IsSame a (clock_phase number word a).asking
    unfolding clock_phase
    ticks_same a = phase_same (is_some a.holds) a

-- a step leaves them
pub same_device : (d : Device) (number : ℕ) (event : Event) → ((step d number event).device.asking.uid ≡ d.asking.uid)
    × ((step d number event).device.asking.preferred ≡ d.asking.preferred)
unfolding step
same_device d number (device.Tick now word) = ticks_same word number (at_moment now d.asking)
same_device d number (device.Rx arrival word) = frame_same word (answer_to d arrival) (at_moment arrival.moment d.asking)

-- ---- it holds no node ID, and waits for what these timers say

module _ (uid : List ℕ) (preferred : ℕ) where
  -- a device is such a one, by what it has
  pub as_device : (d : Device) → d.asking.uid ≡ uid → d.asking.preferred ≡ preferred → d.asking.holds ≡ None
      → d ≡ device_as uid preferred d.asking.queue d.asking.id d.asking.moment d.asking.request d.asking.follow_up d.sessions
  as_device d its_uid prefers none = λ i. record {
    asking = record {
      uid = its_uid i;
      preferred = prefers i;
      queue = d.asking.queue;
      id = d.asking.id;
      moment = d.asking.moment;
      request = d.asking.request;
      follow_up = d.asking.follow_up;
      holds = none i;
    };
    sessions = d.sessions;
  }

  -- ---- a tick

  module _ (queue : List Queued) (id moment now : ℕ) (later : moment ≤ now) (request : Timer) (follow_up : Option FollowUp) (sessions : List Session) (number word : ℕ) where
    abbrev pub Then : Device → Type 0
    Then d = (step (device_as uid preferred queue id moment request follow_up sessions) number (device.Tick now word)).device ≡ d

    -- a request is in its queue, or the queue had no room for it
    abbrev pub Asked : Bool → List ℕ → Timer → Option FollowUp → Type 0
    Asked first part r f = Then (device_as uid preferred (queue ++ request_frames uid preferred number word id first part) ((id + 1) % 32) now r f sessions)
        ⊎ Then (device_as uid preferred queue id now r f sessions)

    -- nothing is due, or the first request, or a follow-up
    abbrev pub Ticks : Type 0
    Ticks = ((due now follow_up ≡ None) × (has_passed now request ≡ false) × Then (device_as uid preferred queue id now request follow_up sessions))
        ⊎ (((due now follow_up ≡ None) × (has_passed now request ≡ true) × Asked true (take 6 uid) (timer_from now (request_wait word)) follow_up)
        ⊎ ((known : ℕ) × (due now follow_up ≡ Some known) × Asked false (take 6 (drop known uid)) request None))

    now_is : max moment now ≡ now
    now_is = omega (arith, later)

    quiet : due now follow_up ≡ None → has_passed now request ≡ false → Then (device_as uid preferred queue id now request follow_up sessions)
    unfolding step clock_phase
    quiet none early = rw (now_is) (rw (none) (rw (early) refl))

    first_fits : due now follow_up ≡ None → has_passed now request ≡ true → has_room queue (allocation_bytes (asked uid preferred true (take 6 uid))) ≡ true
        → Then (device_as uid preferred (queue ++ request_frames uid preferred number word id true (take 6 uid)) ((id + 1) % 32) now (timer_from now (request_wait word)) follow_up sessions)
    unfolding step clock_phase
    first_fits none passed room = rw (now_is) (rw (none) (rw (passed) (rw (room) refl)))

    first_not : due now follow_up ≡ None → has_passed now request ≡ true → has_room queue (allocation_bytes (asked uid preferred true (take 6 uid))) ≡ false
        → Then (device_as uid preferred queue id now (timer_from now (request_wait word)) follow_up sessions)
    unfolding step clock_phase
    first_not none passed room = rw (now_is) (rw (none) (rw (passed) (rw (room) refl)))

    on_fits : (known : ℕ) → due now follow_up ≡ Some known → has_room queue (allocation_bytes (asked uid preferred false (take 6 (drop known uid)))) ≡ true
        → Then (device_as uid preferred (queue ++ request_frames uid preferred number word id false (take 6 (drop known uid))) ((id + 1) % 32) now request None sessions)
    unfolding step clock_phase
    on_fits known is room = rw (now_is) (rw (is) (rw (room) refl))

    on_not : (known : ℕ) → due now follow_up ≡ Some known → has_room queue (allocation_bytes (asked uid preferred false (take 6 (drop known uid)))) ≡ false
        → Then (device_as uid preferred queue id now request None sessions)
    unfolding step clock_phase
    on_not known is room = rw (now_is) (rw (is) (rw (room) refl))

    first : due now follow_up ≡ None → has_passed now request ≡ true → Asked true (take 6 uid) (timer_from now (request_wait word)) follow_up
    first none passed = elim (tell (has_room queue (allocation_bytes (asked uid preferred true (take 6 uid))))) [ inl t ↦ inl (first_fits none passed t) | inr f ↦ inr (first_not none passed f) ]

    on : (known : ℕ) → due now follow_up ≡ Some known → Asked false (take 6 (drop known uid)) request None
    on known is = elim (tell (has_room queue (allocation_bytes (asked uid preferred false (take 6 (drop known uid)))))) [ inl t ↦ inl (on_fits known is t) | inr f ↦ inr (on_not known is f) ]

    pub ticks : Ticks
    ticks = by (due now follow_up) refl
      where
        by : (o : Option ℕ) → due now follow_up ≡ o → Ticks
        by None e = elim (tell (has_passed now request)) [ inl t ↦ inr (inl (e, t, first e t)) | inr f ↦ inl (e, f, quiet e f) ]
        by (Some known) e = inr (inr (known, e, on known e))

  -- ---- what its receiver answers

  module _ (word : ℕ) (queue : List Queued) (id moment : ℕ) (request : Timer) (follow_up : Option FollowUp) where
    abbrev here : Asking
    here = asking_as uid preferred queue id moment request follow_up

    -- an Allocation was taken: it holds a node ID, or its request timer began anew
    abbrev pub Taken : Asking → Type 0
    Taken b = ((node : ℕ) × (b.holds ≡ Some node))
        ⊎ ((f : Option FollowUp) × (b ≡ asking_as uid preferred queue id moment (timer_from moment (request_wait word)) f)
        × ((x : FollowUp) → f ≡ Some x → (x.timer.since ≡ moment) × (x.timer.length ≤ 400)))

    interrupted : Taken (after_interruption word here)
    interrupted = inr (None, refl, λ x e. absurd (none-some x e))

    some_follow_up : (x y : FollowUp) → ◌≡◌ {A = Option FollowUp} (Some x) (Some y) → x ≡ y
    some_follow_up x y e = cc (e)

    answered : (message : Allocation) → Taken (after_answer word message (after_interruption word here))
    answered message =
        let b : Asking = after_interruption word here in
        either Taken (bytes_eq message.uid.items b.uid) (with_node_id message.node b)
        (if begins_with b.uid message.uid.items then with_follow_up word (length message.uid.items) b else b)
        (λ e. either Taken (nat_le 1 message.node && nat_le message.node 125) (record b { holds = Some message.node }) b (λ f. inl (message.node, refl)) (λ f. interrupted))
        (λ e. either Taken (begins_with b.uid message.uid.items) (with_follow_up word (length message.uid.items) b) b
        (λ f. inr (
          Some (record { timer = timer_from moment (follow_up_wait word); known = length message.uid.items }),
          refl,
          λ x same.
              let k = ap (λ (y : FollowUp). y.timer.since) (some_follow_up _ x same) in
              let l = ap (λ (y : FollowUp). y.timer.length) (some_follow_up _ x same) in (sym k, omega (arith, l)),
        ))
        (λ f. interrupted))

    -- an Allocation is taken
    pub takes : (anonymous : Bool) (message : Allocation) → Taken (after_allocation word anonymous message here)
    unfolding after_allocation
    takes true message = interrupted
    takes false message = answered message

    -- nothing is taken, or an Allocation is
    abbrev pub Hears : Answer → Type 0
    Hears x = ((after_receiver_answer word x here ≡ here)
        × ((d : Delivery) (message : Allocation) → x ≡ Gives d → allocation_of d.payload ≡ Some message → ⊥))
        ⊎ Taken (after_receiver_answer word x here)

    pub hears : (x : Answer) → Hears x
    hears (Gives d) = by (allocation_of d.payload) refl
      where
        by : (o : Option Allocation) → allocation_of d.payload ≡ o → Hears (Gives d)
        by None e = inl (
          ap (λ (o : Option Allocation). after_reading word (is_anonymous d.ident.kind) o here) e,
          λ other message same says. absurd (none-some message (sym e ∙ (ap (λ (y : Delivery). allocation_of y.payload) (one d other same) ∙ says))),
        )
          where
            one : (y z : Delivery) → Gives y ≡ Gives z → y ≡ z
            one y z same = cc (same)
        by (Some message) e = inr (subst (λ (o : Option Allocation). Taken (after_reading word (is_anonymous d.ident.kind) o here)) (sym e) (takes (is_anonymous d.ident.kind) message))
    hears Continues = inl (refl, λ d message e says. cc (e))
    hears (Drops why) = inl (refl, λ d message e says. cc (e))
