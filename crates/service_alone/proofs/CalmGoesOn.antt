-- Calm rows can always go on, to any later moment.
use Rattle.std.proofs.Common.{◌≡◌, ◌≢◌, ℕ, zero, suc, ◌+◌, ◌<◌, ◌≤◌, Bool, true, false, List, [], ◌∷◌, ◌++◌, length, length-append, length-drop, length-take, take, drop, inl, inr, refl, sym, ◌∙◌, ap, subst, arith, Option, None, Some}
use Rattle.std.specs.Prelude.{◌&&◌, find, is_some, nat_le, remove, if◌then◌else◌}
use Rattle.std.specs.Str.{bytes_eq}
use Rattle.std.specs.List.{list_all, position_or_len}
use Rattle.std.proofs.lemmas.Bool.Decides.{leb_tells}
use Rattle.dsdl_codec.specs.declared.allocation.Allocation.{Allocation}
use Rattle.dsdl_codec.specs.Allocation.{allocation_of}
use Rattle.bus_rows.specs.declared.row.Row.{Row}
use Rattle.bus_rows.specs.declared.row.Row.TheVariants.{AEnd, AOpen, ARx, ASend, ATick, Crash, Ext, Fault, Open, Rx, Send, Tick}
use Rattle.can_frame.specs.Kinds.{is_anonymous}
use Rattle.transfer_rx.specs.Reassembly.{Answer, Continues, Drops, Gives}
use Rattle.transfer_tx.specs.Queue.{Queued, is_least, left_behind, next_out}
use Rattle.allocatee.specs.Allocatee.{Device, after_reading, after_receiver_answer, answer_to, step}
use Rattle.allocatee.specs.Asking.{Asking, after_allocation, after_answer, after_interruption, at_moment, begins_with, with_follow_up, with_node_id}
use Rattle.allocatee.proofs.Requests.{le_is}
use Rattle.alloc_spec_laws.proofs.Choices.{either, tell}
use Rattle.bus_rows.specs.Timed.{Timed}
use Rattle.service_alone.specs.Calm.{AreCalm, Clocks, IsCalmRow, IsInTime, IsNext, NoneIsLate, OnItsWay, Pace, Traffic, end_of, no_traffic, queue_at, queue_of, ticked_after, to_allocator_after, to_device_after, traffic_after, waits_after}
use Rattle.service_alone.proofs.Asking.{its_own}
use Rattle.service_alone.proofs.Scenes.{own_is}
use Rattle.bus_spec.specs.Allocatees.{after_sending_from, device_after_step, next_from}
use Rattle.bus_spec.specs.Cluster.{Cluster, after_row, arrival_at, frame_at, receipt_at}
use Rattle.bus_spec.specs.Members.{Member, MemberStatus, after_sending, next_frame}
use Rattle.bus_spec.specs.Members.MemberStatus.{Down, Failed, Up}

-- ---- a queue in which frames wait has a next frame, and one less behind it

-- a frame with the least identifier, and where it stands
record Least (frames : List Queued) : Type 0 where
  frame : Queued
  least : list_all (λ (other : Queued). nat_le frame.id other.id) frames ≡ true
  inside : (p : Queued → Bool) → p frame ≡ true → position_or_len p frames < length frames

all_more : (low id : ℕ) (frames : List Queued) → low ≤ id → list_all (λ (other : Queued). nat_le id other.id) frames ≡ true
    → list_all (λ (other : Queued). nat_le low other.id) frames ≡ true
all_more low id [] less all = refl
all_more low id (f ∷ frames) less all = elim (leb_tells id f.id) [
  | inl z ↦ rw (le_is low f.id (omega (arith, less, z.1))) (all_more low id frames less (let y : nat_le id f.id ≡ true = z.0 in rw y at all))
  | inr z ↦ let y : nat_le id f.id ≡ false = z.0 in let e : false ≡ true = rw y at all in absurd (cc (e))
]

found_there : (p : Queued → Bool) (f : Queued) (frames : List Queued) → p f ≡ true → position_or_len p (f ∷ frames) < length (f ∷ frames)
found_there p f frames e = rw (e) (omega arith)

found_behind : (p : Queued → Bool) (f : Queued) (frames : List Queued) → position_or_len p frames < length frames → position_or_len p (f ∷ frames) < length (f ∷ frames)
found_behind p f frames h = elim (tell (p f)) [
  | inl z ↦ found_there p f frames z
  | inr z ↦ rw (z) (omega (arith, h))
]

least : (f : Queued) (frames : List Queued) → Least (f ∷ frames)
least f [] = record { frame = f; least = rw (le_is f.id f.id (omega arith)) refl; inside = λ p e. found_there p f [] e }
least f (g ∷ frames) = choose (least g frames)
  where
    choose : Least (g ∷ frames) → Least (f ∷ g ∷ frames)
    choose l = elim (leb_tells f.id l.frame.id) [
      | inl z ↦ record {
        frame = f;
        least = rw (le_is f.id f.id (omega arith)) (all_more f.id l.frame.id (g ∷ frames) z.1 l.least);
        inside = λ p e. found_there p f (g ∷ frames) e;
      }
      | inr z ↦ record {
        frame = l.frame;
        least = rw (le_is l.frame.id f.id (omega (arith, z.1))) l.least;
        inside = λ p e. found_behind p f (g ∷ frames) (l.inside p e);
      }
    ]

find_some : (p : Queued → Bool) (frames : List Queued) → position_or_len p frames < length frames → is_some (find p frames) ≡ true
find_some p [] h = absurd (omega (arith, h))
find_some p (f ∷ frames) h = elim (tell (p f)) [
  | inl z ↦ rw (z) refl
  | inr z ↦ rw (z) (find_some p frames (let y : p f ≡ false = z in let k : position_or_len p (f ∷ frames) ≡ suc (position_or_len p frames) = rw (y) (omega arith) in omega (arith, h, k)))
]

-- where frames wait, one goes out next
pub some_next : (frames : List Queued) → frames ≢ [] → is_some (next_out frames) ≡ true
unfolding next_out
some_next [] some = absurd (some refl)
some_next (f ∷ frames) some = let l = least f frames in find_some (is_least (f ∷ frames)) (f ∷ frames) (l.inside (is_least (f ∷ frames)) l.least)

one_less : (frames : List Queued) (k : ℕ) → k < length frames → suc (length (remove frames k)) ≡ length frames
one_less frames k h =
    let a = length-append (take k frames) (drop (suc k) frames) in let b = length-take k frames in let c = length-drop (suc k) frames in omega (arith, a, b, c, h)

-- and one less is left behind
pub one_less_left : (frames : List Queued) → frames ≢ [] → suc (length (left_behind frames)) ≡ length frames
unfolding left_behind
one_less_left [] some = absurd (some refl)
one_less_left (f ∷ frames) some =
    let l = least f frames in one_less (f ∷ frames) (position_or_len (is_least (f ∷ frames)) (f ∷ frames)) (l.inside (is_least (f ∷ frames)) l.least)

-- ---- of a member and of a device

pub member_next : (status : MemberStatus) → queue_of status ≢ [] → is_some (next_frame status) ≡ true
member_next Down some = absurd (some refl)
member_next (Up t) some = some_next t.queue some
member_next (Failed failure) some = absurd (some refl)

pub member_less : (status : MemberStatus) → queue_of status ≢ [] → suc (length (queue_of (after_sending status))) ≡ length (queue_of status)
member_less Down some = absurd (some refl)
member_less (Up t) some = one_less_left t.queue some
member_less (Failed failure) some = absurd (some refl)

pub device_next : (x : Option Device) → queue_at x ≢ [] → is_some (next_from x) ≡ true
device_next None some = absurd (some refl)
device_next (Some d) some = some_next d.asking.queue some

pub device_less : (x : Option Device) → queue_at x ≢ [] → suc (length (queue_at (after_sending_from x))) ≡ length (queue_at x)
device_less None some = absurd (some refl)
device_less (Some d) some = one_less_left d.asking.queue some

-- a device that receives offers nothing

same_queue : (word : ℕ) (anonymous : Bool) (message : Allocation) (x : Asking) → (after_allocation word anonymous message x).queue ≡ x.queue
unfolding after_allocation
same_queue word anonymous message x =
    either Same (is_some x.holds) x (if anonymous then after_interruption word x else after_answer word message then_x) (λ e. refl)
    (λ e. either Same anonymous (after_interruption word x) (after_answer word message then_x) (λ f. refl)
    (λ f. either Same (bytes_eq message.uid.items then_x.uid) (with_node_id message.node then_x)
    (if begins_with then_x.uid message.uid.items then with_follow_up word (length message.uid.items) then_x else then_x)
    (λ g. either Same (nat_le 1 message.node && nat_le message.node 125) (record then_x { holds = Some message.node }) then_x (λ h. refl) (λ h. refl))
    (λ g. either Same (begins_with then_x.uid message.uid.items) (with_follow_up word (length message.uid.items) then_x) then_x (λ h. refl) (λ h. refl))))
  where
    then_x : Asking
    then_x = after_interruption word x

    Same : Asking → Type 0
    Same y = y.queue ≡ x.queue

after_read : (word : ℕ) (anonymous : Bool) (o : Option Allocation) (x : Asking) → (after_reading word anonymous o x).queue ≡ x.queue
after_read word anonymous None x = refl
after_read word anonymous (Some message) x = same_queue word anonymous message x

after_heard : (word : ℕ) (answer : Answer) (x : Asking) → (after_receiver_answer word answer x).queue ≡ x.queue
after_heard word (Gives d) x = after_read word (is_anonymous d.ident.kind) (allocation_of d.payload) x
after_heard word Continues x = refl
after_heard word (Drops why) x = refl

receipt_keeps : (row : ℕ) (w : Cluster) (k moment word : ℕ) (x : Option Device) → queue_at (device_after_step row (receipt_at w k moment word) x) ≡ queue_at x
unfolding step
receipt_keeps row w k moment word None = refl
receipt_keeps row w k moment word (Some d) = after_heard word (answer_to d (arrival_at (frame_at w.frames k) moment)) (at_moment moment d.asking)

-- frames do not wait too long behind a row that came in time
pub waits_fine : (delay at since : ℕ) (before then_ : List Queued) → (before ≢ [] → at ≤ since + delay) → then_ ≢ [] → at ≤ waits_after at since before then_ + delay
waits_fine delay at since [] then_ h some = omega arith
waits_fine delay at since (f ∷ fs) [] h some = absurd (some refl)
waits_fine delay at since (f ∷ fs) (g ∷ gs) h some = h (λ e. let l = ap length e in absurd (omega (arith, l)))

-- ---- rows go on

module _ (n a : ℕ) (clocks : Clocks) (pace : Pace) where
  -- at the moment of the last row no time is exceeded
  abbrev pub Fine : Traffic → Cluster → Type 0
  Fine traffic w = IsInTime n a clocks pace traffic w traffic.at

  late_drop : (at : ℕ) (ways : List OnItsWay) → NoneIsLate at pace.delay ways → NoneIsLate at pace.delay (drop 1 ways)
  late_drop at [] h = tt
  late_drop at (way ∷ ways) h = h.1

  late_more : (at : ℕ) (ways : List OnItsWay) (number : ℕ) → NoneIsLate at pace.delay ways → NoneIsLate at pace.delay (ways ++ (record { number = number; since = at }) ∷ [])
  late_more at [] number h = (omega arith, tt)
  late_more at (way ∷ ways) number h = (h.0, late_more at ways number h.1)

  ticks_fine : (at ticked : ℕ) (row : Row) → at ≤ ticked + pace.period → at ≤ ticked_after at ticked row + pace.period
  ticks_fine at ticked (ATick b ms word) h = omega arith
  ticks_fine at ticked (Open m told ms word) h = h
  ticks_fine at ticked (Tick m ms word) h = h
  ticks_fine at ticked (Rx m k ms) h = h
  ticks_fine at ticked (Send m) h = h
  ticks_fine at ticked (Ext frame) h = h
  ticks_fine at ticked (Crash m calls pattern) h = h
  ticks_fine at ticked (Fault m call) h = h
  ticks_fine at ticked (AOpen b u pref ms word) h = h
  ticks_fine at ticked (ARx b k ms word) h = h
  ticks_fine at ticked (ASend b) h = h
  ticks_fine at ticked (AEnd b) h = h

  device_fine : (at : ℕ) (w : Cluster) (row : Row) (ways : List OnItsWay) → NoneIsLate at pace.delay ways → NoneIsLate at pace.delay (to_device_after at w row ways)
  device_fine at w (ATick b ms word) ways h = h
  device_fine at w (Open m told ms word) ways h = h
  device_fine at w (Tick m ms word) ways h = h
  device_fine at w (Rx m k ms) ways h = h
  device_fine at w (Send m) ways h = late_more at ways (length w.frames + 1) h
  device_fine at w (Ext frame) ways h = h
  device_fine at w (Crash m calls pattern) ways h = h
  device_fine at w (Fault m call) ways h = h
  device_fine at w (AOpen b u pref ms word) ways h = h
  device_fine at w (ARx b k ms word) ways h = late_drop at ways h
  device_fine at w (ASend b) ways h = h
  device_fine at w (AEnd b) ways h = h

  allocator_fine : (at : ℕ) (w : Cluster) (row : Row) (ways : List OnItsWay) → NoneIsLate at pace.delay ways → NoneIsLate at pace.delay (to_allocator_after at w row ways)
  allocator_fine at w (ATick b ms word) ways h = h
  allocator_fine at w (Open m told ms word) ways h = h
  allocator_fine at w (Tick m ms word) ways h = h
  allocator_fine at w (Rx m k ms) ways h = late_drop at ways h
  allocator_fine at w (Send m) ways h = h
  allocator_fine at w (Ext frame) ways h = h
  allocator_fine at w (Crash m calls pattern) ways h = h
  allocator_fine at w (Fault m call) ways h = h
  allocator_fine at w (AOpen b u pref ms word) ways h = h
  allocator_fine at w (ARx b k ms word) ways h = h
  allocator_fine at w (ASend b) ways h = late_more at ways (length w.frames + 1) h
  allocator_fine at w (AEnd b) ways h = h

  -- a row that comes in time leaves no time exceeded
  pub fine_after : (traffic : Traffic) (w : Cluster) (timed : Timed) → IsInTime n a clocks pace traffic w timed.at → Fine (traffic_after n a traffic w timed) (after_row w timed.row)
  fine_after traffic w timed h = record {
    moments = omega arith;
    ticks = ticks_fine timed.at traffic.ticked timed.row h.ticks;
    allocator_sends = waits_fine pace.delay timed.at traffic.allocator_waits (queue_of (w.member n).status) (queue_of ((after_row w timed.row).member n).status) h.allocator_sends;
    device_sends = waits_fine pace.delay timed.at traffic.device_waits (queue_at (w.allocatee a)) (queue_at ((after_row w timed.row).allocatee a)) h.device_sends;
    allocator_hears = allocator_fine timed.at w timed.row traffic.to_allocator h.allocator_hears;
    device_hears = device_fine timed.at w timed.row traffic.to_device h.device_hears;
  }

  -- rows lead to a moment
  pub record Reaches (last : ℕ) (traffic : Traffic) (w : Cluster) : Type 0 where
    pub more : List Timed
    pub calm : AreCalm n a clocks pace traffic w more
    pub by : last ≤ end_of traffic.at more

  behind : (last : ℕ) (traffic : Traffic) (w : Cluster) (at : ℕ) (row : Row) → IsInTime n a clocks pace traffic w at → IsCalmRow n a clocks pace traffic w at row
      → Reaches last (traffic_after n a traffic w (record { at = at; row = row })) (after_row w row) → Reaches last traffic w
  behind last traffic w at row time calm r = record { more = (record { at = at; row = row }) ∷ r.more; calm = (time, calm, r.calm); by = r.by }

  -- all that is under way arrives at one moment
  module _ (last moment : ℕ) where
    abbrev Then : (Traffic → Cluster → Type 0) → Type 0
    Then P = (traffic : Traffic) (w : Cluster) → Fine traffic w → traffic.at ≡ moment → traffic.ticked ≡ moment → P traffic w → Reaches last traffic w

    abbrev DeviceQuiet : Traffic → Cluster → Type 0
    DeviceQuiet traffic w = queue_at (w.allocatee a) ≡ []

    abbrev WayQuiet : Traffic → Cluster → Type 0
    WayQuiet traffic w = DeviceQuiet traffic w × (traffic.to_allocator ≡ [])

    abbrev QueueQuiet : Traffic → Cluster → Type 0
    QueueQuiet traffic w = WayQuiet traffic w × (queue_of (w.member n).status ≡ [])

    abbrev AllQuiet : Traffic → Cluster → Type 0
    AllQuiet traffic w = QueueQuiet traffic w × (traffic.to_device ≡ [])

    device_out : Then DeviceQuiet → (count : ℕ) (traffic : Traffic) (w : Cluster) → Fine traffic w → traffic.at ≡ moment → traffic.ticked ≡ moment
        → length (queue_at (w.allocatee a)) ≡ count → Reaches last traffic w
    device_out then_ zero traffic w fine now ticked size = then_ traffic w fine now ticked (none (queue_at (w.allocatee a)) size)
      where
        none : (l : List Queued) → length l ≡ 0 → l ≡ []
        none [] e = refl
        none (x ∷ l) e = absurd (omega (arith, e))
    device_out then_ (suc count) traffic w fine now ticked size =
        let some = λ (e : queue_at (w.allocatee a) ≡ []). (let l = ap length e in absurd (omega (arith, l, size))) in
        behind last traffic w traffic.at (ASend a) fine (refl, device_next (w.allocatee a) some)
        (device_out then_ count (traffic_after n a traffic w (record { at = traffic.at; row = ASend a })) (after_row w (ASend a))
        (fine_after traffic w (record { at = traffic.at; row = ASend a }) fine) now ticked
        (let e = ap (λ (x : Option Device). length (queue_at x)) (its_own w a (after_sending_from (w.allocatee a))) in
        let f = device_less (w.allocatee a) some in omega (arith, e, f, size)))

    way_out : Then WayQuiet → (ways : List OnItsWay) (traffic : Traffic) (w : Cluster) → Fine traffic w → traffic.at ≡ moment → traffic.ticked ≡ moment
        → DeviceQuiet traffic w → traffic.to_allocator ≡ ways → Reaches last traffic w
    way_out then_ [] traffic w fine now ticked quiet is = then_ traffic w fine now ticked (quiet, is)
    way_out then_ (way ∷ ways) traffic w fine now ticked quiet is =
        let row : Row = Rx n way.number (traffic.at + clocks.allocator) in
        behind last traffic w traffic.at row fine (refl, refl, subst (λ (l : List OnItsWay). IsNext way.number l) (sym is) refl)
        (way_out then_ ways (traffic_after n a traffic w (record { at = traffic.at; row = row })) (after_row w row)
        (fine_after traffic w (record { at = traffic.at; row = row }) fine) now ticked quiet (ap (λ (l : List OnItsWay). drop 1 l) is))

    queue_out : Then QueueQuiet → (count : ℕ) (traffic : Traffic) (w : Cluster) → Fine traffic w → traffic.at ≡ moment → traffic.ticked ≡ moment
        → WayQuiet traffic w → length (queue_of (w.member n).status) ≡ count → Reaches last traffic w
    queue_out then_ zero traffic w fine now ticked quiet size = then_ traffic w fine now ticked (quiet, none (queue_of (w.member n).status) size)
      where
        none : (l : List Queued) → length l ≡ 0 → l ≡ []
        none [] e = refl
        none (x ∷ l) e = absurd (omega (arith, e))
    queue_out then_ (suc count) traffic w fine now ticked quiet size =
        let some = λ (e : queue_of (w.member n).status ≡ []). (let l = ap length e in absurd (omega (arith, l, size))) in
        behind last traffic w traffic.at (Send n) fine (refl, member_next (w.member n).status some)
        (queue_out then_ count (traffic_after n a traffic w (record { at = traffic.at; row = Send n })) (after_row w (Send n))
        (fine_after traffic w (record { at = traffic.at; row = Send n }) fine) now ticked quiet
        (let e = ap (λ (x : Member). length (queue_of x.status)) (own_is w n (record (w.member n) { status = after_sending (w.member n).status })) in
        let f = member_less (w.member n).status some in omega (arith, e, f, size)))

    bus_out : Then AllQuiet → (ways : List OnItsWay) (traffic : Traffic) (w : Cluster) → Fine traffic w → traffic.at ≡ moment → traffic.ticked ≡ moment
        → QueueQuiet traffic w → traffic.to_device ≡ ways → Reaches last traffic w
    bus_out then_ [] traffic w fine now ticked quiet is = then_ traffic w fine now ticked (quiet, is)
    bus_out then_ (way ∷ ways) traffic w fine now ticked quiet is =
        let row : Row = ARx a way.number (traffic.at + clocks.device) 0 in
        behind last traffic w traffic.at row fine (refl, refl, subst (λ (l : List OnItsWay). IsNext way.number l) (sym is) refl)
        (bus_out then_ ways (traffic_after n a traffic w (record { at = traffic.at; row = row })) (after_row w row)
        (fine_after traffic w (record { at = traffic.at; row = row }) fine) now ticked (
          (
            ap queue_at (its_own w a (device_after_step (w.rows + 1) (receipt_at w way.number (traffic.at + clocks.device) 0) (w.allocatee a)))
                ∙ (receipt_keeps (w.rows + 1) w way.number (traffic.at + clocks.device) 0 (w.allocatee a) ∙ quiet.0.0),
            quiet.0.1,
          ),
          quiet.1,
        )
        (ap (λ (l : List OnItsWay). drop 1 l) is))

    -- from any such world, rows at one moment lead to one in which nothing is under way
    pub arrives : Then AllQuiet → (traffic : Traffic) (w : Cluster) → Fine traffic w → traffic.at ≡ moment → traffic.ticked ≡ moment → Reaches last traffic w
    arrives then_ traffic w fine now ticked =
        device_out (λ t1 w1 f1 n1 k1 q1. way_out (λ t2 w2 f2 n2 k2 q2. queue_out (λ t3 w3 f3 n3 k3 q3. bus_out then_ t3.to_device t3 w3 f3 n3 k3 q3 refl)
        (length (queue_of (w2.member n).status)) t2 w2 f2 n2 k2 q2 refl) t1.to_allocator t1 w1 f1 n1 k1 q1 refl)
        (length (queue_at (w.allocatee a))) traffic w fine now ticked refl

  -- the device reads its clock, all arrives, and it reads its clock again a millisecond later
  pub goes_far : 1 ≤ pace.period → (more : ℕ) (traffic : Traffic) (w : Cluster) → Fine traffic w → Reaches (traffic.at + more) traffic w
  goes_far some zero traffic w fine = record { more = []; calm = tt; by = omega arith }
  goes_far some (suc more) traffic w fine =
      let row : Row = ATick a (traffic.at + clocks.device) 0 in
      behind (traffic.at + suc more) traffic w traffic.at row fine (refl, refl)
      (arrives (traffic.at + suc more) traffic.at
      (λ t v f now ticked quiet.
      let next : Row = ATick a (traffic.at + 1 + clocks.device) 0 in
      let time : IsInTime n a clocks pace t v (traffic.at + 1) = record {
        moments = omega (arith, now);
        ticks = omega (arith, ticked, some);
        allocator_sends = λ waits. absurd (waits quiet.0.1);
        device_sends = λ waits. absurd (waits quiet.0.0.0);
        allocator_hears = subst (NoneIsLate (traffic.at + 1) pace.delay) (sym quiet.0.0.1) tt;
        device_hears = subst (NoneIsLate (traffic.at + 1) pace.delay) (sym quiet.1) tt;
      } in
      behind (traffic.at + suc more) t v (traffic.at + 1) next time (refl, refl)
      (subst (λ (k : ℕ). Reaches k (traffic_after n a t v (record { at = traffic.at + 1; row = next })) (after_row v next)) (omega arith)
      (goes_far some more (traffic_after n a t v (record { at = traffic.at + 1; row = next })) (after_row v next)
      (fine_after t v (record { at = traffic.at + 1; row = next }) time))))
      (traffic_after n a traffic w (record { at = traffic.at; row = row })) (after_row w row) (fine_after traffic w (record { at = traffic.at; row = row }) fine) refl refl)

  -- behind any calm rows
  pub goes_on : 1 ≤ pace.period → (more : ℕ) (traffic : Traffic) (w : Cluster) (whole : List Timed) → Fine traffic w → AreCalm n a clocks pace traffic w whole
      → (rest : List Timed) × AreCalm n a clocks pace traffic w (whole ++ rest) × (end_of traffic.at whole + more ≤ end_of traffic.at (whole ++ rest))
  goes_on some more traffic w [] fine calm = let r = goes_far some more traffic w fine in (r.more, r.calm, r.by)
  goes_on some more traffic w (timed ∷ whole) fine calm =
      let r = goes_on some more (traffic_after n a traffic w timed) (after_row w timed.row) whole (fine_after traffic w timed calm.0) calm.2 in
      (r.0, (calm.0, calm.1, r.1), r.2)

  -- when the device comes, no time is exceeded
  pub fine_at_first : (start : ℕ) (w : Cluster) → Fine (no_traffic start) w
  fine_at_first start w = record {
    moments = omega arith;
    ticks = omega arith;
    allocator_sends = λ some. omega arith;
    device_sends = λ some. omega arith;
    allocator_hears = tt;
    device_hears = tt;
  }
