-- A device asks already, and a leader has settled: what a row of a calm may leave. What is under way goes on as the times say; or
-- the device holds a node ID, the leader's log grows, or the device asks anew and nothing else is under way.
use Rattle.std.proofs.Common.{◌≡◌, ◌⊎◌, ℕ, ◌+◌, ◌*◌, ◌≤◌, false, List, [], ◌∷◌, refl, sym, ap, subst, arith, inl, inr, Option, Some}
use Rattle.alloc_exchange.specs.Exchange.{Accepted, last_moment}
use Rattle.raft_model.specs.Lists.{In}
use Rattle.bus_rows.specs.declared.row.Row.{Row}
use Rattle.transfer_tx.specs.Queue.{Queued}
use Rattle.allocatee.specs.Allocatee.{Device}
use Rattle.allocatee.specs.declared.timer.FollowUp.{FollowUp}
use Rattle.allocatee.specs.declared.timer.Timer.{Timer}
use Rattle.bus_rows.specs.Timed.{Timed}
use Rattle.service_alone.specs.Calm.{HasSettled, queue_at, waits_after}
use Rattle.service_alone.proofs.CalmDevice.{device_as}
use Rattle.service_calm.specs.Calm.{Device as OfDevice, IsCalmRow, IsInTime, Member as OfMember, Traffic, queue_in, reads, traffic_after}
use Rattle.service_calm.specs.Devices.{DeliversTo}
use Rattle.service_device.specs.Dialog.{HearsWhole}
use Rattle.service_device.specs.Settled.{IsNotAsked, IsRecorded}
use Rattle.service_device.proofs.AskingRoad.{AreFew, Road, road_on}
use Rattle.service_device.proofs.AskingTimes.{Times, stale, times_end, times_on}
use Rattle.service_device.proofs.DialogFrames.{HasSource}
use Rattle.service_device.proofs.DialogPhases.{Phase, ahead, its_clock, unread}
use Rattle.service_device.proofs.DialogRows.{Asker, as_it_was, read_on}
use Rattle.service_device.proofs.DialogScene.{Known, Talk}
use Rattle.service_calm.proofs.Pending.{Coming, Made}
use Rattle.service_calm.proofs.Ways.{Flying}
use Rattle.bus_spec.specs.Cluster.{Cluster, after_row}

-- a list of which nothing is in is empty
pub empty_by : {A : Type 0} (l : List A) → ((x : A) → In x l → ⊥) → l ≡ []
empty_by [] none = refl
empty_by (x ∷ l) none = absurd (none x (inl refl))

module _ (g : Talk) (from : ℕ) where
  -- the device asks, and the leader has settled
  pub record IsGoingOn (traffic : Traffic) (w : Cluster) : Type 0 where
    pub accepted : List Accepted
    pub xs : List Made
    pub cs : List Coming
    pub ss : List Coming
    pub road : Road g accepted xs cs ss traffic w
    pub old : (c : Coming) → In c ss → c.at ≤ from
    pub queue : List Queued
    pub request : Timer
    pub follow_up : Option FollowUp
    pub asker : Asker g queue request follow_up traffic w
    pub times : Times g from accepted xs cs queue request follow_up traffic.at (traffic.ticked (OfDevice g.a)) (traffic.waits (OfDevice g.a))

  -- the device holds a node ID
  abbrev pub Holding : Cluster → Type 0
  Holding w = (d : Device) × (w.allocatee g.a ≡ Some d) × (node : ℕ) × (d.asking.holds ≡ Some node)

  -- the leader hears a unique ID whole in this row, and its log grows by it
  abbrev pub Recording : Traffic → Cluster → Timed → Type 0
  Recording traffic w timed = HasSettled g.n g.log (traffic.at + ahead g) w × (uid : List ℕ) × (preferred : ℕ) × (hears : HearsWhole g.n (ahead g) uid preferred w timed)
      × IsRecorded g.n hears.message w timed.row hears.asked

  -- the dialog begins anew, and is timed from a moment
  abbrev pub Anew : Traffic → Cluster → Type 0
  Anew traffic w = (start : ℕ) × (start ≤ from + 1300 + 3 * g.pace.period + 12 * g.pace.delay) × (traffic.at ≤ start + 1000 + g.pace.period)
      × Phase (record g { start = start }) traffic w

  abbrev pub GoesOn : Traffic → Cluster → Timed → Type 0
  GoesOn traffic w timed = IsGoingOn (traffic_after traffic w timed) (after_row w timed.row)
      ⊎ (Holding (after_row w timed.row) ⊎ (Recording traffic w timed ⊎ Anew (traffic_after traffic w timed) (after_row w timed.row)))

  pub short_period : g.pace.period ≤ 100
  short_period = let q = g.quick in omega (arith, q)

  module _ (traffic : Traffic) (w : Cluster) (l : IsGoingOn traffic w) (at_ : ℕ) (in_time : IsInTime g.group g.clocks g.pace traffic w at_) where
    abbrev pub Goal : Row → Type 0
    Goal row = GoesOn traffic w (record { at = at_; row = row })

    abbrev pub then_traffic : Row → Traffic
    then_traffic row = traffic_after traffic w (record { at = at_; row = row })

    abbrev pub Calm : Row → Type 0
    Calm row = IsCalmRow g.group g.clocks g.pace traffic w at_ row

    abbrev pub KnownOf : Row → Type 0
    KnownOf row = Known g traffic.at w (record { at = at_; row = row })

    abbrev pub ticked : ℕ
    ticked = traffic.ticked (OfDevice g.a)

    abbrev pub waits : ℕ
    waits = traffic.waits (OfDevice g.a)

    pub queue_is : queue_in w (OfDevice g.a) ≡ l.queue
    queue_is = ap queue_at l.asker.there

    -- it is not over before this
    pub goes_end : at_ ≤ stale g from + 1800 + 3 * g.pace.period + 12 * g.pace.delay
    goes_end = times_end g from l.accepted l.xs l.cs l.queue l.request l.follow_up traffic.at ticked waits l.times at_ in_time.moments (in_time.ticks (OfDevice g.a) g.in_a) short_period

    abbrev pub TimesThen : List Accepted → List Made → List Coming → List Queued → Timer → Option FollowUp → ℕ → Type 0
    TimesThen accepted xs cs queue request follow_up ticks = Times g from accepted xs cs queue request follow_up at_ ticks (waits_after at_ waits l.queue queue)

    -- it goes on
    pub goes_with : (row : Row) (accepted : List Accepted) (xs : List Made) (cs rs : List Coming) → Road g accepted xs cs rs (then_traffic row) (after_row w row)
        → ((c : Coming) → In c rs → In c l.ss) → (queue : List Queued) (request : Timer) (follow_up : Option FollowUp)
        → Asker g queue request follow_up (then_traffic row) (after_row w row) → (ticks : ℕ) → (then_traffic row).ticked (OfDevice g.a) ≡ ticks
        → TimesThen accepted xs cs queue request follow_up ticks → Goal row
    goes_with row accepted xs cs rs road among queue request follow_up asker ticks same times = inl (record {
      accepted = accepted;
      xs = xs;
      cs = cs;
      ss = rs;
      road = road;
      old = λ c i. l.old c (among c i);
      queue = queue;
      request = request;
      follow_up = follow_up;
      asker = asker;
      times = subst (λ (k : ℕ). Times g from accepted xs cs queue request follow_up at_ k ((then_traffic row).waits (OfDevice g.a))) (sym same)
          (subst (λ (k : ℕ). Times g from accepted xs cs queue request follow_up at_ ticks k)
          (λ i. waits_after at_ waits (sym queue_is i) (queue_at (sym asker.there i))) times);
    })

    -- ---- a row in which the device does nothing, and no request comes to the leader

    pub stays : (row : Row) → Calm row → KnownOf row → AreFew g.n w row → IsNotAsked g.n w row → (cs : List Coming)
        → Flying HasSource g.pace.delay (after_row w row).frames ((then_traffic row).to (OfMember g.n)) cs
        → TimesThen l.accepted l.xs cs l.queue l.request l.follow_up ticked
        → (after_row w row).allocatee g.a ≡ w.allocatee g.a → reads row (OfDevice g.a) ≡ false → ((x : Made) → DeliversTo g.a x.transfer w row → ⊥) → Goal row
    stays row calm known short not_asked cs fly times same quiet none =
        let r = road_on g l.accepted l.xs l.cs l.ss traffic w l.road at_ row in_time calm known short not_asked cs fly in
        elim r.2 [
          | inl on ↦ goes_with row l.accepted l.xs cs r.0 on.0 r.1 l.queue l.request l.follow_up
              (as_it_was g l.queue l.request l.follow_up traffic w l.asker at_ in_time row same) ticked (unread g traffic w at_ row quiet) times
          | inr ends ↦ absurd (none ends.0 ends.3)
        ]

    pub times_same : TimesThen l.accepted l.xs l.cs l.queue l.request l.follow_up ticked
    times_same = times_on g from l.accepted l.xs l.cs l.queue l.request l.follow_up traffic.at ticked waits l.times at_ in_time.moments

    -- its clock goes on
    pub older : l.asker.moment ≤ at_ + its_clock g
    older = read_on g l.queue l.request l.follow_up traffic w l.asker at_ in_time

    pub last_request : last_moment l.accepted ≤ at_ + ahead g
    last_request = let r = l.road.settled.settled.requests in let s = ap last_moment l.road.settled.requests in (let m = in_time.moments in omega (arith, r, s, m))

    abbrev pub here : Device
    here = device_as g.uid g.preferred l.queue l.asker.id l.asker.moment l.request l.follow_up l.asker.sessions
