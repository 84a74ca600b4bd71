-- A device that asks already reads its clock: nothing is due, or a follow-up, or a first request, behind which the dialog begins anew.
use Rattle.std.proofs.Common.{◌≡◌, ℕ, ◌+◌, ◌*◌, ◌-◌, ◌<◌, ◌≤◌, Bool, true, false, List, [], ◌∷◌, ◌++◌, take, drop, refl, sym, ◌∙◌, ap, subst, arith, inl, inr, Option, None, Some}
use Rattle.std.specs.Prelude.{◌%◌, if◌then◌else◌}
use Rattle.alloc_exchange.specs.Exchange.{last_moment}
use Rattle.raft_model.specs.Lists.{In}
use Rattle.bus_rows.specs.declared.row.Row.{Row}
use Rattle.bus_rows.specs.declared.row.Row.TheVariants.{ATick}
use Rattle.transfer_tx.specs.Queue.{Queued}
use Rattle.allocatee.specs.Allocatee.{Device, step}
use Rattle.allocatee.specs.Allocatee as device
use Rattle.allocatee.specs.Asking.{due as is_due, has_passed, request_wait, timer_from}
use Rattle.allocatee.specs.declared.timer.FollowUp.{FollowUp}
use Rattle.allocatee.specs.declared.timer.Timer.{Timer}
use Rattle.alloc_spec_laws.proofs.Choices.{lt_tells}
use Rattle.service_steps.specs.Devices.{comes_at}
use Rattle.service_steps.specs.Requests.{IsRequest}
use Rattle.service_alone.specs.Calm.{waits_after}
use Rattle.service_alone.proofs.CalmDevice.{asked, asks_first, device_as, request_frames, six_at_most}
use Rattle.service_alone.proofs.CalmStages.{device_steps, right_at_first}
use Rattle.service_calm.specs.Calm.{Device as OfDevice, IsCalmRow, IsInTime, Member as OfMember, Traffic, queue_in, traffic_after}
use Rattle.service_device.proofs.AskingDevice as own
use Rattle.service_device.proofs.AskingRoad.{AreFew, Road, as_scene, road_late, road_on}
use Rattle.service_device.proofs.AskingTimes.{IsNoFirst, Times, forgotten, moment, moment_by, moment_near, moment_past, none_made, none_queued, none_sent, none_waits, stale, times_first, times_follow, times_full, times_not, times_quiet}
use Rattle.service_device.proofs.DialogAsked.{frames_on}
use Rattle.service_device.proofs.DialogFrames.{HasSource, IsBearable}
use Rattle.service_device.proofs.DialogPhases.{ahead, its_clock}
use Rattle.service_device.proofs.DialogRows.{AskerThen, asker_with}
use Rattle.service_device.proofs.DialogScene.{Known, Talk, yes_number}
use Rattle.service_calm.proofs.Pending.{Coming, Made}
use Rattle.service_calm.proofs.Ways.{flying_late}
use Rattle.bus_spec.specs.Cluster.{Cluster, after_row}
use Rattle.service_device.proofs.AskingGoes.{GoesOn, IsGoingOn, empty_by, goes_with, last_request, older, queue_is, short_period}

module _ (g : Talk) (from : ℕ)
    (traffic : Traffic) (w : Cluster) (l : IsGoingOn g from traffic w) (at_ : ℕ) (in_time : IsInTime g.group g.clocks g.pace traffic w at_) where
  abbrev Goal : Row → Type 0
  Goal row = GoesOn g from traffic w (record { at = at_; row = row })

  abbrev then_traffic : Row → Traffic
  then_traffic row = traffic_after traffic w (record { at = at_; row = row })

  abbrev Calm : Row → Type 0
  Calm row = IsCalmRow g.group g.clocks g.pace traffic w at_ row

  abbrev KnownOf : Row → Type 0
  KnownOf row = Known g traffic.at w (record { at = at_; row = row })

  abbrev ticked : ℕ
  ticked = traffic.ticked (OfDevice g.a)

  abbrev waits : ℕ
  waits = traffic.waits (OfDevice g.a)

  abbrev here_ : Device
  here_ = device_as g.uid g.preferred l.queue l.asker.id l.asker.moment l.request l.follow_up l.asker.sessions

  module _ (word : ℕ) (calm : Calm (ATick g.a (at_ + its_clock g) word)) (known : KnownOf (ATick g.a (at_ + its_clock g) word)) (short : AreFew g.n w (ATick g.a (at_ + its_clock g) word)) where
    abbrev row : Row
    row = ATick g.a (at_ + its_clock g) word

    ticked_is : (then_traffic (ATick g.a (at_ + its_clock g) word)).ticked (OfDevice g.a) ≡ at_
    ticked_is = ap (λ (b : Bool). if b then at_ else ticked) (yes_number g traffic w l.road.well at_ g.a g.a refl)

    road_then : (rs : List Coming) × ((c : Coming) → In c rs → In c l.ss)
        × Road g l.accepted l.xs l.cs rs (then_traffic (ATick g.a (at_ + its_clock g) word)) (after_row w (ATick g.a (at_ + its_clock g) word))
    road_then = elim (frames_on g l.cs traffic w l.road.well l.road.requests at_ (ATick g.a (at_ + its_clock g) word) calm (λ e. cc (e))) [
      | inl out ↦
          let r = road_on g l.accepted l.xs l.cs l.ss traffic w l.road at_ (ATick g.a (at_ + its_clock g) word) in_time calm known short out.0 l.cs out.1 in
          elim r.2 [ inl on ↦ (r.0, r.1, on.0) | inr ends ↦ absurd (cc (ends.3.comes)) ]
      | inr no_one ↦ absurd (cc (no_one.2))
    ]

    asker_then : (queue : List Queued) (request : Timer) (follow_up : Option FollowUp) (id : ℕ) → id < 32
        → (after_row w (ATick g.a (at_ + its_clock g) word)).allocatee g.a
        ≡ Some (device_as g.uid g.preferred queue id (at_ + its_clock g) request follow_up l.asker.sessions)
        → AskerThen g l.queue l.request l.follow_up traffic w l.asker at_ in_time (ATick g.a (at_ + its_clock g) word) queue request follow_up
    asker_then queue request follow_up id small there = asker_with g l.queue l.request l.follow_up traffic w l.asker at_ in_time (ATick g.a (at_ + its_clock g) word)
        queue request follow_up id (at_ + its_clock g) l.asker.sessions there small (omega arith)

    -- the device then
    there_then : (d : Device) → (step here_ (w.rows + 1) (device.Tick (at_ + its_clock g) word)).device ≡ d
        → (after_row w (ATick g.a (at_ + its_clock g) word)).allocatee g.a ≡ Some d
    there_then d is = device_steps w g.a (device.Tick (at_ + its_clock g) word) here_ d l.asker.there is

    goes_by : (queue : List Queued) (request : Timer) (follow_up : Option FollowUp) (id : ℕ) → id < 32
        → (after_row w (ATick g.a (at_ + its_clock g) word)).allocatee g.a
        ≡ Some (device_as g.uid g.preferred queue id (at_ + its_clock g) request follow_up l.asker.sessions)
        → Times g from l.accepted l.xs l.cs queue request follow_up at_ at_ (waits_after at_ waits l.queue queue) → Goal (ATick g.a (at_ + its_clock g) word)
    goes_by queue request follow_up id small there times = goes_with g from traffic w l at_ in_time (ATick g.a (at_ + its_clock g) word) l.accepted l.xs l.cs road_then.0 road_then.2 road_then.1
        queue request follow_up (asker_then queue request follow_up id small there) at_ ticked_is times

    -- the frame of a request
    made : (first : Bool) (part : List ℕ) → (frame : Queued) × (request_frames g.uid g.preferred (w.rows + 1) word l.asker.id first (take 6 part) ≡ frame ∷ [])
        × (first ≡ false → IsNoFirst frame)
    made first part =
        let m = g.below.requests word l.asker.id (w.rows + 1) 0 (asked g.uid g.preferred first (take 6 part)) l.asker.small g.few (six_at_most g.uid g.preferred part) in
        (m.0, m.1, λ none. (asked g.uid g.preferred first (take 6 part), none, m.2))

    -- a follow-up is due
    follows : (x : FollowUp) (known_ : ℕ) → l.follow_up ≡ Some x
        → own.Asked g.uid g.preferred l.queue l.asker.id l.asker.moment (at_ + its_clock g) (older g from traffic w l at_ in_time) l.request l.follow_up l.asker.sessions (w.rows + 1) word false
        (take 6 (drop known_ g.uid)) l.request None → Goal (ATick g.a (at_ + its_clock g) word)
    follows x known_ waits_for (inl fits) =
        let m = made false (drop known_ g.uid) in
        goes_by (l.queue ++ m.0 ∷ []) l.request None ((l.asker.id + 1) % 32) (omega arith)
        (there_then (device_as g.uid g.preferred (l.queue ++ request_frames g.uid g.preferred (w.rows + 1) word l.asker.id false (take 6 (drop known_ g.uid)))
        ((l.asker.id + 1) % 32) (at_ + its_clock g) l.request None l.asker.sessions) fits
        ∙ ap (λ (q : List Queued). Some (device_as g.uid g.preferred (l.queue ++ q) ((l.asker.id + 1) % 32) (at_ + its_clock g) l.request None l.asker.sessions)) m.1)
        (times_follow g from l.accepted l.xs l.cs l.queue l.request l.follow_up traffic.at ticked waits l.times at_ in_time.moments x waits_for (in_time.ticks (OfDevice g.a) g.in_a) (short_period g from) m.0 (m.2 refl))
    follows x known_ waits_for (inr full) = goes_by l.queue l.request None l.asker.id l.asker.small
        (there_then (device_as g.uid g.preferred l.queue l.asker.id (at_ + its_clock g) l.request None l.asker.sessions) full)
        (times_not g from l.accepted l.xs l.cs l.queue l.request l.follow_up traffic.at ticked waits l.times at_ in_time.moments x waits_for (in_time.ticks (OfDevice g.a) g.in_a) (short_period g from))

    -- a first request is due, early
    early_first : at_ ≤ stale g from → l.follow_up ≡ None
        → own.Asked g.uid g.preferred l.queue l.asker.id l.asker.moment (at_ + its_clock g) (older g from traffic w l at_ in_time) l.request l.follow_up l.asker.sessions (w.rows + 1) word true
        (take 6 g.uid) (timer_from (at_ + its_clock g) (request_wait word)) l.follow_up → Goal (ATick g.a (at_ + its_clock g) word)
    early_first early none (inl fits) =
        let m = made true g.uid in
        goes_by (l.queue ++ m.0 ∷ []) (timer_from (at_ + its_clock g) (request_wait word)) None ((l.asker.id + 1) % 32) (omega arith)
        (there_then (device_as g.uid g.preferred (l.queue ++ request_frames g.uid g.preferred (w.rows + 1) word l.asker.id true (take 6 g.uid))
        ((l.asker.id + 1) % 32) (at_ + its_clock g) (timer_from (at_ + its_clock g) (request_wait word)) l.follow_up l.asker.sessions) fits
        ∙ (λ i. Some (device_as g.uid g.preferred (l.queue ++ m.1 i) ((l.asker.id + 1) % 32) (at_ + its_clock g) (timer_from (at_ + its_clock g) (request_wait word)) (none i) l.asker.sessions)))
        (times_first g from l.accepted l.xs l.cs l.queue l.request l.follow_up traffic.at ticked waits l.times at_ in_time.moments early (last_request g from traffic w l at_ in_time) l.asker.past word m.0)
    early_first early none (inr full) = goes_by l.queue (timer_from (at_ + its_clock g) (request_wait word)) None l.asker.id l.asker.small
        (there_then (device_as g.uid g.preferred l.queue l.asker.id (at_ + its_clock g) (timer_from (at_ + its_clock g) (request_wait word)) l.follow_up l.asker.sessions) full
        ∙ ap (λ (f : Option FollowUp). Some (device_as g.uid g.preferred l.queue l.asker.id (at_ + its_clock g) (timer_from (at_ + its_clock g) (request_wait word)) f l.asker.sessions)) none)
        (times_full g from l.accepted l.xs l.cs l.queue l.request l.follow_up traffic.at ticked waits l.times at_ in_time.moments early (last_request g from traffic w l at_ in_time) l.asker.past word)

    -- it is due in_time.moments: the dialog begins anew
    module _ (late : stale g from < at_) (none : l.follow_up ≡ None) (passed : has_passed (at_ + its_clock g) l.request ≡ true) where
      no_made : l.xs ≡ []
      no_made = none_made g from l.accepted l.xs l.cs l.queue l.request l.follow_up traffic.at ticked waits l.times at_ in_time.moments late (in_time.ticks (OfDevice g.a) g.in_a) g.quick passed
          (road_late g l.accepted l.xs l.cs l.ss traffic w l.road at_ in_time)

      no_sent : l.cs ≡ []
      no_sent = none_sent g from l.accepted l.xs l.cs l.queue l.request l.follow_up traffic.at ticked waits l.times at_ in_time.moments late (in_time.ticks (OfDevice g.a) g.in_a) g.quick passed
          (flying_late HasSource g.pace.delay w.frames at_ (traffic.to (OfMember g.n)) l.cs l.road.requests (in_time.hears (OfMember g.n) g.in_n))

      no_queued : l.queue ≡ []
      no_queued = none_queued g from l.accepted l.xs l.cs l.queue l.request l.follow_up traffic.at ticked waits l.times at_ in_time.moments late (in_time.ticks (OfDevice g.a) g.in_a) g.quick passed
          (λ some. in_time.sends_soon (OfDevice g.a) g.in_a (λ e. some (sym (queue_is g from traffic w l at_ in_time) ∙ e)))

      no_old : road_then.0 ≡ []
      no_old = empty_by road_then.0 (λ c i.
          let before = l.old c (road_then.1 c i) in
          let by = flying_late (IsBearable g.n) g.pace.delay w.frames at_ (traffic.to (OfDevice g.a)) l.ss l.road.bears (in_time.hears (OfDevice g.a) g.in_a) c (road_then.1 c i) in
          let q = g.quick in omega (arith, before, by, late, q))

      abbrev due_at : ℕ
      due_at = moment g from l.accepted l.xs l.cs l.queue l.request l.follow_up traffic.at ticked waits l.times at_ in_time.moments late (in_time.ticks (OfDevice g.a) g.in_a) g.quick passed

      abbrev start : ℕ
      start = due_at - 1000

      is_past : due_at ≤ at_
      is_past = moment_past g from l.accepted l.xs l.cs l.queue l.request l.follow_up traffic.at ticked waits l.times at_ in_time.moments late (in_time.ticks (OfDevice g.a) g.in_a) g.quick passed

      is_near : at_ ≤ due_at + g.pace.period
      is_near = moment_near g from l.accepted l.xs l.cs l.queue l.request l.follow_up traffic.at ticked waits l.times at_ in_time.moments late (in_time.ticks (OfDevice g.a) g.in_a) g.quick passed

      is_by : due_at ≤ stale g from + 1800 + 2 * g.pace.period + 12 * g.pace.delay
      is_by = moment_by g from l.accepted l.xs l.cs l.queue l.request l.follow_up traffic.at ticked waits l.times at_ in_time.moments late (in_time.ticks (OfDevice g.a) g.in_a) g.quick passed

      fresh_then : last_moment l.accepted + 500 < due_at + ahead g
      fresh_then = forgotten g from l.accepted l.xs l.cs l.queue l.request l.follow_up traffic.at ticked waits l.times at_ in_time.moments late (in_time.ticks (OfDevice g.a) g.in_a) g.quick passed no_made

      scene_then : Road g l.accepted [] [] [] (then_traffic (ATick g.a (at_ + its_clock g) word)) (after_row w (ATick g.a (at_ + its_clock g) word))
      scene_then = subst (λ (ys : List Made). Road g l.accepted ys [] [] (then_traffic (ATick g.a (at_ + its_clock g) word)) (after_row w (ATick g.a (at_ + its_clock g) word))) no_made
          (subst (λ (ds : List Coming). Road g l.accepted l.xs ds [] (then_traffic (ATick g.a (at_ + its_clock g) word)) (after_row w (ATick g.a (at_ + its_clock g) word))) no_sent
          (subst (λ (rs : List Coming). Road g l.accepted l.xs l.cs rs (then_traffic (ATick g.a (at_ + its_clock g) word)) (after_row w (ATick g.a (at_ + its_clock g) word))) no_old road_then.2))

      there_now : w.allocatee g.a ≡ Some (device_as g.uid g.preferred [] l.asker.id l.asker.moment l.request None l.asker.sessions)
      there_now = l.asker.there ∙ (λ i. Some (device_as g.uid g.preferred (no_queued i) l.asker.id l.asker.moment l.request (none i) l.asker.sessions))

      frame_then : (frame : Queued) × (request_frames g.uid g.preferred (w.rows + 1) word l.asker.id true (take 6 g.uid) ≡ frame ∷ [])
          × IsRequest (comes_at frame 0) (asked g.uid g.preferred true (take 6 g.uid))
      frame_then = g.below.requests word l.asker.id (w.rows + 1) 0 (asked g.uid g.preferred true (take 6 g.uid)) l.asker.small g.few (six_at_most g.uid g.preferred g.uid)

      anew_there : (after_row w (ATick g.a (at_ + its_clock g) word)).allocatee g.a
          ≡ Some (device_as g.uid g.preferred (frame_then.0 ∷ []) ((l.asker.id + 1) % 32) (at_ + its_clock g) (timer_from (at_ + its_clock g) (request_wait word)) None l.asker.sessions)
      anew_there = device_steps w g.a (device.Tick (at_ + its_clock g) word) (device_as g.uid g.preferred [] l.asker.id l.asker.moment l.request None l.asker.sessions)
          (device_as g.uid g.preferred (request_frames g.uid g.preferred (w.rows + 1) word l.asker.id true (take 6 g.uid)) ((l.asker.id + 1) % 32) (at_ + its_clock g)
          (timer_from (at_ + its_clock g) (request_wait word)) None l.asker.sessions) there_now
          (asks_first g.uid g.preferred l.asker.id l.asker.moment (at_ + its_clock g) (older g from traffic w l at_ in_time) l.request l.asker.sessions (w.rows + 1) word passed)
          ∙ ap (λ (q : List Queued). Some (device_as g.uid g.preferred q ((l.asker.id + 1) % 32) (at_ + its_clock g) (timer_from (at_ + its_clock g) (request_wait word)) None l.asker.sessions))
          frame_then.1

      asker_anew : AskerThen g l.queue l.request l.follow_up traffic w l.asker at_ in_time (ATick g.a (at_ + its_clock g) word) (frame_then.0 ∷ [])
          (timer_from (at_ + its_clock g) (request_wait word)) None
      asker_anew = asker_then (frame_then.0 ∷ []) (timer_from (at_ + its_clock g) (request_wait word)) None ((l.asker.id + 1) % 32) (omega arith) anew_there

      waits_then : (then_traffic (ATick g.a (at_ + its_clock g) word)).waits (OfDevice g.a) ≡ at_
      waits_then = ap (λ (q : List Queued). waits_after at_ waits q (queue_in (after_row w (ATick g.a (at_ + its_clock g) word)) (OfDevice g.a))) ((queue_is g from traffic w l at_ in_time) ∙ no_queued)

      begins : Goal (ATick g.a (at_ + its_clock g) word)
      begins = inr (inr (inr (
        start,
        (let b = is_by in omega (arith, b)),
        (let n = is_near in omega (arith, n)),
        (
          2,
          omega arith,
          inr (inl (record {
            due = due_at;
            accepted = l.accepted;
            scene = as_scene g start l.accepted [] [] (then_traffic (ATick g.a (at_ + its_clock g) word)) (after_row w (ATick g.a (at_ + its_clock g) word)) scene_then;
            stage = record {
              soon = omega arith;
              right = right_at_first g.uid g.whole g.preferred l.accepted (last_moment l.accepted) (due_at + ahead g)
                  (due_at + g.pace.period + 2 * g.pace.delay + ahead g) (omega arith) fresh_then;
            };
            request = timer_from (at_ + its_clock g) (request_wait word);
            frame = frame_then.0;
            asker = record {
              id = asker_anew.id;
              moment = asker_anew.moment;
              sessions = asker_anew.sessions;
              there = asker_anew.there;
              small = asker_anew.small;
              read = asker_anew.read;
              past = asker_anew.past;
            };
            quiet = (let p = is_past in omega (arith, p), omega arith);
            asks = frame_then.2;
            waits = let e = waits_then in let n = is_near in omega (arith, e, n);
            from = is_past;
          })),
        ),
      )))

    -- what the device does
    ticks_it : own.Ticks g.uid g.preferred l.queue l.asker.id l.asker.moment (at_ + its_clock g) (older g from traffic w l at_ in_time) l.request l.follow_up l.asker.sessions (w.rows + 1) word
        → Goal (ATick g.a (at_ + its_clock g) word)
    ticks_it (inl (none, early, is)) = goes_by l.queue l.request l.follow_up l.asker.id l.asker.small
        (there_then (device_as g.uid g.preferred l.queue l.asker.id (at_ + its_clock g) l.request l.follow_up l.asker.sessions) is)
        (times_quiet g from l.accepted l.xs l.cs l.queue l.request l.follow_up traffic.at ticked waits l.times at_ in_time.moments none early)
    ticks_it (inr (inl (none, passed, is))) =
        let no_follow_up = none_waits g from l.accepted l.xs l.cs l.queue l.request l.follow_up traffic.at ticked waits l.times at_ in_time.moments none passed in
        elim (lt_tells (stale g from) at_) [ inl z ↦ begins z.1 no_follow_up passed | inr z ↦ early_first z.1 no_follow_up is ]
    ticks_it (inr (inr (known_, is_now, is))) = by l.follow_up refl
      where
        by : (o : Option FollowUp) → l.follow_up ≡ o → Goal (ATick g.a (at_ + its_clock g) word)
        by None e = absurd (cc (sym is_now ∙ ap (is_due (at_ + its_clock g)) e))
        by (Some x) e = follows x known_ e is

    pub reads_it : Goal (ATick g.a (at_ + its_clock g) word)
    reads_it = ticks_it (own.ticks g.uid g.preferred l.queue l.asker.id l.asker.moment (at_ + its_clock g) (older g from traffic w l at_ in_time) l.request l.follow_up l.asker.sessions (w.rows + 1) word)
