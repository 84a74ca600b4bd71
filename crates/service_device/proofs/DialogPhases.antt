-- The phases of a dialog: the device waits, its request waits, the request is on the bus, the answer is under way. Each row
-- leaves a phase, or the leader hears the whole unique ID.
use Rattle.std.proofs.Common.{◌≡◌, ◌⊎◌, ℕ, zero, suc, ◌+◌, ◌*◌, ◌<◌, ◌≤◌, Bool, true, false, List, [], ◌∷◌, ◌++◌, length, take, drop, inl, inr, refl, sym, ◌∙◌, ap, subst, arith, Option, None, Some}
use Rattle.std.specs.Prelude.{◌%◌, if◌then◌else◌}
use Rattle.alloc_exchange.specs.Exchange.{Accepted}
use Rattle.can_frame.specs.declared.step.What.TheVariants.{Alloc}
use Rattle.dsdl_codec.specs.declared.allocation.Allocation.{Allocation}
use Rattle.bus_rows.specs.declared.row.Row.{Row}
use Rattle.bus_rows.specs.declared.row.Row.TheVariants.{ASend, ATick, Rx}
use Rattle.transfer_tx.specs.Queue.{Queued}
use Rattle.allocatee.specs.Allocatee.{Device, step}
use Rattle.allocatee.specs.Allocatee as device
use Rattle.allocatee.specs.Asking.{due as is_due, has_passed, request_wait, timer_from}
use Rattle.allocatee.specs.declared.timer.FollowUp.{FollowUp}
use Rattle.allocatee.specs.declared.timer.Timer.{Timer}
use Rattle.alloc_spec.specs.Exchange.{allocation_payload}
use Rattle.alloc_spec_laws.proofs.Choices.{lt_tells}
use Rattle.service_steps.specs.Devices.{comes_at}
use Rattle.service_steps.specs.Requests.{IsRequest}
use Rattle.bus_rows.specs.Timed.{Timed}
use Rattle.service_alone.specs.Calm.{HasSettled, next_on_bus, queue_at, waits_after}
use Rattle.service_alone.proofs.Asking.{its_own}
use Rattle.service_alone.proofs.CalmDevice.{asked, asks_first, asks_on, device_as, request_frames, six_at_most}
use Rattle.service_alone.proofs.CalmStages.{Right, device_steps, has_not_passed, has_now_passed, is_first, known_of, request_of}
use Rattle.service_calm.specs.Calm.{Device as OfDevice, IsInTime, Member as OfMember, Traffic, queue_in, reads, traffic_after}
use Rattle.service_device.specs.Dialog.{HearsWhole}
use Rattle.service_device.proofs.DialogRows.{Asker, AskerThen, IsCalm, IsKnown, Then, asker_with, each_row, nothing_sent, read_on, reads_on}
use Rattle.service_device.proofs.DialogFrames.{HasSource}
use Rattle.service_device.proofs.DialogScene.{Scene, Talk, scene_on}
use Rattle.service_calm.proofs.Pending.{Coming, Made}
use Rattle.service_calm.proofs.Ways.{Flying, flying_own}
use Rattle.service_alone.proofs.Sending.{first_out, others_left}
use Rattle.bus_spec.specs.Allocatees.{after_sending_from, next_from}
use Rattle.bus_spec.specs.Cluster.{Cluster, after_row, arrival_at, frame_at, in_list}

-- a request is one at each moment
pub request_at : (frame : Queued) (message : Allocation) (moment : ℕ) → IsRequest (comes_at frame 0) message → IsRequest (arrival_at frame moment) message
request_at frame message moment r = record {
  ident = r.ident;
  read = r.read;
  kind = r.kind;
  number = r.number;
  source = r.source;
  first = r.first;
  last = r.last;
  toggle = r.toggle;
  says = r.says;
}

module _ (g : Talk) where
  abbrev pub its_clock : ℕ
  its_clock = g.clocks (OfDevice g.a)

  abbrev pub ahead : ℕ
  ahead = g.clocks (OfMember g.n)

  -- by when the request of a stage is due at the latest, by the number of follow-ups that are left
  abbrev pub latest : ℕ → ℕ
  latest zero = g.start + 1800 + 2 * g.pace.period + 8 * g.pace.delay
  latest (suc zero) = g.start + 1400 + g.pace.period + 4 * g.pace.delay
  latest (suc (suc j)) = g.start + 1000

  -- by when it is over
  abbrev pub last : ℕ
  last = g.start + (1800 + 3 * g.pace.period + 10 * g.pace.delay)

  pub within : (j : ℕ) → latest j + g.pace.period + 2 * g.pace.delay ≤ last
  within zero = omega arith
  within (suc zero) = omega arith
  within (suc (suc j)) = omega arith

  -- the request of this stage is due then, and will be taken as it should
  pub record IsStage (j due : ℕ) (accepted : List Accepted) : Type 0 where
    pub soon : due ≤ latest j
    pub right : Right g.uid g.whole g.preferred j accepted (due + ahead) (due + g.pace.period + 2 * g.pace.delay + ahead)

  -- the request timer does not pass while a stage goes on
  abbrev pub Quiet : ℕ → Timer → Type 0
  Quiet due request = (due + 100 + its_clock < request.since + request.length) × (1 ≤ request.length)

  -- what the device waits for: its request timer, or behind an answer to go on
  abbrev pub IsDue : ℕ → (due moment : ℕ) → Timer → Option FollowUp → Type 0
  IsDue zero due moment request follow_up = (timer : Timer) × (follow_up ≡ Some (record { timer = timer; known = 12 }))
      × (timer.since + timer.length ≡ due + its_clock) × (timer.since ≤ moment) × Quiet due request
  IsDue (suc zero) due moment request follow_up = (timer : Timer) × (follow_up ≡ Some (record { timer = timer; known = 6 }))
      × (timer.since + timer.length ≡ due + its_clock) × (timer.since ≤ moment) × Quiet due request
  IsDue (suc (suc j)) due moment request follow_up = (follow_up ≡ None) × (request.since + request.length ≡ due + its_clock) × (1 ≤ request.length)

  -- the device waits
  pub record IsWaiting (j : ℕ) (traffic : Traffic) (w : Cluster) : Type 0 where
    pub due : ℕ
    pub accepted : List Accepted
    pub scene : Scene g accepted [] [] traffic w
    pub stage : IsStage j due accepted
    pub request : Timer
    pub follow_up : Option FollowUp
    pub asker : Asker g [] request follow_up traffic w
    pub waits_for : IsDue j due (traffic.at + its_clock) request follow_up
    pub ticked : traffic.ticked (OfDevice g.a) ≤ due

  -- its request waits in its queue
  pub record HasAsked (j : ℕ) (traffic : Traffic) (w : Cluster) : Type 0 where
    pub due : ℕ
    pub accepted : List Accepted
    pub scene : Scene g accepted [] [] traffic w
    pub stage : IsStage j due accepted
    pub request : Timer
    pub frame : Queued
    pub asker : Asker g (frame ∷ []) request None traffic w
    pub quiet : Quiet due request
    pub asks : IsRequest (comes_at frame 0) (request_of g.uid g.whole g.preferred j)
    pub waits : traffic.waits (OfDevice g.a) ≤ due + g.pace.period
    pub from : due ≤ traffic.at

  abbrev pub on_way : ℕ → Queued → Coming
  on_way due frame = record { at = due + g.pace.period; frame = frame }

  -- its request is on the way to the leader
  pub record IsOnBus (j : ℕ) (traffic : Traffic) (w : Cluster) : Type 0 where
    pub due : ℕ
    pub accepted : List Accepted
    pub frame : Queued
    pub scene : Scene g accepted [] (on_way due frame ∷ []) traffic w
    pub stage : IsStage j due accepted
    pub request : Timer
    pub asker : Asker g [] request None traffic w
    pub quiet : Quiet due request
    pub asks : IsRequest (comes_at frame 0) (request_of g.uid g.whole g.preferred j)
    pub from : due ≤ traffic.at

  -- the answer is under way, behind which so many follow-ups are left and one more
  pub record IsAnswering (i : ℕ) (traffic : Traffic) (w : Cluster) : Type 0 where
    pub accepted : List Accepted
    pub x : Made
    pub scene : Scene g accepted (x ∷ []) [] traffic w
    pub request : Timer
    pub asker : Asker g [] request None traffic w
    pub what : x.transfer.offer.what ≡ Alloc
    pub payload : x.transfer.offer.payload ≡ allocation_payload 0 (take (known_of i) g.uid)
    pub right : Right g.uid g.whole g.preferred i accepted (x.at + ahead) (x.at + ahead + 500)
    pub quiet : x.at + 2 * g.pace.delay + its_clock < request.since + request.length
    pub long : 1 ≤ request.length
    pub soon : x.at + 2 * g.pace.delay + 400 ≤ latest i
    pub from : x.at ≤ traffic.at

  -- one of the phases, of one of the stages
  abbrev pub Phase : Traffic → Cluster → Type 0
  Phase traffic w = (j : ℕ) × (j ≤ 2) × (IsWaiting j traffic w ⊎ (HasAsked j traffic w ⊎ (IsOnBus j traffic w ⊎ ((j ≤ 1) × IsAnswering j traffic w))))

  -- a request comes in this row from the bus to the leader, the last one
  abbrev pub FromBus : Traffic → Cluster → Timed → Type 0
  FromBus traffic w timed = (p : IsOnBus zero traffic w) × (k : ℕ) × (ms : ℕ) × (timed.row ≡ Rx g.n k ms) × (frame_at w.frames k ≡ p.frame)
      × Flying HasSource g.pace.delay (after_row w timed.row).frames ((traffic_after traffic w timed).to (OfMember g.n)) []

  -- the leader hears the whole unique ID in this row, and has settled before it
  abbrev pub Heard : Traffic → Cluster → Timed → Type 0
  Heard traffic w timed = HasSettled g.n g.log (traffic.at + ahead) w × HearsWhole g.n ahead g.uid g.preferred w timed × FromBus traffic w timed

  -- what a row leaves
  abbrev pub Next : Traffic → Cluster → Timed → Type 0
  Next traffic w timed = Phase (traffic_after traffic w timed) (after_row w timed.row) ⊎ Heard traffic w timed

  -- a row at which the device does not read its clock
  pub unread : (traffic : Traffic) (w : Cluster) (at_ : ℕ) (row : Row) → reads row (OfDevice g.a) ≡ false
      → (traffic_after traffic w (record { at = at_; row = row })).ticked (OfDevice g.a) ≡ traffic.ticked (OfDevice g.a)
  unread traffic w at_ row quiet = ap (λ (b : Bool). if b then at_ else traffic.ticked (OfDevice g.a)) quiet

  -- ---- the device waits

  module _ (j : ℕ) (two : j ≤ 2) (traffic : Traffic) (w : Cluster) (p : IsWaiting j traffic w) (at_ : ℕ)
      (in_time : IsInTime g.group g.clocks g.pace traffic w at_) where
    abbrev WaitGoal : Row → Type 0
    WaitGoal row = Next traffic w (record { at = at_; row = row })

    wait_by : at_ ≤ p.due + g.pace.period
    wait_by = let t = in_time.ticks (OfDevice g.a) g.in_a in let e = p.ticked in omega (arith, t, e)

    -- it is over in time
    pub wait_end : at_ ≤ last
    wait_end = let b = wait_by in let s = p.stage.soon in let l = within j in omega (arith, b, s, l)

    abbrev CalmOf : Row → Type 0
    CalmOf row = IsCalm g [] p.request p.follow_up p.accepted [] [] traffic w p.scene p.asker at_ in_time row

    abbrev KnownOf : Row → Type 0
    KnownOf row = IsKnown g [] p.request p.follow_up p.accepted [] [] traffic w p.scene p.asker at_ in_time row

    abbrev SceneOf : (row : Row) → CalmOf row → KnownOf row → Type 0
    SceneOf row calm known = Then g [] p.request p.follow_up p.accepted [] [] traffic w p.scene p.asker at_ in_time row calm known p.accepted [] []

    abbrev AskerOf : Row → List Queued → Timer → Option FollowUp → Type 0
    AskerOf row q r f = AskerThen g [] p.request p.follow_up traffic w p.asker at_ in_time row q r f

    later : traffic.at + its_clock ≤ at_ + its_clock
    later = let l = in_time.moments in omega (arith, l)

    -- it waits on
    still_waits : (row : Row) (calm : CalmOf row) (known : KnownOf row) → SceneOf row calm known → AskerOf row [] p.request p.follow_up
        → (traffic_after traffic w (record { at = at_; row = row })).ticked (OfDevice g.a) ≤ p.due → WaitGoal row
    still_waits row calm known scene asker ticked = inl (
      j,
      two,
      inl (record {
        due = p.due;
        accepted = p.accepted;
        scene = scene;
        stage = p.stage;
        request = p.request;
        follow_up = p.follow_up;
        asker = asker;
        waits_for = due_on j p.waits_for;
        ticked = ticked;
      }),
    )
      where
        due_on : (i : ℕ) → IsDue i p.due (traffic.at + its_clock) p.request p.follow_up → IsDue i p.due (at_ + its_clock) p.request p.follow_up
        due_on zero d = (d.0, d.1, d.2, (let l = later in omega (arith, d.3, l)), d.4)
        due_on (suc zero) d = (d.0, d.1, d.2, (let l = later in omega (arith, d.3, l)), d.4)
        due_on (suc (suc i)) d = d

    -- its timer has passed
    then_asks : (ms word : ℕ) (calm : CalmOf (ATick g.a ms word)) (known : KnownOf (ATick g.a ms word)) → SceneOf (ATick g.a ms word) calm known
        → ms ≡ at_ + its_clock → (request : Timer) (first : Bool) (part : List ℕ) → p.due ≤ at_ → Quiet p.due request
        → asked g.uid g.preferred first (take 6 part) ≡ request_of g.uid g.whole g.preferred j
        → (after_row w (ATick g.a ms word)).allocatee g.a
        ≡ Some (device_as g.uid g.preferred (request_frames g.uid g.preferred (w.rows + 1) word p.asker.id first (take 6 part)) ((p.asker.id + 1) % 32) ms request None p.asker.sessions)
        → WaitGoal (ATick g.a ms word)
    then_asks ms word calm known scene now_is request first part passed quiet same there =
        let made = g.below.requests word p.asker.id (w.rows + 1) 0 (asked g.uid g.preferred first (take 6 part)) p.asker.small g.few (six_at_most g.uid g.preferred part) in
        inl (
          j,
          two,
          inr (inl (record {
            due = p.due;
            accepted = p.accepted;
            scene = scene;
            stage = p.stage;
            request = request;
            frame = made.0;
            asker = asker_with g [] p.request p.follow_up traffic w p.asker at_ in_time (ATick g.a ms word) (made.0 ∷ []) request None
                ((p.asker.id + 1) % 32) ms p.asker.sessions
                (there ∙ ap (λ (q : List Queued). Some (device_as g.uid g.preferred q ((p.asker.id + 1) % 32) ms request None p.asker.sessions)) made.1)
                (omega arith) (omega (arith, now_is));
            quiet = quiet;
            asks = subst (IsRequest (comes_at made.0 0)) same made.2;
            waits = let e : (traffic_after traffic w (record { at = at_; row = ATick g.a ms word })).waits (OfDevice g.a) ≡ at_
                = ap (λ (q : List Queued). waits_after at_ (traffic.waits (OfDevice g.a)) q (queue_in (after_row w (ATick g.a ms word)) (OfDevice g.a)))
                (ap queue_at p.asker.there) in let b = wait_by in omega (arith, e, b);
            from = passed;
          })),
        )

    wait_reads : (ms word : ℕ) (calm : CalmOf (ATick g.a ms word)) (known : KnownOf (ATick g.a ms word)) → SceneOf (ATick g.a ms word) calm known → WaitGoal (ATick g.a ms word)
    wait_reads ms word calm known scene = elim (lt_tells at_ p.due) [ inl z ↦ early z.1 j refl p.waits_for | inr z ↦ late z.1 j refl p.waits_for ]
      where
        now_is : ms ≡ at_ + its_clock
        now_is = calm.1

        older : p.asker.moment ≤ ms
        older = let r = read_on g [] p.request p.follow_up traffic w p.asker at_ in_time in omega (arith, r, now_is)

        quietly : is_due ms p.follow_up ≡ None → has_passed ms p.request ≡ false → at_ < p.due → WaitGoal (ATick g.a ms word)
        quietly none no_time before = still_waits (ATick g.a ms word) calm known scene
            (reads_on g [] p.request p.follow_up traffic w p.asker at_ in_time ms word now_is none no_time) (by (reads (ATick g.a ms word) (OfDevice g.a)))
          where
            by : (b : Bool) → (if b then at_ else traffic.ticked (OfDevice g.a)) ≤ p.due
            by true = omega (arith, before)
            by false = p.ticked

        not_on : (timer : Timer) (known_ : ℕ) → p.follow_up ≡ Some (record { timer = timer; known = known_ }) → timer.since + timer.length ≡ p.due + its_clock
            → timer.since ≤ traffic.at + its_clock → at_ < p.due → is_due ms p.follow_up ≡ None
        not_on timer known_ e ends since before = rw (e) (rw (has_not_passed ms timer (omega (arith, ends, before, now_is)) (inl (let l = later in omega (arith, since, l, now_is)))) refl)

        early : at_ < p.due → (i : ℕ) → j ≡ i → IsDue i p.due (traffic.at + its_clock) p.request p.follow_up → WaitGoal (ATick g.a ms word)
        early before zero e d = quietly (not_on d.0 12 d.1 d.2 d.3 before) (has_not_passed ms p.request (omega (arith, d.4.0, before, now_is)) (inr d.4.1)) before
        early before (suc zero) e d = quietly (not_on d.0 6 d.1 d.2 d.3 before) (has_not_passed ms p.request (omega (arith, d.4.0, before, now_is)) (inr d.4.1)) before
        early before (suc (suc i)) e d = quietly (rw (d.0) refl) (has_not_passed ms p.request (omega (arith, d.1, before, now_is)) (inr d.2)) before

        on : (timer : Timer) (i known_ : ℕ) → j ≡ i → known_ ≡ known_of i → false ≡ is_first i → p.follow_up ≡ Some (record { timer = timer; known = known_ })
            → timer.since + timer.length ≡ p.due + its_clock → Quiet p.due p.request → p.due ≤ at_ → WaitGoal (ATick g.a ms word)
        on timer i known_ e same_known same_first follow ends quiet passed = then_asks ms word calm known scene now_is p.request false (drop known_ g.uid) passed quiet
            ((λ k. asked g.uid g.preferred (same_first k) (take 6 (drop (same_known k) g.uid))) ∙ ap (λ (k : ℕ). request_of g.uid g.whole g.preferred k) (sym e))
            (device_steps w g.a (device.Tick ms word) (device_as g.uid g.preferred [] p.asker.id p.asker.moment p.request p.follow_up p.asker.sessions)
            (device_as g.uid g.preferred (request_frames g.uid g.preferred (w.rows + 1) word p.asker.id false (take 6 (drop known_ g.uid))) ((p.asker.id + 1) % 32) ms p.request None p.asker.sessions)
            p.asker.there
            (ap (λ (f : Option FollowUp). (step (device_as g.uid g.preferred [] p.asker.id p.asker.moment p.request f p.asker.sessions) (w.rows + 1) (device.Tick ms word)).device) follow
            ∙ asks_on g.uid g.preferred p.asker.id p.asker.moment ms older p.request p.asker.sessions (w.rows + 1) word (record { timer = timer; known = known_ })
            (has_now_passed ms timer (omega (arith, ends, passed, now_is)))))

        late : p.due ≤ at_ → (i : ℕ) → j ≡ i → IsDue i p.due (traffic.at + its_clock) p.request p.follow_up → WaitGoal (ATick g.a ms word)
        late passed zero e d = on d.0 zero 12 e refl refl d.1 d.2 d.4 passed
        late passed (suc zero) e d = on d.0 (suc zero) 6 e refl refl d.1 d.2 d.4 passed
        late passed (suc (suc i)) e d = then_asks ms word calm known scene now_is (timer_from ms (request_wait word)) true g.uid passed
            (omega (arith, passed, now_is, wait_by, g.quick), omega arith)
            (ap (λ (k : ℕ). request_of g.uid g.whole g.preferred k) (sym e))
            (device_steps w g.a (device.Tick ms word) (device_as g.uid g.preferred [] p.asker.id p.asker.moment p.request p.follow_up p.asker.sessions)
            (device_as g.uid g.preferred (request_frames g.uid g.preferred (w.rows + 1) word p.asker.id true (take 6 g.uid)) ((p.asker.id + 1) % 32) ms
            (timer_from ms (request_wait word)) None p.asker.sessions) p.asker.there
            (ap (λ (f : Option FollowUp). (step (device_as g.uid g.preferred [] p.asker.id p.asker.moment p.request f p.asker.sessions) (w.rows + 1) (device.Tick ms word)).device) d.0
            ∙ asks_first g.uid g.preferred p.asker.id p.asker.moment ms older p.request p.asker.sessions (w.rows + 1) word
            (has_now_passed ms p.request (omega (arith, d.1, passed, now_is)))))

    -- each row leaves a phase
    pub waiting_goes_on : (row : Row) → CalmOf row → KnownOf row → Next traffic w (record { at = at_; row = row })
    waiting_goes_on = each_row g [] p.request p.follow_up p.accepted [] [] traffic w p.scene p.asker at_ in_time (λ (row : Row). Next traffic w (record { at = at_; row = row }))
        (λ row calm known none scene asker quiet. (still_waits row calm known scene asker (subst (λ (k : ℕ). k ≤ p.due) (sym (unread traffic w at_ row quiet)) p.ticked)))
        (λ ms word calm known none scene. (wait_reads ms word calm known scene))
        (λ calm known. absurd (nothing_sent g p.request p.follow_up traffic w p.asker calm.1))
        (λ k ms calm known c more e same fly. absurd (omega (arith, ap length e)))
        (λ k ms word calm known x rest e none delivers scene. absurd (omega (arith, ap length e)))

  -- ---- its request waits

  module _ (j : ℕ) (two : j ≤ 2) (traffic : Traffic) (w : Cluster) (p : HasAsked j traffic w) (at_ : ℕ) (in_time : IsInTime g.group g.clocks g.pace traffic w at_) where
    abbrev AskGoal : Row → Type 0
    AskGoal row = Next traffic w (record { at = at_; row = row })

    waits_here : queue_in w (OfDevice g.a) ≡ p.frame ∷ []
    waits_here = ap queue_at p.asker.there

    asks_by : at_ ≤ p.due + g.pace.period + g.pace.delay
    asks_by =
        let t = in_time.sends_soon (OfDevice g.a) g.in_a (λ e. let l = ap length (sym waits_here ∙ e) in absurd (omega (arith, l))) in
        let v = p.waits in omega (arith, t, v)

    -- it is over in time
    pub asked_end : at_ ≤ last
    asked_end = let b = asks_by in let s = p.stage.soon in let l = within j in omega (arith, b, s, l)

    abbrev CalmAsked : Row → Type 0
    CalmAsked row = IsCalm g (p.frame ∷ []) p.request None p.accepted [] [] traffic w p.scene p.asker at_ in_time row

    abbrev KnownAsked : Row → Type 0
    KnownAsked row = IsKnown g (p.frame ∷ []) p.request None p.accepted [] [] traffic w p.scene p.asker at_ in_time row

    abbrev SceneAsked : (row : Row) → CalmAsked row → KnownAsked row → Type 0
    SceneAsked row calm known = Then g (p.frame ∷ []) p.request None p.accepted [] [] traffic w p.scene p.asker at_ in_time row calm known p.accepted [] []

    -- it waits on
    still_asks : (row : Row) (calm : CalmAsked row) (known : KnownAsked row) → SceneAsked row calm known
        → AskerThen g (p.frame ∷ []) p.request None traffic w p.asker at_ in_time row (p.frame ∷ []) p.request None → AskGoal row
    still_asks row calm known scene asker = inl (
      j,
      two,
      inr (inl (record {
        due = p.due;
        accepted = p.accepted;
        scene = scene;
        stage = p.stage;
        request = p.request;
        frame = p.frame;
        asker = asker;
        quiet = p.quiet;
        asks = p.asks;
        waits = let e : (traffic_after traffic w (record { at = at_; row = row })).waits (OfDevice g.a) ≡ traffic.waits (OfDevice g.a)
            = (λ i. waits_after at_ (traffic.waits (OfDevice g.a)) (waits_here i) (queue_at (asker.there i))) in let v = p.waits in omega (arith, e, v);
        from = let f = p.from in let l = in_time.moments in omega (arith, f, l);
      })),
    )

    ask_reads : (ms word : ℕ) (calm : CalmAsked (ATick g.a ms word)) (known : KnownAsked (ATick g.a ms word)) → SceneAsked (ATick g.a ms word) calm known → AskGoal (ATick g.a ms word)
    ask_reads ms word calm known scene = still_asks (ATick g.a ms word) calm known scene
        (reads_on g (p.frame ∷ []) p.request None traffic w p.asker at_ in_time ms word calm.1 refl
        (has_not_passed ms p.request (let b = asks_by in let q = p.quiet.0 in let k = g.quick in let c = calm.1 in omega (arith, b, q, k, c)) (inr p.quiet.1)))

    -- it goes to the bus
    ask_sends : (calm : CalmAsked (ASend g.a)) (known : KnownAsked (ASend g.a)) → AskGoal (ASend g.a)
    ask_sends calm known = inl (
      j,
      two,
      inr (inr (inl (record {
        due = p.due;
        accepted = p.accepted;
        frame = p.frame;
        scene = its_scene;
        stage = p.stage;
        request = p.request;
        asker = asker_with g (p.frame ∷ []) p.request None traffic w p.asker at_ in_time (ASend g.a) [] p.request None p.asker.id p.asker.moment
            p.asker.sessions there_then p.asker.small (read_on g (p.frame ∷ []) p.request None traffic w p.asker at_ in_time);
        quiet = p.quiet;
        asks = p.asks;
        from = let f = p.from in let l = in_time.moments in omega (arith, f, l);
      }))),
    )
      where
        row : Row
        row = ASend g.a

        out : next_from (w.allocatee g.a) ≡ Some p.frame
        out = ap next_from p.asker.there ∙ first_out p.frame.id p.frame [] (refl, tt)

        frames_then : (after_row w (ASend g.a)).frames ≡ w.frames ++ p.frame ∷ []
        frames_then = ap (λ (o : Option Queued). w.frames ++ in_list o) out

        there_then : (after_row w (ASend g.a)).allocatee g.a ≡ Some (device_as g.uid g.preferred [] p.asker.id p.asker.moment p.request None p.asker.sessions)
        there_then = its_own w g.a (after_sending_from (w.allocatee g.a))
            ∙ (ap after_sending_from p.asker.there
            ∙ ap (λ (q : List Queued). Some (device_as g.uid g.preferred q p.asker.id p.asker.moment p.request None p.asker.sessions)) (others_left p.frame.id p.frame [] (refl, tt)))

        flies : Flying HasSource g.pace.delay (after_row w (ASend g.a)).frames ((traffic_after traffic w (record { at = at_; row = ASend g.a })).to (OfMember g.n)) (on_way p.due p.frame ∷ [])
        flies = subst (λ (l : List Queued). Flying HasSource g.pace.delay l (traffic.to (OfMember g.n) ++ next_on_bus at_ w ∷ []) (on_way p.due p.frame ∷ [])) (sym frames_then)
            (flying_own HasSource g.pace.delay w.frames (on_way p.due p.frame) at_ (traffic.to (OfMember g.n)) [] asks_by p.scene.requests)

        its_scene : Scene g p.accepted [] (on_way p.due p.frame ∷ []) (traffic_after traffic w (record { at = at_; row = ASend g.a })) (after_row w (ASend g.a))
        its_scene = elim (scene_on g p.accepted [] [] traffic w p.scene at_ (ASend g.a) in_time calm known (λ message is. cc (is.comes.comes)) (on_way p.due p.frame ∷ []) flies) [
          | inl on ↦ on.0
          | inr ends ↦ absurd (omega (arith, ap length ends.2))
        ]

    -- each row leaves a phase
    pub asking_goes_on : (row : Row) → CalmAsked row → KnownAsked row → Next traffic w (record { at = at_; row = row })
    asking_goes_on = each_row g (p.frame ∷ []) p.request None p.accepted [] [] traffic w p.scene p.asker at_ in_time (λ (row : Row). Next traffic w (record { at = at_; row = row }))
        (λ row calm known none scene asker quiet. (still_asks row calm known scene asker))
        (λ ms word calm known none scene. (ask_reads ms word calm known scene))
        (λ calm known. (ask_sends calm known))
        (λ k ms calm known c more e same fly. absurd (omega (arith, ap length e)))
        (λ k ms word calm known x rest e none delivers scene. absurd (omega (arith, ap length e)))
