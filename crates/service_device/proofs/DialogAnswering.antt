-- The request of a device is on the bus, and is answered; and the answer comes to the device.
use Rattle.std.proofs.Common.{◌≡◌, ℕ, zero, suc, ◌+◌, ◌*◌, ◌<◌, ◌≤◌, Bool, true, false, List, [], ◌∷◌, length, length-take, take, drop, max, inl, inr, refl, sym, ◌∙◌, ap, subst, arith, Option, None, Some}
use Rattle.std.specs.Prelude.{slice_index_or}
use Rattle.alloc_exchange.specs.declared.heard.Heard.TheVariants.{FollowUp as Follows}
use Rattle.alloc_exchange.specs.Exchange.{Accepted, after, answer}
use Rattle.can_frame.specs.Kinds.{is_anonymous}
use Rattle.dsdl_codec.specs.declared.allocation.Allocation.{Allocation}
use Rattle.dsdl_codec.specs.Allocation.{allocation_of}
use Rattle.bus_rows.specs.declared.row.Row.{Row}
use Rattle.bus_rows.specs.declared.row.Row.TheVariants.{ARx, ATick, Rx}
use Rattle.transfer_rx.specs.Reassembly.{Answer, Arrival, Gives, answer as received, next as next_sessions}
use Rattle.transfer_tx.specs.Queue.{Queued}
use Rattle.allocatee.specs.Accepted.{setting}
use Rattle.allocatee.specs.Allocatee.{Device, after_reading, after_receiver_answer}
use Rattle.allocatee.specs.Allocatee as device
use Rattle.allocatee.specs.Asking.{Asking, after_allocation, follow_up_wait, request_wait, timer_from}
use Rattle.allocatee.specs.declared.timer.Timer.{Timer}
use Rattle.alloc_spec.specs.AllocatorState.{AllocatorState}
use Rattle.alloc_spec.specs.Transfers.{kind_of}
use Rattle.service_steps.specs.Requests.{IsRequest}
use Rattle.service_alone.proofs.CalmDevice.{asking_as, device_as, follows_up, receives as hears}
use Rattle.service_alone.proofs.CalmStages.{Right, device_steps, has_not_passed, known_of, request_of, right_within}
use Rattle.service_calm.specs.Calm.{Device as OfDevice, IsInTime, Member as OfMember, Traffic, reads}
use Rattle.service_calm.specs.Comes as transfer
use Rattle.service_calm.specs.Devices.{DeliversTo}
use Rattle.service_device.proofs.DialogAsked.{RequestsFly, answered, answers_it, its_asked}
use Rattle.service_device.proofs.DialogFrames.{HasSource}
use Rattle.service_device.proofs.DialogPhases.{IsAnswering, IsDue, IsOnBus, Next, Quiet, ahead, its_clock, last, latest, on_way, request_at, within}
use Rattle.service_device.proofs.DialogRows.{AskerThen, IsCalm, IsKnown, Then, asker_with, delivers_it, each_row, nothing_sent, read_on, reads_on}
use Rattle.service_device.proofs.DialogScene.{Talk, scene_late}
use Rattle.service_calm.proofs.Pending.{Coming, Made}
use Rattle.service_calm.proofs.Ways.{flying_late}
use Rattle.bus_spec.specs.Cluster.{Cluster, arrival_at, frame_at}

module _ (g : Talk) where
  -- ---- its request is on the bus

  module _ (j : ℕ) (two : j ≤ 2) (traffic : Traffic) (w : Cluster) (p : IsOnBus g j traffic w) (at_ : ℕ)
      (in_time : IsInTime g.group g.clocks g.pace traffic w at_) where
    abbrev cs : List Coming
    cs = on_way g p.due p.frame ∷ []

    abbrev BusGoal : Row → Type 0
    BusGoal row = Next g traffic w (record { at = at_; row = row })

    bus_by : at_ ≤ p.due + g.pace.period + 2 * g.pace.delay
    bus_by = flying_late HasSource g.pace.delay w.frames at_ (traffic.to (OfMember g.n)) cs p.scene.requests (in_time.hears (OfMember g.n) g.in_n) (on_way g p.due p.frame) (inl refl)

    -- it is over in time
    pub bus_end : at_ ≤ last g
    bus_end = let b = bus_by in let s = p.stage.soon in let l = within g j in omega (arith, b, s, l)

    abbrev CalmOf : Row → Type 0
    CalmOf row = IsCalm g [] p.request None p.accepted [] cs traffic w p.scene p.asker at_ in_time row

    abbrev KnownOf : Row → Type 0
    KnownOf row = IsKnown g [] p.request None p.accepted [] cs traffic w p.scene p.asker at_ in_time row

    abbrev SceneOf : (row : Row) → CalmOf row → KnownOf row → Type 0
    SceneOf row calm known = Then g [] p.request None p.accepted [] cs traffic w p.scene p.asker at_ in_time row calm known p.accepted [] cs

    -- it is on its way still
    still_flies : (row : Row) (calm : CalmOf row) (known : KnownOf row) → SceneOf row calm known
        → AskerThen g [] p.request None traffic w p.asker at_ in_time row [] p.request None → BusGoal row
    still_flies row calm known scene asker = inl (
      j,
      two,
      inr (inr (inl (record {
        due = p.due;
        accepted = p.accepted;
        frame = p.frame;
        scene = scene;
        stage = p.stage;
        request = p.request;
        asker = asker;
        quiet = p.quiet;
        asks = p.asks;
        from = let f = p.from in let l = in_time.moments in omega (arith, f, l);
      }))),
    )

    bus_reads : (ms word : ℕ) (calm : CalmOf (ATick g.a ms word)) (known : KnownOf (ATick g.a ms word)) → SceneOf (ATick g.a ms word) calm known → BusGoal (ATick g.a ms word)
    bus_reads ms word calm known scene = still_flies (ATick g.a ms word) calm known scene
        (reads_on g [] p.request None traffic w p.asker at_ in_time ms word calm.1 refl
        (has_not_passed ms p.request (let b = bus_by in let q = p.quiet.0 in let k = g.quick in let c = calm.1 in omega (arith, b, q, k, c)) (inr p.quiet.1)))

    -- it comes to the leader
    module _ (k ms : ℕ) (calm : CalmOf (Rx g.n k ms)) (known : KnownOf (Rx g.n k ms)) (same : frame_at w.frames k ≡ p.frame)
        (fly : RequestsFly g p.accepted [] cs traffic w p.scene at_ (Rx g.n k ms) []) where
      leader : AllocatorState
      leader = p.scene.settled.settled.server

      moment_is : max p.scene.settled.settled.server.now ms ≡ at_ + ahead g
      moment_is = let c = p.scene.settled.settled.clock in let m = in_time.moments in let e = calm.1 in omega (arith, c, m, e)

      low : p.due + ahead g ≤ at_ + ahead g
      low = let f = p.from in let m = in_time.moments in omega (arith, f, m)

      high : at_ + ahead g ≤ p.due + g.pace.period + 2 * g.pace.delay + ahead g
      high = let b = bus_by in omega (arith, b)

      request : (moment : ℕ) → IsRequest (arrival_at (frame_at w.frames k) moment) (request_of g.uid g.whole g.preferred j)
      request moment = subst (λ (f : Queued). IsRequest (arrival_at f moment) (request_of g.uid g.whole g.preferred j)) (sym same)
          (request_at p.frame (request_of g.uid g.whole g.preferred j) moment p.asks)

      from_bus : (v : ℕ) → v ≡ zero → (q : IsOnBus g v traffic w) → frame_at w.frames k ≡ q.frame → (r : IsOnBus g zero traffic w) × (frame_at w.frames k ≡ r.frame)
      from_bus zero e q here = (q, here)
      from_bus (suc v) e q here = absurd (omega (arith, e))

      heard : Right g.uid g.whole g.preferred zero p.accepted (p.due + ahead g) (p.due + g.pace.period + 2 * g.pace.delay + ahead g) → j ≡ zero → BusGoal (Rx g.n k ms)
      heard right e = inr (
        p.scene.settled.settled,
        record {
          message = request_of g.uid g.whole g.preferred j;
          asked = its_asked g p.accepted cs traffic w p.scene at_ k ms in_time calm known (request_of g.uid g.whole g.preferred j) request;
          clock = calm.1;
          request = request ms;
          whole = (λ i. answer (p.scene.settled.requests i) (request_of g.uid g.whole g.preferred (e i)) (moment_is i) true) ∙ right (at_ + ahead g) low high;
        },
        (let f = from_bus j e p same in (f.0, k, ms, refl, f.1, fly)),
      )

      on_answer : (i : ℕ) → i ≤ 1 → j ≡ suc i
          → Right g.uid g.whole g.preferred (suc i) p.accepted (p.due + ahead g) (p.due + g.pace.period + 2 * g.pace.delay + ahead g)
          → p.due + g.pace.period + 4 * g.pace.delay + 400 ≤ latest g i → BusGoal (Rx g.n k ms)
      on_answer i one e right room =
          let bytes : List ℕ = take (known_of i) g.uid in
          let message : Allocation = request_of g.uid g.whole g.preferred j in
          let few : length bytes ≤ 16 = (let l = length-take (known_of i) g.uid in let v = g.whole in omega (arith, l, v)) in
          let r = right (at_ + ahead g) low high in
          let says : answer p.accepted message (max p.scene.settled.settled.server.now ms) true ≡ Follows (record { items = bytes })
          = (λ l. answer p.accepted (request_of g.uid g.whole g.preferred (e l)) (moment_is l) true) ∙ r.0 in
          inl (
            i,
            omega (arith, one),
            inr (inr (inr (
              one,
              record {
                accepted = after p.accepted message (max p.scene.settled.settled.server.now ms) true;
                x = answered g p.accepted cs traffic w p.scene at_ k ms in_time calm known message request 0 bytes;
                scene = answers_it g p.accepted cs traffic w p.scene at_ k ms in_time calm known message request bytes few says [] fly;
                request = p.request;
                asker = asker_with g [] p.request None traffic w p.asker at_ in_time (Rx g.n k ms) [] p.request None p.asker.id p.asker.moment
                    p.asker.sessions p.asker.there p.asker.small (read_on g [] p.request None traffic w p.asker at_ in_time);
                what = refl;
                payload = refl;
                right = subst (λ (l : List Accepted). Right g.uid g.whole g.preferred i l (at_ + ahead g) (at_ + ahead g + 500))
                    (sym (λ l. after p.accepted (request_of g.uid g.whole g.preferred (e l)) (moment_is l) true)) r.1;
                quiet = let b = bus_by in let q = p.quiet.0 in let v = g.quick in omega (arith, b, q, v);
                long = p.quiet.1;
                soon = let b = bus_by in omega (arith, b, room);
                from = omega arith;
              },
            ))),
          )

      go : (i : ℕ) → j ≡ i → BusGoal (Rx g.n k ms)
      go zero e = heard (subst (λ (v : ℕ). Right g.uid g.whole g.preferred v p.accepted (p.due + ahead g) (p.due + g.pace.period + 2 * g.pace.delay + ahead g)) e p.stage.right) e
      go (suc zero) e = on_answer zero (omega arith) e
          (subst (λ (v : ℕ). Right g.uid g.whole g.preferred v p.accepted (p.due + ahead g) (p.due + g.pace.period + 2 * g.pace.delay + ahead g)) e p.stage.right)
          (let s : p.due ≤ latest g 1 = subst (λ (v : ℕ). p.due ≤ latest g v) e p.stage.soon in omega (arith, s))
      go (suc (suc zero)) e = on_answer (suc zero) (omega arith) e
          (subst (λ (v : ℕ). Right g.uid g.whole g.preferred v p.accepted (p.due + ahead g) (p.due + g.pace.period + 2 * g.pace.delay + ahead g)) e p.stage.right)
          (let s : p.due ≤ latest g 2 = subst (λ (v : ℕ). p.due ≤ latest g v) e p.stage.soon in omega (arith, s))
      go (suc (suc (suc i))) e = absurd (omega (arith, e, two))

    bus_own : (k ms : ℕ) (calm : CalmOf (Rx g.n k ms)) (known : KnownOf (Rx g.n k ms)) (c : Coming) (more : List Coming) → cs ≡ c ∷ more → frame_at w.frames k ≡ c.frame
        → RequestsFly g p.accepted [] cs traffic w p.scene at_ (Rx g.n k ms) more → BusGoal (Rx g.n k ms)
    bus_own k ms calm known c more e same fly = go k ms calm known
        (same ∙ ap (λ (l : List Coming). (slice_index_or l 0 c).frame) (sym e))
        (subst (λ (l : List Coming). RequestsFly g p.accepted [] cs traffic w p.scene at_ (Rx g.n k ms) l) (sym (ap (λ (l : List Coming). drop 1 l) e)) fly) j refl

    -- each row leaves a phase, or the leader hears the whole unique ID
    pub bus_goes_on : (row : Row) → CalmOf row → KnownOf row → BusGoal row
    bus_goes_on = each_row g [] p.request None p.accepted [] cs traffic w p.scene p.asker at_ in_time BusGoal
        (λ row calm known none scene asker quiet. (still_flies row calm known scene asker))
        (λ ms word calm known none scene. (bus_reads ms word calm known scene))
        (λ calm known. absurd (nothing_sent g p.request None traffic w p.asker calm.1))
        bus_own
        (λ k ms word calm known x rest e none delivers scene. absurd (omega (arith, ap length e)))

  -- ---- the answer is under way

  module _ (i : ℕ) (one : i ≤ 1) (traffic : Traffic) (w : Cluster)
      (p : IsAnswering g i traffic w) (at_ : ℕ) (in_time : IsInTime g.group g.clocks g.pace traffic w at_) where
    abbrev xs : List Made
    xs = p.x ∷ []

    abbrev AnswerGoal : Row → Type 0
    AnswerGoal row = Next g traffic w (record { at = at_; row = row })

    answer_by : at_ ≤ p.x.at + 2 * g.pace.delay
    answer_by = scene_late g p.accepted xs [] traffic w p.scene at_ in_time p.x (inl refl)

    -- it is over in time
    pub answer_end : at_ ≤ last g
    answer_end = let b = answer_by in let s = p.soon in let l = within g i in omega (arith, b, s, l)

    abbrev CalmAnswer : Row → Type 0
    CalmAnswer row = IsCalm g [] p.request None p.accepted xs [] traffic w p.scene p.asker at_ in_time row

    abbrev KnownAnswer : Row → Type 0
    KnownAnswer row = IsKnown g [] p.request None p.accepted xs [] traffic w p.scene p.asker at_ in_time row

    abbrev SceneAnswer : (row : Row) → CalmAnswer row → KnownAnswer row → List Made → Type 0
    SceneAnswer row calm known ys = Then g [] p.request None p.accepted xs [] traffic w p.scene p.asker at_ in_time row calm known p.accepted ys []

    -- it is still under way
    still_comes : (row : Row) (calm : CalmAnswer row) (known : KnownAnswer row) → SceneAnswer row calm known xs
        → AskerThen g [] p.request None traffic w p.asker at_ in_time row [] p.request None → AnswerGoal row
    still_comes row calm known scene asker = inl (
      i,
      omega (arith, one),
      inr (inr (inr (
        one,
        record {
          accepted = p.accepted;
          x = p.x;
          scene = scene;
          request = p.request;
          asker = asker;
          what = p.what;
          payload = p.payload;
          right = p.right;
          quiet = p.quiet;
          long = p.long;
          soon = p.soon;
          from = let f = p.from in let l = in_time.moments in omega (arith, f, l);
        },
      ))),
    )

    answer_reads : (ms word : ℕ) (calm : CalmAnswer (ATick g.a ms word)) (known : KnownAnswer (ATick g.a ms word)) → SceneAnswer (ATick g.a ms word) calm known xs
        → AnswerGoal (ATick g.a ms word)
    answer_reads ms word calm known scene = still_comes (ATick g.a ms word) calm known scene
        (reads_on g [] p.request None traffic w p.asker at_ in_time ms word calm.1 refl
        (has_not_passed ms p.request (let b = answer_by in let q = p.quiet in let c = calm.1 in omega (arith, b, q, c)) (inr p.long)))

    -- it comes to the device
    module _ (k ms word : ℕ) (calm : CalmAnswer (ARx g.a k ms word)) (known : KnownAnswer (ARx g.a k ms word)) (scene : SceneAnswer (ARx g.a k ms word) calm known [])
        (delivers : DeliversTo g.a p.x.transfer w (ARx g.a k ms word)) where
      now_is : ms ≡ at_ + its_clock g
      now_is = calm.1

      older : p.asker.moment ≤ ms
      older = let r = read_on g [] p.request None traffic w p.asker at_ in_time in omega (arith, r, now_is)

      here : Device
      here = device_as g.uid g.preferred [] p.asker.id p.asker.moment p.request None p.asker.sessions

      arrival : Arrival
      arrival = arrival_at (frame_at w.frames k) ms

      gives_it : received setting p.asker.sessions (arrival_at (frame_at w.frames k) ms) ≡ Gives (transfer.delivery_of p.x.transfer)
      gives_it = delivers_it g [] p.request None traffic w p.asker at_ in_time k ms word now_is p.x.transfer delivers

      message : Allocation
      message = record { node = 0; first_part = false; uid = record { items = take (known_of i) g.uid } }

      asking : Asking
      asking = asking_as g.uid g.preferred [] p.asker.id ms p.request None

      taken_as : after_receiver_answer word (received setting p.asker.sessions (arrival_at (frame_at w.frames k) ms)) (asking_as g.uid g.preferred [] p.asker.id ms p.request None)
          ≡ after_allocation word false (record { node = 0; first_part = false; uid = record { items = take (known_of i) g.uid } })
          (asking_as g.uid g.preferred [] p.asker.id ms p.request None)
      taken_as =
          let short : length (take (known_of i) g.uid) ≤ 16 = (let l = length-take (known_of i) g.uid in let v = g.whole in omega (arith, l, v)) in
          ap (λ (x : Answer). after_receiver_answer word x (asking_as g.uid g.preferred [] p.asker.id ms p.request None)) gives_it
          ∙ ((λ l. after_reading word (is_anonymous (kind_of (p.what l))) (allocation_of (p.payload l)) (asking_as g.uid g.preferred [] p.asker.id ms p.request None))
          ∙ ap (λ (o : Option Allocation). after_reading word false o (asking_as g.uid g.preferred [] p.asker.id ms p.request None))
          (g.below.read (record { node = 0; first_part = false; uid = record { items = take (known_of i) g.uid } }) (record { node = omega arith; uid = short })))

      -- the device waits to follow up
      follows : 1 ≤ known_of i → known_of i < length g.uid
          → ((due moment : ℕ) (timer : Timer) → timer.since + timer.length ≡ due + its_clock g → timer.since ≤ moment → Quiet g due (timer_from ms (request_wait word))
          → IsDue g i due moment (timer_from ms (request_wait word)) (Some (record { timer = timer; known = known_of i })))
          → AnswerGoal (ARx g.a k ms word)
      follows some part dues = inl (
        i,
        omega (arith, one),
        inl (record {
          due = at_ + follow_up_wait word;
          accepted = p.accepted;
          scene = scene;
          stage = record {
            soon = let b = answer_by in let s = p.soon in omega (arith, b, s);
            right = right_within g.uid g.whole g.preferred i p.accepted (p.x.at + ahead g) (p.x.at + ahead g + 500)
                (at_ + follow_up_wait word + ahead g) (at_ + follow_up_wait word + g.pace.period + 2 * g.pace.delay + ahead g)
                (let f = p.from in let l = in_time.moments in omega (arith, f, l)) (let b = answer_by in let q = g.quick in omega (arith, b, q)) p.right;
          };
          request = timer_from ms (request_wait word);
          follow_up = Some (record { timer = timer_from ms (follow_up_wait word); known = known_of i });
          asker = asker_with g [] p.request None traffic w p.asker at_ in_time (ARx g.a k ms word) [] (timer_from ms (request_wait word))
              (Some (record { timer = timer_from ms (follow_up_wait word); known = known_of i })) p.asker.id ms
              (next_sessions setting p.asker.sessions (arrival_at (frame_at w.frames k) ms))
              (device_steps w g.a (device.Rx (arrival_at (frame_at w.frames k) ms) word) (device_as g.uid g.preferred [] p.asker.id p.asker.moment p.request None p.asker.sessions)
              (device_as g.uid g.preferred [] p.asker.id ms (timer_from ms (request_wait word)) (Some (record { timer = timer_from ms (follow_up_wait word); known = known_of i }))
              (next_sessions setting p.asker.sessions (arrival_at (frame_at w.frames k) ms))) p.asker.there
              (hears g.uid g.preferred [] p.asker.id p.asker.moment p.request None p.asker.sessions (w.rows + 1) word (arrival_at (frame_at w.frames k) ms) older
              ∙ ap (λ (x : Asking). record { asking = x; sessions = next_sessions setting p.asker.sessions (arrival_at (frame_at w.frames k) ms) })
              (taken_as ∙ follows_up g.uid g.preferred p.asker.id ms p.request None word 0 (known_of i) some part)))
              p.asker.small (let e = now_is in omega (arith, e));
          waits_for = dues (at_ + follow_up_wait word) (at_ + its_clock g) (timer_from ms (follow_up_wait word)) (let e = now_is in omega (arith, e)) (let e = now_is in omega (arith, e))
              (let e = now_is in let q = g.quick in omega (arith, e, q), omega arith);
          ticked = let t_ = p.asker.past in let l = in_time.moments in ticked_by (reads (ARx g.a k ms word) (OfDevice g.a)) t_ l;
        }),
      )
        where
          ticked_by : (b : Bool) → traffic.ticked (OfDevice g.a) ≤ traffic.at → traffic.at ≤ at_ → traffic.ticked (OfDevice g.a) ≤ at_ + follow_up_wait word
          ticked_by b t_ l = omega (arith, t_, l)

    answer_gives : (k ms word : ℕ) (calm : CalmAnswer (ARx g.a k ms word)) (known : KnownAnswer (ARx g.a k ms word)) (x : Made) (rest : List Made) → xs ≡ x ∷ rest
        → DeliversTo g.a x.transfer w (ARx g.a k ms word) → SceneAnswer (ARx g.a k ms word) calm known rest → AnswerGoal (ARx g.a k ms word)
    answer_gives k ms word calm known x rest e delivers scene = by i refl
      where
        same : x ≡ p.x
        same = ap (λ (l : List Made). slice_index_or l 0 x) (sym e)

        scene_then : SceneAnswer (ARx g.a k ms word) calm known []
        scene_then = subst (λ (l : List Made). SceneAnswer (ARx g.a k ms word) calm known l) (sym (ap (λ (l : List Made). drop 1 l) e)) scene

        delivers_it : DeliversTo g.a p.x.transfer w (ARx g.a k ms word)
        delivers_it = subst (λ (y : Made). DeliversTo g.a y.transfer w (ARx g.a k ms word)) same delivers

        by : (v : ℕ) → i ≡ v → AnswerGoal (ARx g.a k ms word)
        by zero z = follows k ms word calm known scene_then delivers_it (subst (λ (v : ℕ). 1 ≤ known_of v) (sym z) (omega arith))
            (subst (λ (v : ℕ). known_of v < length g.uid) (sym z) (let v = g.whole in omega (arith, v)))
            (λ due moment timer ends since quiet. subst (λ (v : ℕ). IsDue g v due moment (timer_from ms (request_wait word)) (Some (record { timer = timer; known = known_of v }))) (sym z)
            (timer, refl, ends, since, quiet))
        by (suc zero) z = follows k ms word calm known scene_then delivers_it (subst (λ (v : ℕ). 1 ≤ known_of v) (sym z) (omega arith))
            (subst (λ (v : ℕ). known_of v < length g.uid) (sym z) (let v = g.whole in omega (arith, v)))
            (λ due moment timer ends since quiet. subst (λ (v : ℕ). IsDue g v due moment (timer_from ms (request_wait word)) (Some (record { timer = timer; known = known_of v }))) (sym z)
            (timer, refl, ends, since, quiet))
        by (suc (suc v)) z = absurd (omega (arith, z, one))

    -- each row leaves a phase
    pub answering_goes_on : (row : Row) → CalmAnswer row → KnownAnswer row → Next g traffic w (record { at = at_; row = row })
    answering_goes_on = each_row g [] p.request None p.accepted xs [] traffic w p.scene p.asker at_ in_time (λ (row : Row). Next g traffic w (record { at = at_; row = row }))
        (λ row calm known none scene asker quiet. (still_comes row calm known scene asker))
        (λ ms word calm known none scene. (answer_reads ms word calm known scene))
        (λ calm known. absurd (nothing_sent g p.request None traffic w p.asker calm.1))
        (λ k ms calm known c more e same fly. absurd (omega (arith, ap length e)))
        (λ k ms word calm known x rest e none delivers scene. (answer_gives k ms word calm known x rest e delivers scene))
