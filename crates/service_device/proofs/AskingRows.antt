-- Each row of a calm in which a device asks already, and a leader has settled.
use Rattle.std.proofs.Common.{◌≡◌, ◌≢◌, ℕ, ◌+◌, ◌≤◌, List, [], ◌∷◌, ◌++◌, refl, sym, ◌∙◌, ap, subst, arith, inl, inr, Option, None, Some}
use Rattle.std.specs.Prelude.{is_some}
use Rattle.dsdl_codec.specs.declared.allocation.Allocation.{Allocation}
use Rattle.dsdl_codec.specs.Allocation.{allocation_of}
use Rattle.raft_model.specs.Lists.{In}
use Rattle.bus_rows.specs.declared.row.Row.{Row}
use Rattle.bus_rows.specs.declared.row.Row.TheVariants.{AEnd, AOpen, ARx, ASend, ATick, Crash, Ext, Fault, Open, Rx, Send, Tick}
use Rattle.transfer_rx.specs.Reassembly.{Answer, Arrival, Delivery, Gives, answer as received, next as next_sessions}
use Rattle.transfer_rx.specs.Sessions.{Session}
use Rattle.transfer_tx.specs.Queue.{Queued, left_behind, next_out}
use Rattle.allocatee.specs.Accepted.{setting}
use Rattle.allocatee.specs.Allocatee.{Device, after_receiver_answer, step}
use Rattle.allocatee.specs.Allocatee as device
use Rattle.allocatee.specs.Asking.{Asking, request_wait, timer_from}
use Rattle.service_alone.specs.Calm.{next_on_bus}
use Rattle.service_alone.proofs.Asking.{its_own}
use Rattle.service_alone.proofs.CalmDevice.{asking_as, device_as, receives as hears_frame}
use Rattle.service_alone.proofs.CalmStages.{device_steps}
use Rattle.service_calm.specs.Calm.{Device as OfDevice, IsCalmRow, IsInTime, Member as OfMember, Traffic, traffic_after}
use Rattle.service_calm.specs.Comes as transfer
use Rattle.service_calm.specs.Comes.{sent_by}
use Rattle.service_device.proofs.AskingDevice as own
use Rattle.service_device.proofs.AskingExchange.{rank}
use Rattle.service_device.proofs.AskingRoad.{AreFew, Road, road_late, road_on}
use Rattle.service_device.proofs.AskingTimes.{IsFresh, times_gone, times_sent, times_taken, until, until_least}
use Rattle.service_device.proofs.DialogAsked.{FramesFly, frames_on}
use Rattle.service_device.proofs.DialogFrames.{HasSource, IsBearable}
use Rattle.service_device.proofs.DialogPhases.{its_clock}
use Rattle.service_device.proofs.DialogRows.{Asker, asker_with, delivers_it, hears_nothing, nothing_sent, read_on}
use Rattle.service_device.proofs.DialogScene.{Known, Talk}
use Rattle.service_calm.proofs.Pending.{Coming, Made}
use Rattle.service_calm.proofs.Ways.{Flying, flying_late, flying_own}
use Rattle.bus_spec.specs.Allocatees.{after_sending_from, next_from}
use Rattle.bus_spec.specs.Cluster.{Cluster, after_row, arrival_at, frame_at, in_list}
use Rattle.service_device.proofs.AskingGoes.{GoesOn, IsGoingOn, goes_with, last_request, older, queue_is, stays, times_same}
use Rattle.service_device.proofs.AskingHeard.{comes_it}
use Rattle.service_device.proofs.AskingReads.{reads_it}

module _ (g : Talk) (from : ℕ)
    (traffic : Traffic) (w : Cluster) (l : IsGoingOn g from traffic w) (at_ : ℕ) (in_time : IsInTime g.group g.clocks g.pace traffic w at_) where
  abbrev Goal : Row → Type 0
  Goal row = GoesOn g from traffic w (record { at = at_; row = row })

  abbrev then_traffic : Row → Traffic
  then_traffic row = traffic_after traffic w (record { at = at_; row = row })

  abbrev Calm : Row → Type 0
  Calm row = IsCalmRow g.group g.clocks g.pace traffic w at_ row

  abbrev KnownOf : Row → Type 0
  KnownOf row = Known g traffic.at w (record { at = at_; row = row })

  abbrev ticked : ℕ
  ticked = traffic.ticked (OfDevice g.a)

  abbrev waits : ℕ
  waits = traffic.waits (OfDevice g.a)

  abbrev here_ : Device
  here_ = device_as g.uid g.preferred l.queue l.asker.id l.asker.moment l.request l.follow_up l.asker.sessions

  -- ---- a frame of the device goes to the bus

  sends : (calm : Calm (ASend g.a)) → KnownOf (ASend g.a) → AreFew g.n w (ASend g.a) → Goal (ASend g.a)
  sends calm known short = by (next_out l.queue) refl
    where
      out_is : next_from (w.allocatee g.a) ≡ next_out l.queue
      out_is = ap next_from l.asker.there

      some : l.queue ≢ []
      some none = nothing_sent g l.request l.follow_up traffic w (subst (λ (q : List Queued). Asker g q l.request l.follow_up traffic w) none l.asker) calm.1

      in_delay : at_ ≤ waits + g.pace.delay
      in_delay = in_time.sends_soon (OfDevice g.a) g.in_a (λ none. some (sym (queue_is g from traffic w l at_ in_time) ∙ none))

      by : (o : Option Queued) → next_out l.queue ≡ o → Goal (ASend g.a)
      by None e = absurd (cc (sym (ap (λ (o : Option Queued). is_some o) (out_is ∙ e)) ∙ calm.1))
      by (Some f) e =
          let c : Coming = record { at = waits; frame = f } in
          let frames : (after_row w (ASend g.a)).frames ≡ w.frames ++ f ∷ [] = ap (λ (o : Option Queued). w.frames ++ in_list o) (out_is ∙ e) in
          let fly : Flying HasSource g.pace.delay (after_row w (ASend g.a)).frames ((then_traffic (ASend g.a)).to (OfMember g.n)) (l.cs ++ c ∷ [])
          = subst (λ (q : List Queued). Flying HasSource g.pace.delay q (traffic.to (OfMember g.n) ++ next_on_bus at_ w ∷ []) (l.cs ++ c ∷ [])) (sym frames)
          (flying_own HasSource g.pace.delay w.frames c at_ (traffic.to (OfMember g.n)) l.cs in_delay l.road.requests) in
          let r = road_on g l.accepted l.xs l.cs l.ss traffic w l.road at_ (ASend g.a) in_time calm known short (λ message is. cc (is.comes.comes)) (l.cs ++ c ∷ []) fly in
          elim r.2 [
            | inl on ↦ goes_with g from traffic w l at_ in_time (ASend g.a) l.accepted l.xs (l.cs ++ c ∷ []) r.0 on.0 r.1 (left_behind l.queue) l.request l.follow_up
                (asker_with g l.queue l.request l.follow_up traffic w l.asker at_ in_time (ASend g.a) (left_behind l.queue) l.request l.follow_up l.asker.id l.asker.moment
                l.asker.sessions (its_own w g.a (after_sending_from (w.allocatee g.a)) ∙ ap after_sending_from l.asker.there) l.asker.small
                (read_on g l.queue l.request l.follow_up traffic w l.asker at_ in_time)) ticked refl
                (times_sent g from l.accepted l.xs l.cs l.queue l.request l.follow_up traffic.at ticked waits l.times at_ in_time.moments f e c refl refl some)
            | inr ends ↦ absurd (cc (ends.3.comes))
          ]

  -- ---- a frame comes to the device

  module _ (k word : ℕ) (calm : Calm (ARx g.a k (at_ + its_clock g) word)) (known : KnownOf (ARx g.a k (at_ + its_clock g) word)) (short : AreFew g.n w (ARx g.a k (at_ + its_clock g) word)) where
    abbrev arrival : Arrival
    arrival = arrival_at (frame_at w.frames k) (at_ + its_clock g)

    abbrev answer_is : Answer
    answer_is = received setting l.asker.sessions (arrival_at (frame_at w.frames k) (at_ + its_clock g))

    abbrev before : Asking
    before = asking_as g.uid g.preferred l.queue l.asker.id (at_ + its_clock g) l.request l.follow_up

    abbrev sessions_then : List Session
    sessions_then = next_sessions setting l.asker.sessions (arrival_at (frame_at w.frames k) (at_ + its_clock g))

    there_with : (b : Asking) → after_receiver_answer word answer_is before ≡ b
        → (after_row w (ARx g.a k (at_ + its_clock g) word)).allocatee g.a ≡ Some (record { asking = b; sessions = sessions_then })
    there_with b same = device_steps w g.a (device.Rx (arrival_at (frame_at w.frames k) (at_ + its_clock g)) word) here_ (record { asking = b; sessions = sessions_then }) l.asker.there
        (hears_frame g.uid g.preferred l.queue l.asker.id l.asker.moment l.request l.follow_up l.asker.sessions (w.rows + 1) word (arrival_at (frame_at w.frames k) (at_ + its_clock g)) (older g from traffic w l at_ in_time)
        ∙ ap (λ (x : Asking). record { asking = x; sessions = sessions_then }) same)

    -- it may take what comes
    hears_it : (rest : List Made) (rs : List Coming) → Road g l.accepted rest l.cs rs (then_traffic (ARx g.a k (at_ + its_clock g) word)) (after_row w (ARx g.a k (at_ + its_clock g) word))
        → ((c : Coming) → In c rs → In c l.ss) → ((x : Made) → In x rest → In x l.xs) → at_ ≤ until g from (rank l.accepted)
        → (((d : Delivery) (message : Allocation) → answer_is ≡ Gives d → allocation_of d.payload ≡ Some message → ⊥) → IsFresh g from l.accepted l.request rest)
        → Goal (ARx g.a k (at_ + its_clock g) word)
    hears_it rest rs road among some by fresh = elim (own.hears g.uid g.preferred word l.queue l.asker.id (at_ + its_clock g) l.request l.follow_up answer_is) [
      | inl none ↦ goes_with g from traffic w l at_ in_time (ARx g.a k (at_ + its_clock g) word) l.accepted rest l.cs rs road among l.queue l.request l.follow_up
          (asker_with g l.queue l.request l.follow_up traffic w l.asker at_ in_time (ARx g.a k (at_ + its_clock g) word) l.queue l.request l.follow_up l.asker.id (at_ + its_clock g)
          sessions_then (there_with before none.0) l.asker.small (omega arith)) ticked refl
          (times_gone g from l.accepted l.xs l.cs l.queue l.request l.follow_up traffic.at ticked waits l.times at_ in_time.moments rest some (fresh none.1))
      | inr y ↦ elim y [
        | inl holds ↦ inr (inl (record { asking = after_receiver_answer word answer_is before; sessions = sessions_then }, there_with (after_receiver_answer word answer_is before) refl, holds.0, holds.1))
        | inr took ↦ goes_with g from traffic w l at_ in_time (ARx g.a k (at_ + its_clock g) word) l.accepted rest l.cs rs road among l.queue (timer_from (at_ + its_clock g) (request_wait word)) took.0
            (asker_with g l.queue l.request l.follow_up traffic w l.asker at_ in_time (ARx g.a k (at_ + its_clock g) word) l.queue (timer_from (at_ + its_clock g) (request_wait word)) took.0
            l.asker.id (at_ + its_clock g) sessions_then
            (there_with (asking_as g.uid g.preferred l.queue l.asker.id (at_ + its_clock g) (timer_from (at_ + its_clock g) (request_wait word)) took.0) took.1) l.asker.small (omega arith)) ticked refl
            (times_taken g from l.accepted l.xs l.cs l.queue l.request l.follow_up traffic.at ticked waits l.times at_ in_time.moments rest some by (last_request g from traffic w l at_ in_time) word took.0 took.2 l.asker.past)
      ]
    ]

    frame_comes : Goal (ARx g.a k (at_ + its_clock g) word)
    frame_comes = elim (frames_on g l.cs traffic w l.road.well l.road.requests at_ (ARx g.a k (at_ + its_clock g) word) calm (λ e. cc (e))) [
      | inl out ↦
          let r = road_on g l.accepted l.xs l.cs l.ss traffic w l.road at_ (ARx g.a k (at_ + its_clock g) word) in_time calm known short out.0 l.cs out.1 in
          elim r.2 [
            | inl on ↦ elim (on.1 k (at_ + its_clock g) word refl) [
              | inl nothing ↦ goes_with g from traffic w l at_ in_time (ARx g.a k (at_ + its_clock g) word) l.accepted l.xs l.cs r.0 on.0 r.1 l.queue l.request l.follow_up
                  (hears_nothing g l.queue l.request l.follow_up traffic w l.asker at_ in_time k (at_ + its_clock g) word refl (nothing l.asker.sessions (at_ + its_clock g))) ticked refl (times_same g from traffic w l at_ in_time)
              | inr old ↦
                  let low = l.old old.0 old.1 in
                  let by = flying_late (IsBearable g.n) g.pace.delay w.frames at_ (traffic.to (OfDevice g.a)) l.ss l.road.bears (in_time.hears (OfDevice g.a) g.in_a) old.0 old.1 in
                  let u = until_least g from (rank l.accepted) in
                  hears_it l.xs r.0 on.0 r.1 (λ x i. i) (omega (arith, low, by, u)) (λ none. l.times.fresh)
            ]
            | inr ends ↦
                let in_xs : In ends.0 l.xs = subst (λ (ys : List Made). In ends.0 ys) (sym ends.2) (inl refl) in
                let made = (l.times.made_by ends.0 in_xs).0 in
                let by = road_late g l.accepted l.xs l.cs l.ss traffic w l.road at_ in_time ends.0 in_xs in
                hears_it ends.1 r.0 ends.4 r.1 (λ x i. subst (λ (ys : List Made). In x ys) (sym ends.2) (inr i)) (omega (arith, made, by))
                (λ none. elim l.times.fresh [
                  | inl old ↦ inl old
                  | inr y ↦ elim y [
                    | inl answered ↦ inr (inl answered)
                    | inr way ↦ elim (subst (λ (ys : List Made). In way.0 ys) ends.2 way.1) [
                      | inl same ↦ absurd (none (transfer.delivery_of ends.0.transfer) way.3 (delivers_it g l.queue l.request l.follow_up traffic w l.asker at_ in_time k (at_ + its_clock g) word refl ends.0.transfer ends.3)
                          (subst (λ (x : Made). allocation_of x.transfer.offer.payload ≡ Some way.3) same way.4))
                      | inr rest ↦ inr (inr (way.0, rest, way.2, way.3, way.4))
                    ]
                  ]
                ])
          ]
      | inr no_one ↦ absurd (cc (no_one.2))
    ]

  -- ---- each row

  abbrev Each : Row → Type 0
  Each row = Calm row → KnownOf row → AreFew g.n w row → Goal row

  a_tick : (ms word : ℕ) → ms ≡ at_ + its_clock g → Each (ATick g.a ms word)
  a_tick ms word e = subst (λ (m : ℕ). Each (ATick g.a m word)) (sym e) (reads_it g from traffic w l at_ in_time word)

  a_frame : (k ms word : ℕ) → ms ≡ at_ + its_clock g → Each (ARx g.a k ms word)
  a_frame k ms word e = subst (λ (m : ℕ). Each (ARx g.a k m word)) (sym e) (frame_comes k word)

  pub each_row : (row : Row) → Each row
  each_row (Tick p ms word) calm known short = elim (frames_on g l.cs traffic w l.road.well l.road.requests at_ (Tick p ms word) calm (λ e. cc (e))) [
    | inl out ↦ stays g from traffic w l at_ in_time (Tick p ms word) calm known short out.0 l.cs out.1 (times_same g from traffic w l at_ in_time) refl refl (λ x is. cc (is.comes))
    | inr no_one ↦ absurd (cc (no_one.2))
  ]
  each_row (Rx p k ms) calm known short = elim (frames_on g l.cs traffic w l.road.well l.road.requests at_ (Rx p k ms) calm (λ e. cc (e))) [
    | inl out ↦ stays g from traffic w l at_ in_time (Rx p k ms) calm known short out.0 l.cs out.1 (times_same g from traffic w l at_ in_time) refl refl (λ x is. cc (is.comes))
    | inr is ↦ subst (λ (row : Row). FramesFly g l.cs traffic w l.road.well l.road.requests at_ row is.4 → Each row) (sym is.2)
        (λ fly calm_ known_ short_. comes_it g from traffic w l at_ in_time is.0 is.1 calm_ known_ short_ is.3 is.4 is.5 is.6 fly) is.7 calm known short
  ]
  each_row (Send p) calm known short = elim (frames_on g l.cs traffic w l.road.well l.road.requests at_ (Send p) calm (λ e. cc (e))) [
    | inl out ↦ stays g from traffic w l at_ in_time (Send p) calm known short out.0 l.cs out.1 (times_same g from traffic w l at_ in_time) refl refl (λ x is. cc (is.comes))
    | inr no_one ↦ absurd (cc (no_one.2))
  ]
  each_row (ATick b ms word) calm known short = subst (λ (c : ℕ). Each (ATick c ms word)) (sym (g.alone b calm.0)) (λ c. a_tick ms word c.1 c) calm known short
  each_row (ARx b k ms word) calm known short = subst (λ (c : ℕ). Each (ARx c k ms word)) (sym (g.alone b calm.0)) (λ c. a_frame k ms word c.1 c) calm known short
  each_row (ASend b) calm known short = subst (λ (c : ℕ). Each (ASend c)) (sym (g.alone b calm.0)) sends calm known short
  each_row (Open p told ms word) calm known short = absurd calm
  each_row (Ext frame) calm known short = absurd calm
  each_row (Crash p calls pattern) calm known short = absurd calm
  each_row (Fault p call) calm known short = absurd calm
  each_row (AOpen b uid pref ms word) calm known short = absurd calm
  each_row (AEnd b) calm known short = absurd calm
