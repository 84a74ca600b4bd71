-- Each row of a dialog, by what it is to the device: a tick, a frame that it sends, an Allocation that it hears, or none of
-- these.
use Rattle.std.proofs.Common.{◌≡◌, ℕ, ◌+◌, ◌<◌, ◌≤◌, Bool, true, false, List, [], ◌∷◌, max, refl, sym, ◌∙◌, ap, subst, arith, inl, inr, Option, None, Some}
use Rattle.std.specs.Prelude.{is_some, if◌then◌else◌}
use Rattle.alloc_exchange.specs.Exchange.{Accepted}
use Rattle.bus_rows.specs.declared.row.Row.{Row}
use Rattle.bus_rows.specs.declared.row.Row.TheVariants.{AEnd, AOpen, ARx, ASend, ATick, Crash, Ext, Fault, Open, Rx, Send, Tick}
use Rattle.transfer_rx.specs.Reassembly.{Answer, Arrival, Continues, Drops, Gives, answer, next}
use Rattle.transfer_rx.specs.Sessions.{Session}
use Rattle.transfer_tx.specs.Queue.{Queued, next_out}
use Rattle.allocatee.specs.Accepted.{setting}
use Rattle.allocatee.specs.Allocatee.{Device, after_receiver_answer, step}
use Rattle.allocatee.specs.Allocatee as device
use Rattle.allocatee.specs.Asking.{Asking, due as is_due, has_passed}
use Rattle.allocatee.specs.declared.timer.FollowUp.{FollowUp}
use Rattle.allocatee.specs.declared.timer.Timer.{Timer}
use Rattle.alloc_spec.specs.Transfers.{SentTransfer}
use Rattle.service_alone.proofs.CalmDevice.{asking_as, device_as, receives as hears, ticks_quietly}
use Rattle.service_alone.proofs.CalmStages.{device_steps}
use Rattle.service_alone.proofs.Receiving.{GivesNone}
use Rattle.service_calm.specs.Calm.{Device as OfDevice, IsCalmRow, IsInTime, Traffic, reads, traffic_after}
use Rattle.service_calm.specs.Comes as transfer
use Rattle.service_calm.specs.Devices.{DeliversTo}
use Rattle.service_device.specs.Settled.{IsNotAsked}
use Rattle.service_device.proofs.DialogAsked.{RequestsFly, requests_on}
use Rattle.service_device.proofs.DialogScene.{Known, Scene, SceneThen, Talk, scene_on}
use Rattle.service_calm.proofs.Pending.{Coming, Made}
use Rattle.bus_spec.specs.Allocatees.{next_from}
use Rattle.bus_spec.specs.Cluster.{Cluster, after_row, arrival_at, frame_at}

-- an answer that gives nothing changes nothing of what is asked
none_taken : (word : ℕ) (x : Answer) (asking : Asking) → GivesNone x → after_receiver_answer word x asking ≡ asking
none_taken word (Gives d) asking none = absurd none
none_taken word Continues asking none = refl
none_taken word (Drops why) asking none = refl

-- where nothing waits, nothing goes out
nothing_out : is_some (next_out []) ≡ true → ⊥
unfolding next_out
nothing_out e = cc (e)

module _ (g : Talk) where
  -- ---- the device asks

  -- It waits for what these timers say. Its frames wait in its queue, and its clock went on with the calm.
  pub record Asker (queue : List Queued) (request : Timer) (follow_up : Option FollowUp) (traffic : Traffic) (w : Cluster) : Type 0 where
    pub id : ℕ
    pub moment : ℕ
    pub sessions : List Session
    pub there : w.allocatee g.a ≡ Some (device_as g.uid g.preferred queue id moment request follow_up sessions)
    pub small : id < 32
    pub read : moment ≤ traffic.at + g.clocks (OfDevice g.a)
    pub past : traffic.ticked (OfDevice g.a) ≤ traffic.at

  -- nothing goes out of an empty queue
  pub nothing_sent : (request : Timer) (follow_up : Option FollowUp) (traffic : Traffic) (w : Cluster) → Asker [] request follow_up traffic w
      → is_some (next_from (w.allocatee g.a)) ≡ true → ⊥
  nothing_sent request follow_up traffic w d some = nothing_out (ap (λ (x : Option Device). is_some (next_from x)) (sym d.there) ∙ some)

  module _ (queue : List Queued) (request : Timer) (follow_up : Option FollowUp) (traffic : Traffic) (w : Cluster) (d : Asker queue request follow_up traffic w) (at_ : ℕ)
      (in_time : IsInTime g.group g.clocks g.pace traffic w at_) where
    abbrev pub then_traffic : Row → Traffic
    then_traffic row = traffic_after traffic w (record { at = at_; row = row })

    abbrev pub AskerThen : Row → List Queued → Timer → Option FollowUp → Type 0
    AskerThen row q r f = Asker q r f (then_traffic row) (after_row w row)

    pub read_on : d.moment ≤ at_ + g.clocks (OfDevice g.a)
    read_on = let r = d.read in let l = in_time.moments in omega (arith, r, l)

    -- the device with another state, behind a row
    pub asker_with : (row : Row) (q : List Queued) (r : Timer) (f : Option FollowUp) (id moment : ℕ) (sessions : List Session)
        → (after_row w row).allocatee g.a ≡ Some (device_as g.uid g.preferred q id moment r f sessions) → id < 32
        → moment ≤ at_ + g.clocks (OfDevice g.a) → AskerThen row q r f
    asker_with row q r f id moment sessions there small read = record {
      id = id;
      moment = moment;
      sessions = sessions;
      there = there;
      small = small;
      read = read;
      past = by (reads row (OfDevice g.a));
    }
      where
        by : (b : Bool) → (if b then at_ else traffic.ticked (OfDevice g.a)) ≤ at_
        by true = omega arith
        by false = let p = d.past in let l = in_time.moments in omega (arith, p, l)

    -- it is as it was
    pub as_it_was : (row : Row) → (after_row w row).allocatee g.a ≡ w.allocatee g.a → AskerThen row queue request follow_up
    as_it_was row same = asker_with row queue request follow_up d.id d.moment d.sessions (same ∙ d.there) d.small read_on

    -- it reads its clock, and nothing is due
    pub reads_on : (ms word : ℕ) → ms ≡ at_ + g.clocks (OfDevice g.a) → is_due ms follow_up ≡ None → has_passed ms request ≡ false
        → AskerThen (ATick g.a ms word) queue request follow_up
    reads_on ms word now_is none early = asker_with (ATick g.a ms word) queue request follow_up d.id ms d.sessions
        (device_steps w g.a (device.Tick ms word) (device_as g.uid g.preferred queue d.id d.moment request follow_up d.sessions)
        (device_as g.uid g.preferred queue d.id ms request follow_up d.sessions) d.there
        (ticks_quietly g.uid g.preferred d.id d.moment ms (let r = read_on in omega (arith, r, now_is)) request d.sessions (w.rows + 1) word queue follow_up none early))
        d.small (omega (arith, now_is))

    some_device : (x y : Device) → ◌≡◌ {A = Option Device} (Some x) (Some y) → x ≡ y
    some_device x y e = cc (e)

    -- a transfer that is delivered to it is what its receiver gives
    pub delivers_it : (k ms word : ℕ) → ms ≡ at_ + g.clocks (OfDevice g.a) → (x : SentTransfer) → DeliversTo g.a x w (ARx g.a k ms word)
        → answer setting d.sessions (arrival_at (frame_at w.frames k) ms) ≡ Gives (transfer.delivery_of x)
    delivers_it k ms word now_is x is =
        let same : is.device ≡ device_as g.uid g.preferred queue d.id d.moment request follow_up d.sessions
        = some_device is.device (device_as g.uid g.preferred queue d.id d.moment request follow_up d.sessions) (sym is.there ∙ d.there) in
        let same_k : is.k ≡ k = cc (is.comes) in
        let same_ms : is.ms ≡ ms = cc (is.comes) in
        let now : max d.moment ms ≡ ms = (let r = read_on in omega (arith, r, now_is)) in
        ap (λ (m : ℕ). answer setting d.sessions (arrival_at (frame_at w.frames k) m)) (sym now)
        ∙ ((λ i. answer setting (sym same i).sessions (arrival_at (frame_at w.frames (sym same_k i)) (max (sym same i).asking.moment (sym same_ms i)))) ∙ is.gives)

    -- a frame comes that gives nothing
    pub hears_nothing : (k ms word : ℕ) → ms ≡ at_ + g.clocks (OfDevice g.a) → GivesNone (answer setting d.sessions (arrival_at (frame_at w.frames k) ms))
        → AskerThen (ARx g.a k ms word) queue request follow_up
    hears_nothing k ms word now_is none = asker_with (ARx g.a k ms word) queue request follow_up d.id ms (next setting d.sessions arrival)
        (device_steps w g.a (device.Rx arrival word) (device_as g.uid g.preferred queue d.id d.moment request follow_up d.sessions)
        (device_as g.uid g.preferred queue d.id ms request follow_up (next setting d.sessions arrival)) d.there
        (hears g.uid g.preferred queue d.id d.moment request follow_up d.sessions (w.rows + 1) word arrival (let r = read_on in omega (arith, r, now_is))
        ∙ ap (λ (x : Asking). record { asking = x; sessions = next setting d.sessions arrival })
        (none_taken word (answer setting d.sessions arrival) (asking_as g.uid g.preferred queue d.id ms request follow_up) none)))
        d.small (omega (arith, now_is))
      where
        arrival : Arrival
        arrival = arrival_at (frame_at w.frames k) ms

  module _ (queue : List Queued) (request : Timer) (follow_up : Option FollowUp) (accepted : List Accepted) (xs : List Made) (cs : List Coming)
      (traffic : Traffic) (w : Cluster) (s : Scene g accepted xs cs traffic w) (d : Asker queue request follow_up traffic w) (at_ : ℕ)
      (in_time : IsInTime g.group g.clocks g.pace traffic w at_) where
    abbrev pub IsCalm : Row → Type 0
    IsCalm row = IsCalmRow g.group g.clocks g.pace traffic w at_ row

    abbrev pub IsKnown : Row → Type 0
    IsKnown row = Known g traffic.at w (record { at = at_; row = row })

    abbrev pub Then : (row : Row) → IsCalm row → IsKnown row → List Accepted → List Made → List Coming → Type 0
    Then row calm known = SceneThen g accepted xs cs traffic w s at_ row in_time calm known

    abbrev Stays : Row → Type 0
    Stays row = AskerThen queue request follow_up traffic w d at_ in_time row queue request follow_up

    -- ---- each row

    -- what is to show behind a row, from what is known of it
    module _ (Goal : Row → Type 0)
        (keep : (row : Row) (calm : IsCalm row) (known : IsKnown row) → IsNotAsked g.n w row → Then row calm known accepted xs cs → Stays row
        → reads row (OfDevice g.a) ≡ false → Goal row)
        (tick : (ms word : ℕ) (calm : IsCalm (ATick g.a ms word)) (known : IsKnown (ATick g.a ms word)) → IsNotAsked g.n w (ATick g.a ms word) → Then (ATick g.a ms word) calm known accepted xs cs
        → Goal (ATick g.a ms word))
        (send : (calm : IsCalm (ASend g.a)) (known : IsKnown (ASend g.a)) → Goal (ASend g.a))
        (own : (k ms : ℕ) (calm : IsCalm (Rx g.n k ms)) (known : IsKnown (Rx g.n k ms)) (c : Coming) (more : List Coming) → cs ≡ c ∷ more → frame_at w.frames k ≡ c.frame
        → RequestsFly g accepted xs cs traffic w s at_ (Rx g.n k ms) more → Goal (Rx g.n k ms))
        (gives : (k ms word : ℕ) (calm : IsCalm (ARx g.a k ms word)) (known : IsKnown (ARx g.a k ms word)) (x : Made) (rest : List Made) → xs ≡ x ∷ rest
        → IsNotAsked g.n w (ARx g.a k ms word) → DeliversTo g.a x.transfer w (ARx g.a k ms word) → Then (ARx g.a k ms word) calm known accepted rest cs → Goal (ARx g.a k ms word)) where
      -- a row of a member
      of_member : (row : Row) (calm : IsCalm row) (known : IsKnown row) → (after_row w row).allocatee g.a ≡ w.allocatee g.a → reads row (OfDevice g.a) ≡ false
          → ((x : Made) → DeliversTo g.a x.transfer w row → ⊥) → IsNotAsked g.n w row → RequestsFly g accepted xs cs traffic w s at_ row cs → Goal row
      of_member row calm known same quiet none not_asked fly = elim (scene_on g accepted xs cs traffic w s at_ row in_time calm known not_asked cs fly) [
        | inl on ↦ keep row calm known not_asked on.0 (as_it_was queue request follow_up traffic w d at_ in_time row same) quiet
        | inr ends ↦ absurd (none ends.0 ends.3)
      ]

      a_tick : (ms word : ℕ) (calm : IsCalm (ATick g.a ms word)) (known : IsKnown (ATick g.a ms word)) → Goal (ATick g.a ms word)
      a_tick ms word calm known = elim (requests_on g accepted xs cs traffic w s at_ (ATick g.a ms word) calm (λ e. cc (e))) [
        | inl out ↦ elim (scene_on g accepted xs cs traffic w s at_ (ATick g.a ms word) in_time calm known out.0 cs out.1) [
          | inl on ↦ tick ms word calm known out.0 on.0
          | inr ends ↦ absurd (cc (ends.3.comes))
        ]
        | inr no_one ↦ absurd (cc (no_one.2))
      ]

      a_frame : (k ms word : ℕ) (calm : IsCalm (ARx g.a k ms word)) (known : IsKnown (ARx g.a k ms word)) → Goal (ARx g.a k ms word)
      a_frame k ms word calm known = elim (requests_on g accepted xs cs traffic w s at_ (ARx g.a k ms word) calm (λ e. cc (e))) [
        | inl out ↦ elim (scene_on g accepted xs cs traffic w s at_ (ARx g.a k ms word) in_time calm known out.0 cs out.1) [
          | inl on ↦ keep (ARx g.a k ms word) calm known out.0 on.0 (hears_nothing queue request follow_up traffic w d at_ in_time k ms word calm.1 (on.1 k ms word refl d.sessions ms)) refl
          | inr ends ↦ gives k ms word calm known ends.0 ends.1 ends.2 out.0 ends.3 ends.4
        ]
        | inr no_one ↦ absurd (cc (no_one.2))
      ]

      pub each_row : (row : Row) (calm : IsCalm row) (known : IsKnown row) → Goal row
      each_row (Tick p ms word) calm known = elim (requests_on g accepted xs cs traffic w s at_ (Tick p ms word) calm (λ e. cc (e))) [
        | inl out ↦ of_member (Tick p ms word) calm known refl refl (λ x is. cc (is.comes)) out.0 out.1
        | inr no_one ↦ absurd (cc (no_one.2))
      ]
      each_row (Rx p k ms) calm known = elim (requests_on g accepted xs cs traffic w s at_ (Rx p k ms) calm (λ e. cc (e))) [
        | inl out ↦ of_member (Rx p k ms) calm known refl refl (λ x is. cc (is.comes)) out.0 out.1
        | inr is ↦ subst (λ (row : Row). (calm_ : IsCalm row) (known_ : IsKnown row) → RequestsFly g accepted xs cs traffic w s at_ row is.4 → Goal row) (sym is.2)
            (λ calm_ known_ fly. own is.0 is.1 calm_ known_ is.3 is.4 is.5 is.6 fly) calm known is.7
      ]
      each_row (Send p) calm known = elim (requests_on g accepted xs cs traffic w s at_ (Send p) calm (λ e. cc (e))) [
        | inl out ↦ of_member (Send p) calm known refl refl (λ x is. cc (is.comes)) out.0 out.1
        | inr no_one ↦ absurd (cc (no_one.2))
      ]
      each_row (ATick b ms word) calm known = subst (λ (c : ℕ). (calm_ : IsCalm (ATick c ms word)) (known_ : IsKnown (ATick c ms word)) → Goal (ATick c ms word))
          (sym (g.alone b calm.0)) (a_tick ms word) calm known
      each_row (ARx b k ms word) calm known = subst (λ (c : ℕ). (calm_ : IsCalm (ARx c k ms word)) (known_ : IsKnown (ARx c k ms word)) → Goal (ARx c k ms word))
          (sym (g.alone b calm.0)) (a_frame k ms word) calm known
      each_row (ASend b) calm known = subst (λ (c : ℕ). (calm_ : IsCalm (ASend c)) (known_ : IsKnown (ASend c)) → Goal (ASend c))
          (sym (g.alone b calm.0)) send calm known
      each_row (Open p told ms word) calm known = absurd calm
      each_row (Ext frame) calm known = absurd calm
      each_row (Crash p calls pattern) calm known = absurd calm
      each_row (Fault p call) calm known = absurd calm
      each_row (AOpen b uid pref ms word) calm known = absurd calm
      each_row (AEnd b) calm known = absurd calm
