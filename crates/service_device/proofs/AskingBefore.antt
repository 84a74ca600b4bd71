-- What is under way between a device and a member from the beginning of a calm on, whoever leads, and whatever was asked before.
use Rattle.std.proofs.Common.{◌≡◌, ℕ, ◌+◌, ◌≤◌, Bool, true, false, not, List, [], ◌∷◌, ◌++◌, refl, sym, ◌∙◌, ap, subst, arith, inl, inr, Option, None, Some}
use Rattle.std.specs.Prelude.{◌&&◌, drop, is_some, if◌then◌else◌}
use Rattle.raft_model.specs.Lists.{In}
use Rattle.bus_rows.specs.declared.row.Row.{Row}
use Rattle.bus_rows.specs.declared.row.Row.TheVariants.{AEnd, AOpen, ARx, ASend, ATick, Crash, Ext, Fault, Open, Rx, Send, Tick}
use Rattle.transfer_tx.specs.Queue.{Queued}
use Rattle.allocatee.specs.Allocatee.{Device, Event, after_pop, step}
use Rattle.allocatee.specs.Allocatee as device
use Rattle.alloc_spec_laws.proofs.Choices.{tell}
use Rattle.bus_rows.specs.Timed.{Timed, rows_in}
use Rattle.service_alone.specs.Calm.{OnItsWay, end_of, next_on_bus}
use Rattle.service_alone.proofs.Asking.{its_own}
use Rattle.service_alone.proofs.CalmSide.{waits_before}
use Rattle.service_alone.proofs.CalmStages.{device_steps}
use Rattle.service_calm.specs.Calm.{AreCalm, Device as OfDevice, IsCalmRow, IsInTime, Member as OfMember, Party, Traffic, is_sending, queue_in, reads, receives, sends, traffic_after}
use Rattle.service_calm.specs.Comes.{Throughout}
use Rattle.service_calm.specs.Devices.{DeviceHasMemory, SendsShortAllocations}
use Rattle.service_device.proofs.AskingDevice.{same_device}
use Rattle.service_device.proofs.AskingRoad.{AreFew, next_pair}
use Rattle.service_device.proofs.DialogScene.{PairOf, Talk}
use Rattle.service_calm.proofs.DevicesSteps.{step_keeps}
use Rattle.service_calm.proofs.Group.{AreWell, well_after}
use Rattle.service_calm.proofs.Pair.{Expected}
use Rattle.service_calm.proofs.Pending.{Coming, Made}
use Rattle.service_calm.proofs.Ways.{Flying, flying_more, flying_own}
use Rattle.bus_agreement.proofs.Lists.{in_append}
use Rattle.service_calm.proofs.Grounds.{calm_laws}
use Rattle.bus_spec.specs.Allocatees.{after_sending_from, next_from}
use Rattle.bus_spec.specs.Cluster.{Cluster, after_row, after_rows, in_list, receipt_at}
use Rattle.bus_spec.specs.Members.{next_frame}

-- ---- all frames on their way to a party

abbrev pub Never : Queued → Type 0
Never frame = ⊥

-- where none is another one, so it is for others of any sort
pub flying_as : (Other : Queued → Type 0) (delay : ℕ) (frames : List Queued) (ways : List OnItsWay) (cs : List Coming) → Flying Never delay frames ways cs
    → Flying Other delay frames ways cs
flying_as Other delay frames [] cs h = h
flying_as Other delay frames (way ∷ ways) cs (low, high, inl o) = absurd o.0
flying_as Other delay frames (way ∷ ways) cs (low, high, inr o) = (low, high, inr (o.0, o.1, o.2, o.3, o.4, flying_as Other delay frames ways o.1 o.5))

gone : (delay : ℕ) (frames : List Queued) (ways : List OnItsWay) (cs : List Coming) → Flying Never delay frames ways cs
    → (ds : List Coming) × Flying Never delay frames (drop 1 ways) ds × ((c : Coming) → In c ds → In c cs)
gone delay frames [] cs h = (cs, h, λ c i. i)
gone delay frames (way ∷ ways) cs (low, high, inl o) = absurd o.0
gone delay frames (way ∷ ways) cs (low, high, inr o) = (o.1, o.5, λ c i. subst (λ (l : List Coming). In c l) (sym o.2) (inr i))

module _ (g : Talk) where
  -- they are to come, each on the bus by now
  abbrev pub AllFly : Party → Traffic → Cluster → Type 0
  AllFly party traffic w = (cs : List Coming) × Flying Never g.pace.delay w.frames (traffic.to party) cs × ((c : Coming) → In c cs → c.at ≤ traffic.at)

  module _ (party : Party) (traffic : Traffic) (w : Cluster) (at_ : ℕ) (later : traffic.at ≤ at_) (all : AllFly party traffic w) where
    abbrev Then : Row → Type 0
    Then row = AllFly party (traffic_after traffic w (record { at = at_; row = row })) (after_row w row)

    past : (c : Coming) → In c all.0 → c.at ≤ at_
    past c i = let p = all.2 c i in omega (arith, p, later)

    comes : (row : Row) → receives row party ≡ true → (after_row w row).frames ≡ w.frames → Then row
    comes row is frames =
        let left = gone g.pace.delay w.frames (traffic.to party) all.0 all.1 in (
          left.0,
          subst (λ (q : List Queued). Flying Never g.pace.delay q ((traffic_after traffic w (record { at = at_; row = row })).to party) left.0) (sym frames)
              (subst (λ (k : List OnItsWay). Flying Never g.pace.delay w.frames k left.0)
              (sym (λ i. if is i then drop 1 (traffic.to party) else (if is_sending row && not (sends row party) then traffic.to party ++ next_on_bus at_ w ∷ [] else traffic.to party))) left.1),
          λ c i. past c (left.2 c i),
        )

    still : (row : Row) → receives row party ≡ false → is_sending row ≡ false → (after_row w row).frames ≡ w.frames → Then row
    still row none no_sending frames = (
      all.0,
      subst (λ (q : List Queued). Flying Never g.pace.delay q ((traffic_after traffic w (record { at = at_; row = row })).to party) all.0) (sym frames)
          (subst (λ (k : List OnItsWay). Flying Never g.pace.delay w.frames k all.0)
          (sym (λ i. if none i then drop 1 (traffic.to party) else (if no_sending i && not (sends row party) then traffic.to party ++ next_on_bus at_ w ∷ [] else traffic.to party))) all.1),
      past,
    )

    goes : (row : Row) → receives row party ≡ false → is_sending row ≡ true → (f : Queued) → (after_row w row).frames ≡ w.frames ++ f ∷ [] → Then row
    goes row none sending f frames = by (sends row party) refl
      where
        ways : (own : Bool) → sends row party ≡ own → (traffic_after traffic w (record { at = at_; row = row })).to party
            ≡ (if not own then traffic.to party ++ next_on_bus at_ w ∷ [] else traffic.to party)
        ways own e = λ i. if none i then drop 1 (traffic.to party) else (if sending i && not (e i) then traffic.to party ++ next_on_bus at_ w ∷ [] else traffic.to party)

        then_ : (k : List OnItsWay) (cs : List Coming) → (traffic_after traffic w (record { at = at_; row = row })).to party ≡ k
            → Flying Never g.pace.delay (w.frames ++ f ∷ []) k cs
            → Flying Never g.pace.delay (after_row w row).frames ((traffic_after traffic w (record { at = at_; row = row })).to party) cs
        then_ k cs e h = subst (λ (q : List Queued). Flying Never g.pace.delay q ((traffic_after traffic w (record { at = at_; row = row })).to party) cs) (sym frames)
            (subst (λ (j : List OnItsWay). Flying Never g.pace.delay (w.frames ++ f ∷ []) j cs) (sym e) h)

        by : (own : Bool) → sends row party ≡ own → Then row
        by true e = (all.0, then_ (traffic.to party) all.0 (ways true e) (flying_more Never g.pace.delay w.frames f (traffic.to party) all.0 all.1), past)
        by false e = (
          all.0 ++ (record { at = at_; frame = f }) ∷ [],
          then_ (traffic.to party ++ next_on_bus at_ w ∷ []) (all.0 ++ (record { at = at_; frame = f }) ∷ []) (ways false e)
              (flying_own Never g.pace.delay w.frames (record { at = at_; frame = f }) at_ (traffic.to party) all.0 (omega arith) all.1),
          λ c i. elim (in_append c all.0 ((record { at = at_; frame = f }) ∷ []) i) [
            | inl j ↦ past c j
            | inr j ↦ elim j [ inl same ↦ (let s = ap (λ (x : Coming). x.at) same in omega (arith, s)) | inr none_ ↦ absurd none_ ]
          ],
        )

    no_sends : (p : ℕ) (party_ : Party) → receives (Send p) party_ ≡ false
    no_sends p (OfMember m) = refl
    no_sends p (OfDevice b) = refl

    no_asends : (p : ℕ) (party_ : Party) → receives (ASend p) party_ ≡ false
    no_asends p (OfMember m) = refl
    no_asends p (OfDevice b) = refl

    no_ticks : (p ms word : ℕ) (party_ : Party) → receives (Tick p ms word) party_ ≡ false
    no_ticks p ms word (OfMember m) = refl
    no_ticks p ms word (OfDevice b) = refl

    no_aticks : (p ms word : ℕ) (party_ : Party) → receives (ATick p ms word) party_ ≡ false
    no_aticks p ms word (OfMember m) = refl
    no_aticks p ms word (OfDevice b) = refl

    pub all_then : (row : Row) → IsCalmRow g.group g.clocks g.pace traffic w at_ row → Then row
    all_then (Tick p ms word) calm = still (Tick p ms word) (no_ticks p ms word party) refl refl
    all_then (Rx p k ms) calm = elim (tell (receives (Rx p k ms) party)) [ inl is ↦ comes (Rx p k ms) is refl | inr none ↦ still (Rx p k ms) none refl refl ]
    all_then (Send p) calm = by (next_frame (w.member p).status) refl
      where
        by : (o : Option Queued) → next_frame (w.member p).status ≡ o → Then (Send p)
        by None e = absurd (cc (sym (ap (λ (o : Option Queued). is_some o) e) ∙ calm.1))
        by (Some f) e = goes (Send p) (no_sends p party) refl f (ap (λ (o : Option Queued). w.frames ++ in_list o) e)
    all_then (ATick b ms word) calm = still (ATick b ms word) (no_aticks b ms word party) refl refl
    all_then (ARx b k ms word) calm = elim (tell (receives (ARx b k ms word) party)) [ inl is ↦ comes (ARx b k ms word) is refl | inr none ↦ still (ARx b k ms word) none refl refl ]
    all_then (ASend b) calm = by (next_from (w.allocatee b)) refl
      where
        by : (o : Option Queued) → next_from (w.allocatee b) ≡ o → Then (ASend b)
        by None e = absurd (cc (sym (ap (λ (o : Option Queued). is_some o) e) ∙ calm.1))
        by (Some f) e = goes (ASend b) (no_asends b party) refl f (ap (λ (o : Option Queued). w.frames ++ in_list o) e)
    all_then (Open p told ms word) calm = absurd calm
    all_then (Ext frame) calm = absurd calm
    all_then (Crash p calls pattern) calm = absurd calm
    all_then (Fault p call) calm = absurd calm
    all_then (AOpen b uid pref ms word) calm = absurd calm
    all_then (AEnd b) calm = absurd calm

  -- ---- what holds meanwhile

  -- These Allocations of the member are under way, all frames on their way are known, and the device is there.
  pub record IsMeanwhile (traffic : Traffic) (w : Cluster) : Type 0 where
    pub well : AreWell g.group w
    pub xs : List Made
    pub front : List Coming
    pub expected : Expected
    pub pair : PairOf g traffic w xs front expected
    pub to_device : AllFly (OfDevice g.a) traffic w
    pub to_leader : AllFly (OfMember g.n) traffic w
    pub device : Device
    pub there : w.allocatee g.a ≡ Some device
    pub its_uid : device.asking.uid ≡ g.uid
    pub prefers : device.asking.preferred ≡ g.preferred
    pub clock : device.asking.moment ≤ traffic.at + g.clocks (OfDevice g.a)
    pub ticked : traffic.ticked (OfDevice g.a) ≤ traffic.at
    pub waits : traffic.waits (OfDevice g.a) ≤ traffic.at

  module _ (traffic : Traffic) (w : Cluster) (m : IsMeanwhile traffic w) (at_ : ℕ) (in_time : IsInTime g.group g.clocks g.pace traffic w at_) where
    later : traffic.at ≤ at_
    later = in_time.moments

    -- the device then
    abbrev DeviceThen : Row → Type 0
    DeviceThen row = (d : Device) × ((after_row w row).allocatee g.a ≡ Some d) × (d.asking.uid ≡ g.uid) × (d.asking.preferred ≡ g.preferred)
        × (d.asking.moment ≤ at_ + g.clocks (OfDevice g.a))

    rests : (row : Row) → (after_row w row).allocatee g.a ≡ w.allocatee g.a → DeviceThen row
    rests row same = (m.device, same ∙ m.there, m.its_uid, m.prefers, let c = m.clock in let t = later in omega (arith, c, t))

    ticks : (ms word : ℕ) → ms ≡ at_ + g.clocks (OfDevice g.a) → DeviceThen (ATick g.a ms word)
    ticks ms word now = (
      (step m.device (w.rows + 1) (device.Tick ms word)).device,
      device_steps w g.a (device.Tick ms word) m.device (step m.device (w.rows + 1) (device.Tick ms word)).device m.there refl,
      (same_device m.device (w.rows + 1) (device.Tick ms word)).0 ∙ m.its_uid,
      (same_device m.device (w.rows + 1) (device.Tick ms word)).1 ∙ m.prefers,
      let k = (step_keeps m.device (w.rows + 1) (device.Tick ms word)).2 in let c = m.clock in let t = later in omega (arith, k, c, t, now),
    )

    receipt : (k ms word : ℕ) → ms ≡ at_ + g.clocks (OfDevice g.a) → DeviceThen (ARx g.a k ms word)
    receipt k ms word now = (
      (step m.device (w.rows + 1) (receipt_at w k ms word)).device,
      device_steps w g.a (receipt_at w k ms word) m.device (step m.device (w.rows + 1) (receipt_at w k ms word)).device m.there refl,
      (same_device m.device (w.rows + 1) (receipt_at w k ms word)).0 ∙ m.its_uid,
      (same_device m.device (w.rows + 1) (receipt_at w k ms word)).1 ∙ m.prefers,
      let k_ = (step_keeps m.device (w.rows + 1) (receipt_at w k ms word)).2 in let c = m.clock in let t = later in omega (arith, k_, c, t, now),
    )

    goes_out : DeviceThen (ASend g.a)
    goes_out = (
      after_pop m.device,
      its_own w g.a (after_sending_from (w.allocatee g.a)) ∙ ap after_sending_from m.there,
      m.its_uid,
      m.prefers,
      let c = m.clock in let t = later in omega (arith, c, t),
    )

    device_then : (row : Row) → IsCalmRow g.group g.clocks g.pace traffic w at_ row → DeviceThen row
    device_then (Tick p ms word) calm = rests (Tick p ms word) refl
    device_then (Rx p k ms) calm = rests (Rx p k ms) refl
    device_then (Send p) calm = rests (Send p) refl
    device_then (ATick b ms word) calm = subst (λ (c : ℕ). DeviceThen (ATick c ms word)) (sym (g.alone b calm.0))
        (ticks ms word (calm.1 ∙ ap (λ (c : ℕ). at_ + g.clocks (OfDevice c)) (g.alone b calm.0)))
    device_then (ARx b k ms word) calm = subst (λ (c : ℕ). DeviceThen (ARx c k ms word)) (sym (g.alone b calm.0))
        (receipt k ms word (calm.1 ∙ ap (λ (c : ℕ). at_ + g.clocks (OfDevice c)) (g.alone b calm.0)))
    device_then (ASend b) calm = subst (λ (c : ℕ). DeviceThen (ASend c)) (sym (g.alone b calm.0)) goes_out
    device_then (Open p told ms word) calm = absurd calm
    device_then (Ext frame) calm = absurd calm
    device_then (Crash p calls pattern) calm = absurd calm
    device_then (Fault p call) calm = absurd calm
    device_then (AOpen b uid pref ms word) calm = absurd calm
    device_then (AEnd b) calm = absurd calm

    -- so it is behind each row
    pub meanwhile_on : (row : Row) → IsCalmRow g.group g.clocks g.pace traffic w at_ row → DeviceHasMemory g.a w → AreFew g.n w row
        → IsMeanwhile (traffic_after traffic w (record { at = at_; row = row })) (after_row w row)
    meanwhile_on row calm memory short = elim (next_pair g traffic w m.well m.xs m.front m.expected m.pair at_ row in_time calm memory short) [
      | inl on ↦ with_pair (m.xs ++ on.0) on.1 on.2 on.3
      | inr ends ↦ with_pair ends.1 [] m.expected ends.4
    ]
      where
        ticked_by : (b : Bool) → (if b then at_ else traffic.ticked (OfDevice g.a)) ≤ at_
        ticked_by true = omega arith
        ticked_by false = let k = m.ticked in let t = later in omega (arith, k, t)

        with_pair : (ys : List Made) (front : List Coming) (expected : Expected) → PairOf g (traffic_after traffic w (record { at = at_; row = row })) (after_row w row) ys front expected
            → IsMeanwhile (traffic_after traffic w (record { at = at_; row = row })) (after_row w row)
        with_pair ys front expected pair = record {
          well = well_after (calm_laws g.below.calm) g.group g.nodes w m.well g.clocks g.pace traffic at_ row calm;
          xs = ys;
          front = front;
          expected = expected;
          pair = pair;
          to_device = all_then (OfDevice g.a) traffic w at_ later m.to_device row calm;
          to_leader = all_then (OfMember g.n) traffic w at_ later m.to_leader row calm;
          device = (device_then row calm).0;
          there = (device_then row calm).1;
          its_uid = (device_then row calm).2;
          prefers = (device_then row calm).3;
          clock = (device_then row calm).4;
          ticked = ticked_by (reads row (OfDevice g.a));
          waits = waits_before at_ (traffic.waits (OfDevice g.a)) (queue_in w (OfDevice g.a)) (queue_in (after_row w row) (OfDevice g.a))
              (let k = m.waits in let t = later in omega (arith, k, t));
        }

  -- and behind all of them
  pub meanwhile : (front rest : List Timed) (traffic : Traffic) (w : Cluster) → IsMeanwhile traffic w → AreCalm g.group g.clocks g.pace traffic w (front ++ rest)
      → Throughout (DeviceHasMemory g.a) w (front ++ rest) → SendsShortAllocations g.n w (front ++ rest)
      → (t : Traffic) × (t.at ≡ end_of traffic.at front) × IsMeanwhile t (after_rows w (rows_in front)) × AreCalm g.group g.clocks g.pace t (after_rows w (rows_in front)) rest
      × Throughout (DeviceHasMemory g.a) (after_rows w (rows_in front)) rest × SendsShortAllocations g.n (after_rows w (rows_in front)) rest
  meanwhile [] rest traffic w m calm memory short = (traffic, refl, m, calm, memory, short)
  meanwhile (timed ∷ front) rest traffic w m calm memory short = meanwhile front rest (traffic_after traffic w timed) (after_row w timed.row)
      (meanwhile_on traffic w m timed.at calm.0 timed.row calm.1 memory.0 short.0) calm.2 memory.1 short.1
