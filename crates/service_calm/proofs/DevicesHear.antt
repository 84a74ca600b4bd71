-- A device is a party that hears a member.
use Rattle.std.proofs.Common.{◌≡◌, ◌≢◌, ℕ, ◌+◌, ◌<◌, ◌≤◌, true, false, List, length, max, refl, sym, ◌∙◌, ap, subst, arith, inl, inr, Some}
use Rattle.std.specs.Prelude.{◌==◌}
use Rattle.std.proofs.lemmas.Bool.Decides.{eqb_tells}
use Rattle.raft_model.specs.Lists.{at, at_here, at_other}
use Rattle.bus_rows.specs.declared.row.Row.{Row}
use Rattle.bus_rows.specs.declared.row.Row.TheVariants.{AEnd, AOpen, ARx, ASend, ATick, Crash, Ext, Fault, Open, Rx, Send, Tick}
use Rattle.transfer_rx.specs.Outcome.{blocks_used}
use Rattle.transfer_rx.specs.Reassembly.{Arrival, answer, next}
use Rattle.transfer_rx.specs.Sessions.{Session}
use Rattle.allocatee.specs.Accepted.{setting}
use Rattle.allocatee.specs.Allocatee as device
use Rattle.allocatee.specs.Allocatee.{Device, after_pop, at_step, step}
use Rattle.service_alone.specs.Calm.{Pace}
use Rattle.service_calm.specs.Calm.{Device as OfDevice, IsCalmRow, Party, Traffic, receives}
use Rattle.service_calm.specs.Devices.{DeliversTo, DeviceHasMemory}
use Rattle.service_calm.proofs.DevicesSteps.{step_keeps}
use Rattle.service_calm.proofs.Group.{AreWell}
use Rattle.service_calm.proofs.Hearers.{IsHearer, Receipt, StillIs}
use Rattle.service_calm.proofs.Pending.{Receiver}
use Rattle.bus_spec.specs.Allocatees.{after_sending_from, device_after_step}
use Rattle.bus_spec.specs.Cluster.{Cluster, after_row, arrival_at, frame_at, receipt_at}

-- how the receiver of a device is set: one of its blocks holds an Allocation
abbrev pub device_receiver : Receiver
device_receiver = record { setting = setting; longest = 19; blocks = 1; short = omega arith; hold = omega arith }

-- what a step of a device leaves of its sessions
pub record SessionLaws : Type 0 where
  pub frame : (d : Device) (number word : ℕ) (arrival : Arrival) → (step d number (device.Rx arrival word)).device.sessions ≡ next setting d.sessions (at_step d arrival)
  pub tick : (d : Device) (number now word : ℕ) → (step d number (device.Tick now word)).device.sessions ≡ d.sessions

-- the device is there, its receiver has these sessions, and its clock was at this moment
pub record IsListening (a : ℕ) (w : Cluster) (sessions : List Session) (now : ℕ) : Type 0 where
  pub device : Device
  pub there : w.allocatee a ≡ Some device
  pub has : device.sessions ≡ sessions
  pub reads : device.asking.moment ≡ now

module _ (laws : SessionLaws) (group : List Party) (clocks : Party → ℕ) (pace : Pace) (n a : ℕ) where
  abbrev Is : Cluster → List Session → ℕ → Type 0
  Is = IsListening a

  abbrev ReceiptOf : Traffic → Cluster → ℕ → Row → List Session → ℕ → Type 0
  ReceiptOf = Receipt group clocks pace n (OfDevice a) device_receiver Is (DeliversTo a) (DeviceHasMemory a)

  abbrev StillIsOf : Cluster → ℕ → List Session → ℕ → Type 0
  StillIsOf = StillIs group clocks pace n (OfDevice a) device_receiver Is (DeliversTo a) (DeviceHasMemory a)

  equal_number : (p q : ℕ) → (p == q) ≡ true → p ≡ q
  equal_number p q e = elim (eqb_tells p q) [ inl z ↦ z.1 | inr z ↦ absurd (cc (e, z.0)) ]

  other_number : (p q : ℕ) → (p == q) ≡ false → p ≢ q
  other_number p q e same = elim (eqb_tells p q) [ inl z ↦ absurd (cc (e, z.0)) | inr z ↦ z.1 same ]

  -- the device after a step of it
  stepped : (w : Cluster) (event : device.Event) (d : Device) → w.allocatee a ≡ Some d
      → at w.allocatee a (device_after_step (w.rows + 1) event (w.allocatee a)) a ≡ Some (step d (w.rows + 1) event).device
  stepped w event d there = at_here w.allocatee a a (device_after_step (w.rows + 1) event (w.allocatee a)) refl ∙ ap (device_after_step (w.rows + 1) event) there

  -- ---- a frame comes

  received : (traffic : Traffic) (w : Cluster) (moment k ms word : ℕ) → IsCalmRow group clocks pace traffic w moment (ARx a k ms word)
      → (sessions : List Session) (now : ℕ) → Is w sessions now → ReceiptOf traffic w moment (ARx a k ms word) sessions now
  received traffic w moment k ms word calm sessions now is = record {
    k = k;
    ms = ms;
    now_is = calm.1;
    is_next = calm.2;
    member = refl;
    frames = refl;
    none = λ event e. cc e;
    then_is = record {
      device = (step is.device (w.rows + 1) (receipt_at w k ms word)).device;
      there = stepped w (receipt_at w k ms word) is.device is.there;
      has = laws.frame is.device (w.rows + 1) word (arrival_at (frame_at w.frames k) ms)
          ∙ (λ i. next setting (is.has i) (arrival_at (frame_at w.frames k) (max (is.reads i) ms)));
      reads = (step_keeps is.device (w.rows + 1) (receipt_at w k ms word)).2 ∙ ap (λ (l : ℕ). max l ms) is.reads;
    };
    gets = λ x gives. record {
      k = k;
      ms = ms;
      word = word;
      comes = refl;
      device = is.device;
      there = is.there;
      gives = (λ i. answer setting (is.has i) (arrival_at (frame_at w.frames k) (max (is.reads i) ms))) ∙ gives;
    };
  }

  comes : (traffic : Traffic) (w : Cluster) (moment : ℕ) (row : Row) → AreWell group w → IsCalmRow group clocks pace traffic w moment row → receives row (OfDevice a) ≡ true
      → (sessions : List Session) (now : ℕ) → Is w sessions now → ReceiptOf traffic w moment row sessions now
  comes traffic w moment (ARx b k ms word) are calm own = subst (λ (c : ℕ). IsCalmRow group clocks pace traffic w moment (ARx c k ms word) → (sessions : List Session) (now : ℕ)
      → Is w sessions now → ReceiptOf traffic w moment (ARx c k ms word) sessions now) (sym (equal_number b a own)) (received traffic w moment k ms word) calm
  comes traffic w moment (Tick p ms word) are calm own = absurd (cc (own))
  comes traffic w moment (Rx p k ms) are calm own = absurd (cc (own))
  comes traffic w moment (Send p) are calm own = absurd (cc (own))
  comes traffic w moment (ATick b ms word) are calm own = absurd (cc (own))
  comes traffic w moment (ASend b) are calm own = absurd (cc (own))
  comes traffic w moment (Open p told ms word) are calm own = absurd calm
  comes traffic w moment (Ext frame) are calm own = absurd calm
  comes traffic w moment (Crash p calls pattern) are calm own = absurd calm
  comes traffic w moment (Fault p call) are calm own = absurd calm
  comes traffic w moment (AOpen b uid pref ms word) are calm own = absurd calm
  comes traffic w moment (AEnd b) are calm own = absurd calm

  -- ---- no frame comes

  module _ (w : Cluster) (moment : ℕ) (sessions : List Session) (now : ℕ) (is : Is w sessions now) where
    -- it is as it was
    rests : (row : Row) → (after_row w row).allocatee a ≡ w.allocatee a → StillIsOf (after_row w row) moment sessions now
    rests row same = (
      now,
      record { device = is.device; there = same ∙ is.there; has = is.has; reads = is.reads },
      omega arith,
      omega arith,
    )

    -- it reads its clock
    ticks : (ms word : ℕ) → ms ≡ moment + clocks (OfDevice a) → StillIsOf (after_row w (ATick a ms word)) moment sessions now
    ticks ms word now_is = (
      max now ms,
      record {
        device = (step is.device (w.rows + 1) (device.Tick ms word)).device;
        there = stepped w (device.Tick ms word) is.device is.there;
        has = laws.tick is.device (w.rows + 1) ms word ∙ is.has;
        reads = (step_keeps is.device (w.rows + 1) (device.Tick ms word)).2 ∙ ap (λ (l : ℕ). max l ms) is.reads;
      },
      omega arith,
      omega (arith, now_is),
    )

    -- its own frame goes to the bus
    goes : StillIsOf (after_row w (ASend a)) moment sessions now
    goes = (
      now,
      record {
        device = after_pop is.device;
        there = at_here w.allocatee a a (after_sending_from (w.allocatee a)) refl ∙ ap after_sending_from is.there;
        has = is.has;
        reads = is.reads;
      },
      omega arith,
      omega arith,
    )

  stays : (traffic : Traffic) (w : Cluster) (moment : ℕ) (row : Row) → IsCalmRow group clocks pace traffic w moment row → receives row (OfDevice a) ≡ false
      → (sessions : List Session) (now : ℕ) → Is w sessions now → StillIsOf (after_row w row) moment sessions now
  stays traffic w moment (Tick p ms word) calm none sessions now is = rests w moment sessions now is (Tick p ms word) refl
  stays traffic w moment (Rx p k ms) calm none sessions now is = rests w moment sessions now is (Rx p k ms) refl
  stays traffic w moment (Send p) calm none sessions now is = rests w moment sessions now is (Send p) refl
  stays traffic w moment (ATick b ms word) calm none sessions now is = elim (eqb_tells b a) [
    | inl z ↦ subst (λ (c : ℕ). (ms ≡ moment + clocks (OfDevice c)) → StillIsOf (after_row w (ATick c ms word)) moment sessions now) (sym z.1)
        (ticks w moment sessions now is ms word) calm.1
    | inr z ↦ rests w moment sessions now is (ATick b ms word)
        (at_other w.allocatee b a (device_after_step (w.rows + 1) (device.Tick ms word) (w.allocatee b)) (λ e. z.1 (sym e)))
  ]
  stays traffic w moment (ARx b k ms word) calm none sessions now is = rests w moment sessions now is (ARx b k ms word)
      (at_other w.allocatee b a (device_after_step (w.rows + 1) (receipt_at w k ms word) (w.allocatee b)) (λ e. other_number b a none (sym e)))
  stays traffic w moment (ASend b) calm none sessions now is = elim (eqb_tells b a) [
    | inl z ↦ subst (λ (c : ℕ). StillIsOf (after_row w (ASend c)) moment sessions now) (sym z.1) (goes w moment sessions now is)
    | inr z ↦ rests w moment sessions now is (ASend b) (at_other w.allocatee b a (after_sending_from (w.allocatee b)) (λ e. z.1 (sym e)))
  ]
  stays traffic w moment (Open p told ms word) calm none sessions now is = absurd calm
  stays traffic w moment (Ext frame) calm none sessions now is = absurd calm
  stays traffic w moment (Crash p calls pattern) calm none sessions now is = absurd calm
  stays traffic w moment (Fault p call) calm none sessions now is = absurd calm
  stays traffic w moment (AOpen b uid pref ms word) calm none sessions now is = absurd calm
  stays traffic w moment (AEnd b) calm none sessions now is = absurd calm

  -- it hears the member
  pub device_hears : IsHearer group clocks pace n (OfDevice a) device_receiver Is (DeliversTo a) (DeviceHasMemory a)
  device_hears = record {
    comes = comes;
    stays = stays;
    room = λ w sessions now is memory.
        let r = memory is.device is.there in
        (subst (λ (l : List Session). length l < 8) is.has r.0, subst (λ (l : List Session). blocks_used l + 1 ≤ 8) is.has r.1);
  }
