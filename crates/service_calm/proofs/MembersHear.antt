-- A member is a party that hears another member; and what of the transfers of one kind is under way to it.
use Rattle.std.proofs.Common.{◌≡◌, ◌≢◌, ℕ, ◌+◌, ◌*◌, ◌<◌, ◌≤◌, true, false, List, length, max, refl, sym, ◌∙◌, ap, subst, arith, inl, inr, Some}
use Rattle.std.specs.Prelude.{◌==◌}
use Rattle.std.proofs.lemmas.Bool.Decides.{eqb_tells}
use Rattle.can_frame.specs.declared.step.What.{What}
use Rattle.can_frame.specs.declared.step.What.TheVariants.{Disc}
use Rattle.raft_model.specs.Lists.{In, at_here, at_other}
use Rattle.bus_rows.specs.declared.row.Row.{Row}
use Rattle.bus_rows.specs.declared.row.Row.TheVariants.{AEnd, AOpen, ARx, ASend, ATick, Crash, Ext, Fault, Open, Rx, Send, Tick}
use Rattle.transfer_rx.specs.Outcome.{blocks_used}
use Rattle.transfer_rx.specs.Reassembly.{answer, next}
use Rattle.transfer_rx.specs.Sessions.{Session}
use Rattle.alloc_spec.specs.Accepted.{setting_for}
use Rattle.alloc_spec.specs.AllocatorState.{AllocatorState}
use Rattle.alloc_spec.specs.Step.{Event, after_pop, step}
use Rattle.alloc_spec.specs.Transfers.{Offer}
use Rattle.alloc_spec_laws.proofs.Choices.{and_left}
use Rattle.alloc_spec_laws.specs.Sound.{IsOnTheBus}
use Rattle.service_alone.specs.Calm.{Pace}
use Rattle.service_alone.proofs.Members.{IsUp, steps_up}
use Rattle.service_calm.specs.Calm.{IsCalmRow, IsInTime, Member as OfMember, Party, Traffic, receives, sends}
use Rattle.service_calm.specs.Comes.{Delivers, HasMemory, IsHeard, Sends}
use Rattle.service_calm.proofs.Counting.{counted_step, is_one, is_to, now_after, ones}
use Rattle.service_calm.proofs.Group.{AreWell, CalmLaws, IsServer, narrow_on_bus, server_sent, server_stepped, up_sent}
use Rattle.service_calm.proofs.Hearers.{IsHearer, Receipt, StillIs}
use Rattle.service_calm.proofs.Pair.{AreShort, Chain, Expected, Next, NoneComes, Pair, next_row, not_late, out_ones, same_stepper}
use Rattle.service_calm.proofs.Pending.{Coming, Made, Receiver}
use Rattle.service_calm.proofs.Start.{heard_dest, heard_for, heard_known, wants}
use Rattle.bus_spec.specs.Cluster.{Cluster, after_row, arrival_at, frame_at, receipt_of, step_of, tick_of}
use Rattle.bus_spec.specs.Members.{after_sending, member_after_step}

-- how the receiver of a member is set: nine of its blocks hold the longest transfer that an allocator can send
abbrev pub receiver_of : ℕ → Receiver
receiver_of m = record { setting = setting_for m; longest = 223; blocks = 9; short = omega arith; hold = omega arith }

-- the member runs, its receiver has these sessions, and its clock was at this moment
pub record IsReceiving (m : ℕ) (w : Cluster) (sessions : List Session) (now : ℕ) : Type 0 where
  pub server : AllocatorState
  pub up : IsUp server (w.member m)
  pub its : IsServer m server
  pub has : server.sessions ≡ sessions
  pub reads : server.now ≡ now

module _ (laws : CalmLaws) (group : List Party) (clocks : Party → ℕ) (pace : Pace) (n m : ℕ) (apart : n ≢ m) where
  abbrev Is : Cluster → List Session → ℕ → Type 0
  Is = IsReceiving m

  abbrev ReceiptOf : Traffic → Cluster → ℕ → Row → List Session → ℕ → Type 0
  ReceiptOf = Receipt group clocks pace n (OfMember m) (receiver_of m) Is (Delivers m) (HasMemory m)

  abbrev StillIsOf : Cluster → ℕ → List Session → ℕ → Type 0
  StillIsOf = StillIs group clocks pace n (OfMember m) (receiver_of m) Is (Delivers m) (HasMemory m)

  equal_number : (p q : ℕ) → (p == q) ≡ true → p ≡ q
  equal_number p q e = elim (eqb_tells p q) [ inl z ↦ z.1 | inr z ↦ absurd (cc (e, z.0)) ]

  other_number : (p q : ℕ) → (p == q) ≡ false → p ≢ q
  other_number p q e same = elim (eqb_tells p q) [ inl z ↦ absurd (cc (e, z.0)) | inr z ↦ z.1 same ]

  -- ---- a frame comes

  received : (traffic : Traffic) (w : Cluster) (moment k ms : ℕ) → AreWell group w → IsCalmRow group clocks pace traffic w moment (Rx m k ms)
      → (sessions : List Session) (now : ℕ) → Is w sessions now → ReceiptOf traffic w moment (Rx m k ms) sessions now
  received traffic w moment k ms are calm sessions now is = record {
    k = k;
    ms = ms;
    now_is = calm.1;
    is_next = calm.2;
    member = at_other w.member m n (member_after_step (w.rows + 1) event (w.member m).status (w.member m)) apart;
    frames = refl;
    none = λ other e. apart (sym (same_stepper m n event other e));
    then_is = record {
      server = later;
      up = subst (IsUp later) (sym (at_here w.member m m (member_after_step (w.rows + 1) event (w.member m).status (w.member m)) refl))
          (steps_up (w.rows + 1) event is.server (w.member m) is.up);
      its = server_stepped laws m is.server (w.rows + 1) event (narrow_on_bus w.frames are.narrow k) is.its;
      has = laws.in_step.heard is.server (w.rows + 1) (arrival_at (frame_at w.frames k) ms)
          ∙ (λ i. next (setting_for (is.its.me i)) (is.has i) (arrival_at (frame_at w.frames k) (max (is.reads i) ms)));
      reads = now_after is.server (w.rows + 1) event ∙ ap (λ (l : ℕ). max l ms) is.reads;
    };
    gets = λ x gives. record {
      k = k;
      ms = ms;
      comes = refl;
      server = is.server;
      runs = is.up.status;
      gives = (λ i. answer (setting_for m) (is.has i) (arrival_at (frame_at w.frames k) (max (is.reads i) ms))) ∙ gives;
    };
  }
    where
      event : Event
      event = receipt_of w k ms

      later : AllocatorState
      later = (step is.server (w.rows + 1) event).step_state.allocator

  comes : (traffic : Traffic) (w : Cluster) (moment : ℕ) (row : Row) → AreWell group w → IsCalmRow group clocks pace traffic w moment row → receives row (OfMember m) ≡ true
      → (sessions : List Session) (now : ℕ) → Is w sessions now → ReceiptOf traffic w moment row sessions now
  comes traffic w moment (Rx p k ms) are calm own = subst (λ (q : ℕ). IsCalmRow group clocks pace traffic w moment (Rx q k ms) → (sessions : List Session) (now : ℕ)
      → Is w sessions now → ReceiptOf traffic w moment (Rx q k ms) sessions now) (sym (equal_number p m own)) (received traffic w moment k ms are) calm
  comes traffic w moment (Tick p ms word) are calm own = absurd (cc (own))
  comes traffic w moment (Send p) are calm own = absurd (cc (own))
  comes traffic w moment (ATick a ms word) are calm own = absurd (cc (own))
  comes traffic w moment (ARx a k ms word) are calm own = absurd (cc (own))
  comes traffic w moment (ASend a) are calm own = absurd (cc (own))
  comes traffic w moment (Open p told ms word) are calm own = absurd calm
  comes traffic w moment (Ext frame) are calm own = absurd calm
  comes traffic w moment (Crash p calls pattern) are calm own = absurd calm
  comes traffic w moment (Fault p call) are calm own = absurd calm
  comes traffic w moment (AOpen a uid pref ms word) are calm own = absurd calm
  comes traffic w moment (AEnd a) are calm own = absurd calm

  -- ---- no frame comes

  module _ (w : Cluster) (moment : ℕ) (sessions : List Session) (now : ℕ) (is : Is w sessions now) where
    -- it is as it was
    rests : (row : Row) → (after_row w row).member m ≡ w.member m → StillIsOf (after_row w row) moment sessions now
    rests row same = (
      now,
      record { server = is.server; up = subst (IsUp is.server) (sym same) is.up; its = is.its; has = is.has; reads = is.reads },
      omega arith,
      omega arith,
    )

    -- it reads its clock
    ticks : (ms word : ℕ) → ms ≡ moment + clocks (OfMember m) → StillIsOf (after_row w (Tick m ms word)) moment sessions now
    ticks ms word now_is = (
      max now ms,
      record {
        server = later;
        up = subst (IsUp later) (sym (at_here w.member m m (member_after_step (w.rows + 1) (tick_of ms word) (w.member m).status (w.member m)) refl))
            (steps_up (w.rows + 1) (tick_of ms word) is.server (w.member m) is.up);
        its = server_stepped laws m is.server (w.rows + 1) (tick_of ms word) tt is.its;
        has = laws.in_step.ticked is.server (w.rows + 1) ms word ∙ is.has;
        reads = now_after is.server (w.rows + 1) (tick_of ms word) ∙ ap (λ (l : ℕ). max l ms) is.reads;
      },
      omega arith,
      omega (arith, now_is),
    )
      where
        later : AllocatorState
        later = (step is.server (w.rows + 1) (tick_of ms word)).step_state.allocator

    -- its own frame goes to the bus
    goes : StillIsOf (after_row w (Send m)) moment sessions now
    goes = (
      now,
      record {
        server = after_pop is.server;
        up = subst (IsUp (after_pop is.server)) (sym (at_here w.member m m (record (w.member m) { status = after_sending (w.member m).status }) refl))
            (up_sent laws is.server (w.member m) is.up);
        its = server_sent laws m is.server is.its;
        has = is.has;
        reads = is.reads;
      },
      omega arith,
      omega arith,
    )

  stays : (traffic : Traffic) (w : Cluster) (moment : ℕ) (row : Row) → IsCalmRow group clocks pace traffic w moment row → receives row (OfMember m) ≡ false
      → (sessions : List Session) (now : ℕ) → Is w sessions now → StillIsOf (after_row w row) moment sessions now
  stays traffic w moment (Tick p ms word) calm none sessions now is = elim (eqb_tells p m) [
    | inl z ↦ subst (λ (q : ℕ). (ms ≡ moment + clocks (OfMember q)) → StillIsOf (after_row w (Tick q ms word)) moment sessions now) (sym z.1)
        (ticks w moment sessions now is ms word) calm.1
    | inr z ↦ rests w moment sessions now is (Tick p ms word)
        (at_other w.member p m (member_after_step (w.rows + 1) (tick_of ms word) (w.member p).status (w.member p)) (λ e. z.1 (sym e)))
  ]
  stays traffic w moment (Rx p k ms) calm none sessions now is = rests w moment sessions now is (Rx p k ms)
      (at_other w.member p m (member_after_step (w.rows + 1) (receipt_of w k ms) (w.member p).status (w.member p)) (λ e. other_number p m none (sym e)))
  stays traffic w moment (Send p) calm none sessions now is = elim (eqb_tells p m) [
    | inl z ↦ subst (λ (q : ℕ). StillIsOf (after_row w (Send q)) moment sessions now) (sym z.1) (goes w moment sessions now is)
    | inr z ↦ rests w moment sessions now is (Send p) (at_other w.member p m (record (w.member p) { status = after_sending (w.member p).status }) (λ e. z.1 (sym e)))
  ]
  stays traffic w moment (ATick a ms word) calm none sessions now is = rests w moment sessions now is (ATick a ms word) refl
  stays traffic w moment (ARx a k ms word) calm none sessions now is = rests w moment sessions now is (ARx a k ms word) refl
  stays traffic w moment (ASend a) calm none sessions now is = rests w moment sessions now is (ASend a) refl
  stays traffic w moment (Open p told ms word) calm none sessions now is = absurd calm
  stays traffic w moment (Ext frame) calm none sessions now is = absurd calm
  stays traffic w moment (Crash p calls pattern) calm none sessions now is = absurd calm
  stays traffic w moment (Fault p call) calm none sessions now is = absurd calm
  stays traffic w moment (AOpen a uid pref ms word) calm none sessions now is = absurd calm
  stays traffic w moment (AEnd a) calm none sessions now is = absurd calm

  -- it hears the other member
  pub member_hears : IsHearer group clocks pace n (OfMember m) (receiver_of m) Is (Delivers m) (HasMemory m)
  member_hears = record {
    comes = comes;
    stays = stays;
    room = λ w sessions now is memory.
        let r = memory is.server is.up.status in
        (subst (λ (l : List Session). length l < 160) is.has r.0, subst (λ (l : List Session). blocks_used l + 9 ≤ 128) is.has r.1);
  }

-- a member's frame is not another's own
pub sends_apart : (n m : ℕ) → n ≢ m → sends (Send n) (OfMember m) ≡ false
sends_apart n m apart = elim (eqb_tells n m) [ inl z ↦ absurd (apart z.1) | inr z ↦ z.0 ]

-- no transfer that a server offers has more bytes than the receiver of a member takes
pub few_bytes : (what : What) (to n : ℕ) (t : AllocatorState) (number : ℕ) (event : Event) → IsServer n t → AreShort 223 (ones what to (step t number event).step_state.offers)
few_bytes what to n t number event is offer i =
    let one = out_ones (is_one what to) (step t number event).step_state.offers offer i in
    (counted_step Disc 0 refl t number event is.places).short offer one.0 (and_left offer.fitted (is_to what to offer) one.1)

-- ---- what of the transfers of one kind is under way from one member to the other

module _ (laws : CalmLaws) (group : List Party) (clocks : Party → ℕ) (pace : Pace) (nodes : (p : ℕ) → In (OfMember p) group → (1 ≤ p) × (p ≤ 125))
    (n m : ℕ) (in_n : In (OfMember n) group) (in_m : In (OfMember m) group) (apart : n ≢ m) (what : What) (to : ℕ) (heard : IsHeard m what to)
    (base : ℕ) (quick : 2 * pace.delay ≤ 2000) (Begins : ℕ → Type 0)
    (Mode : AllocatorState → Expected → Type 0) (popped : (t : AllocatorState) (expected : Expected) → Mode t expected → Mode (after_pop t) expected) where
  -- these transfers are under way, of the first of which these frames came
  abbrev pub PairOf : Traffic → Cluster → List Made → List Coming → Expected → Type 0
  PairOf = Pair laws group clocks pace nodes n in_n (OfMember m) in_m (sends_apart n m apart) (receiver_of m) what to base quick
      (heard_dest m what to (nodes m in_m) heard) (heard_known m what to heard) (inl (nodes m in_m).0) (heard_for n m what to apart heard)
      (wants laws.frame n m (nodes n in_n) (nodes m in_m) apart to what heard) Begins Mode popped
      (IsReceiving m) (Delivers m) (HasMemory m) (member_hears laws group clocks pace n m apart)

  module _ (traffic : Traffic) (w : Cluster) (xs : List Made) (front : List Coming) (expected : Expected) (pair : PairOf traffic w xs front expected) (at_ : ℕ)
      (in_time : IsInTime group clocks pace traffic w at_) where
    -- no transfer that is under way was made more than two delays ago
    pub none_late : (x : Made) → In x xs → at_ ≤ x.at + 2 * pace.delay
    none_late = not_late laws group clocks pace nodes n in_n (OfMember m) in_m (sends_apart n m apart) (receiver_of m) what to base quick
        (heard_dest m what to (nodes m in_m) heard) (heard_known m what to heard) (inl (nodes m in_m).0) (heard_for n m what to apart heard)
        (wants laws.frame n m (nodes n in_n) (nodes m in_m) apart to what heard) Begins Mode popped
        (IsReceiving m) (Delivers m) (HasMemory m) (member_hears laws group clocks pace n m apart) traffic w xs front expected pair at_ in_time

    module _ (row : Row) (Rest : Expected → Type 0) where
      -- transfers may come behind those under way, and none is delivered; or the first of them is
      abbrev pub NextOf : Type 0
      NextOf = Next laws group clocks pace nodes n in_n (OfMember m) in_m (sends_apart n m apart) (receiver_of m) what to base quick
          (heard_dest m what to (nodes m in_m) heard) (heard_known m what to heard) (inl (nodes m in_m).0) (heard_for n m what to apart heard)
          (wants laws.frame n m (nodes n in_n) (nodes m in_m) apart to what heard) Begins Mode popped
          (IsReceiving m) (Delivers m) (HasMemory m) (member_hears laws group clocks pace n m apart) traffic w xs front expected pair at_ in_time row Rest

      -- the row delivers no transfer of the key to the receiver
      abbrev pub NoneComesOf : Type 0
      NoneComesOf = NoneComes laws group clocks pace nodes n in_n (OfMember m) in_m (sends_apart n m apart) (receiver_of m) what to base quick
          (heard_dest m what to (nodes m in_m) heard) (heard_known m what to heard) (inl (nodes m in_m).0) (heard_for n m what to apart heard)
          (wants laws.frame n m (nodes n in_n) (nodes m in_m) apart to what heard) Begins Mode popped
          (IsReceiving m) (Delivers m) (HasMemory m) (member_hears laws group clocks pace n m apart) traffic w xs front expected pair at_ in_time row Rest

      -- what a calm row leaves under way, where what the sender makes in it may come next
      pub row_leaves : HasMemory m w → AreWell group w → IsCalmRow group clocks pace traffic w at_ row
          → ((event : Event) → step_of w row ≡ Some (n, event) → IsOnTheBus event
          → (later : Expected) × Chain Begins expected (ones what to (step pair.sender (w.rows + 1) event).step_state.offers) later
          × Mode (step pair.sender (w.rows + 1) event).step_state.allocator later × Rest later)
          → (((offer : Offer) → Sends n w row offer → ⊥) → Rest expected) → NextOf
      row_leaves memory are calm may leaves =
          next_row laws group clocks pace nodes n in_n (OfMember m) in_m (sends_apart n m apart) (receiver_of m) what to base quick
          (heard_dest m what to (nodes m in_m) heard) (heard_known m what to heard) (inl (nodes m in_m).0) (heard_for n m what to apart heard)
          (wants laws.frame n m (nodes n in_n) (nodes m in_m) apart to what heard) Begins Mode popped
          (IsReceiving m) (Delivers m) (HasMemory m) (member_hears laws group clocks pace n m apart) traffic w xs front expected pair at_ in_time
          memory are Rest row calm
          (λ event e bus. let f = may event e bus in (f.0, f.1, f.2, few_bytes what to n pair.sender (w.rows + 1) event pair.sender_is, f.3))
          leaves
