-- What is under way between a device that asks already and the leader, row by row, whatever came to the device before.
use Rattle.std.proofs.Common.{◌≡◌, ◌⊎◌, ℕ, ◌+◌, ◌*◌, ◌≤◌, true, List, [], ◌∷◌, ◌++◌, length, refl, sym, ◌∙◌, ap, subst, arith, inl, inr, Option, None, Some}
use Rattle.std.specs.Prelude.{⊤, ◌/◌}
use Rattle.std.proofs.lemmas.Bool.Decides.{eqb_tells, leb_tells}
use Rattle.alloc_exchange.specs.Exchange.{Accepted}
use Rattle.can_frame.specs.declared.step.What.TheVariants.{Alloc}
use Rattle.can_frame.specs.Cutting.{frame_count}
use Rattle.raft_model.specs.Lists.{In}
use Rattle.bus_rows.specs.declared.row.Row.{Row}
use Rattle.bus_rows.specs.declared.row.Row.TheVariants.{ARx}
use Rattle.transfer_rx.specs.Reassembly.{answer}
use Rattle.transfer_rx.specs.Sessions.{Session}
use Rattle.allocatee.specs.Accepted.{setting}
use Rattle.alloc_spec.specs.Step.{Event, step}
use Rattle.alloc_spec.specs.Transfers.{Offer}
use Rattle.alloc_spec_laws.proofs.Choices.{and_left, and_right, tell}
use Rattle.service_alone.specs.Calm.{IsNext}
use Rattle.service_alone.proofs.Receiving.{GivesNone}
use Rattle.service_calm.specs.Calm.{Device as OfDevice, IsCalmRow, IsInTime, Member as OfMember, Traffic, receives, traffic_after}
use Rattle.service_calm.specs.Comes.{Sends, sent_by}
use Rattle.service_calm.specs.Devices.{DeliversTo, DeviceHasMemory}
use Rattle.service_device.proofs.DialogAlone.{sends_none as none_sent}
use Rattle.service_device.specs.Settled.{IsNotAsked, IsSettled}
use Rattle.service_calm.proofs.Counting.{is_one, is_to, is_to_true, ones}
use Rattle.service_calm.proofs.DevicesHear.{IsListening, device_hears, device_receiver}
use Rattle.service_calm.proofs.DevicesTold.{device_wants}
use Rattle.service_device.proofs.DialogFrames.{HasSource, IsBearable}
use Rattle.service_calm.proofs.Follows.{IsCounter, counter_follows}
use Rattle.service_calm.proofs.Group.{AreWell, well_after}
use Rattle.service_calm.proofs.Pair.{AreShort, Expected, Next, made_none, made_of, next_row, not_late, out_ones, same_stepper}
use Rattle.service_calm.proofs.Pending.{Coming, Made}
use Rattle.service_calm.proofs.Ways.{Flying}
use Rattle.service_device.proofs.DialogScene.{Begins, Known, PairOf, Scene, Talk, brought_bears, fly_on, in_two, next_to, none_ends, one_comes, yes_number}
use Rattle.service_calm.proofs.Grounds.{calm_laws}
use Rattle.service_device.proofs.ServiceGrounds.{session_laws}
use Rattle.bus_spec.specs.Cluster.{Cluster, after_row, arrival_at, frame_at, step_of}

-- three frames have 19 bytes of a payload at most
three_frames : (count : ℕ) → frame_count count ≤ 3 → count ≤ 19
three_frames count few = elim (leb_tells count 7) [
  | inl z ↦ let h = z.1 in omega (arith, h)
  | inr z ↦ let e : frame_count count ≡ (count + 8) / 7 = rw (z.0) refl in omega (arith, e, few)
]

-- each Allocation that member n sends in this row has three frames at most
abbrev pub AreFew : ℕ → Cluster → Row → Type 0
AreFew n w row = (offer : Offer) → Sends n w row offer → offer.what ≡ Alloc → frame_count (length offer.payload) ≤ 3

module _ (g : Talk) where
  -- The leader has settled, and accepted these requests; these Allocations are under way, these frames on their way to it
  -- are of devices, and these are on their way to the device since before it was to be heard out. All others are bearable.
  pub record Road (accepted : List Accepted) (xs : List Made) (cs ss : List Coming) (traffic : Traffic) (w : Cluster) : Type 0 where
    pub settled : IsSettled g.n g.log accepted (traffic.at + g.clocks (OfMember g.n)) w
    pub well : AreWell g.group w
    pub front : List Coming
    pub expected : Expected
    pub pair : PairOf g traffic w xs front expected
    pub bears : Flying (IsBearable g.n) g.pace.delay w.frames (traffic.to (OfDevice g.a)) ss
    pub requests : Flying HasSource g.pace.delay w.frames (traffic.to (OfMember g.n)) cs

  -- where no frame is on its way from before, it is the scene of a dialog, timed from any moment
  pub as_scene : (start : ℕ) (accepted : List Accepted) (xs : List Made) (cs : List Coming) (traffic : Traffic) (w : Cluster) → Road accepted xs cs [] traffic w
      → Scene (record g { start = start }) accepted xs cs traffic w
  as_scene start accepted xs cs traffic w s = record {
    settled = s.settled;
    well = s.well;
    front = s.front;
    expected = s.expected;
    pair = s.pair;
    bears = s.bears;
    requests = s.requests;
  }

  -- no Allocation that is under way was made more than two delays ago
  pub road_late : (accepted : List Accepted) (xs : List Made) (cs ss : List Coming) (traffic : Traffic) (w : Cluster) → (s : Road accepted xs cs ss traffic w) → (at_ : ℕ)
      → IsInTime g.group g.clocks g.pace traffic w at_ → (x : Made) → In x xs → at_ ≤ x.at + 2 * g.pace.delay
  road_late accepted xs cs ss traffic w s at_ in_time = not_late (calm_laws g.below.calm) g.group g.clocks g.pace g.nodes g.n g.in_n (OfDevice g.a) g.in_a refl device_receiver Alloc 0 g.base (in_two g)
      refl refl (inr refl) refl (device_wants (calm_laws g.below.calm).frame g.n (g.nodes g.n g.in_n)) (Begins g) (IsCounter Alloc 0) (λ t expected mode. mode)
      (IsListening g.a) (DeliversTo g.a) (DeviceHasMemory g.a) (device_hears (session_laws g.below) g.group g.clocks g.pace g.n g.a) traffic w xs s.front s.expected s.pair at_ in_time

  -- ---- the Allocations of the leader, in any row

  module _ (traffic : Traffic) (w : Cluster) (well : AreWell g.group w) (xs : List Made) (front : List Coming) (expected : Expected) (pair : PairOf g traffic w xs front expected)
      (at_ : ℕ) (row : Row) (in_time : IsInTime g.group g.clocks g.pace traffic w at_) (calm : IsCalmRow g.group g.clocks g.pace traffic w at_ row)
      (memory : DeviceHasMemory g.a w) (short : AreFew g.n w row) where
    abbrev pub NextPair : Type 0
    NextPair = Next (calm_laws g.below.calm) g.group g.clocks g.pace g.nodes g.n g.in_n (OfDevice g.a) g.in_a refl device_receiver Alloc 0 g.base (in_two g) refl refl (inr refl) refl
        (device_wants (calm_laws g.below.calm).frame g.n (g.nodes g.n g.in_n)) (Begins g) (IsCounter Alloc 0) (λ t expected mode. mode)
        (IsListening g.a) (DeliversTo g.a) (DeviceHasMemory g.a) (device_hears (session_laws g.below) g.group g.clocks g.pace g.n g.a)
        traffic w xs front expected pair at_ in_time row (λ e. ⊤)

    sends_it : (event : Event) → step_of w row ≡ Some (g.n, event) → (o : Offer) → In o (ones Alloc 0 (step pair.sender (w.rows + 1) event).step_state.offers)
        → Sends g.n w row o × (o.what ≡ Alloc)
    sends_it event is_step o i =
        let r = out_ones (is_one Alloc 0) (step pair.sender (w.rows + 1) event).step_state.offers o i in (
          record {
            server = pair.sender;
            runs = pair.sender_up.status;
            event = event;
            in_step = is_step;
            offered = r.0;
            fitted = and_left o.fitted (is_to Alloc 0 o) r.1;
          },
          (is_to_true Alloc 0 o (and_right o.fitted (is_to Alloc 0 o) r.1)).0,
        )

    few : (event : Event) → step_of w row ≡ Some (g.n, event) → AreShort 19 (ones Alloc 0 (step pair.sender (w.rows + 1) event).step_state.offers)
    few event is_step o i = let s = sends_it event is_step o i in three_frames (length o.payload) (short o s.0 s.1)

    pub next_pair : NextPair
    next_pair = next_row (calm_laws g.below.calm) g.group g.clocks g.pace g.nodes g.n g.in_n (OfDevice g.a) g.in_a refl device_receiver Alloc 0 g.base (in_two g) refl refl (inr refl) refl
        (device_wants (calm_laws g.below.calm).frame g.n (g.nodes g.n g.in_n)) (Begins g) (IsCounter Alloc 0) (λ t expected mode. mode)
        (IsListening g.a) (DeliversTo g.a) (DeviceHasMemory g.a) (device_hears (session_laws g.below) g.group g.clocks g.pace g.n g.a)
        traffic w xs front expected pair at_ in_time memory well (λ e. ⊤) row calm
        (λ event is_step bus.
        let f = counter_follows (Begins g) g.n Alloc 0 refl (w.rows + 1) expected pair.sender pair.sender_is pair.mode event in
        (f.0, f.1, f.2, few event is_step, tt))
        (λ none. tt)

  -- ---- a row

  module _ (accepted : List Accepted) (xs : List Made) (cs ss : List Coming) (traffic : Traffic) (w : Cluster) (s : Road accepted xs cs ss traffic w) (at_ : ℕ) (row : Row)
      (in_time : IsInTime g.group g.clocks g.pace traffic w at_) (calm : IsCalmRow g.group g.clocks g.pace traffic w at_ row)
      (known : Known g traffic.at w (record { at = at_; row = row })) (short : AreFew g.n w row) where
    abbrev then_traffic : Traffic
    then_traffic = traffic_after traffic w (record { at = at_; row = row })

    abbrev then_w : Cluster
    then_w = after_row w row

    well_then : AreWell g.group then_w
    well_then = well_after (calm_laws g.below.calm) g.group g.nodes w s.well g.clocks g.pace traffic at_ row calm

    -- ---- what comes to the device

    abbrev BearsThen : List Coming → Type 0
    BearsThen rs = Flying (IsBearable g.n) g.pace.delay then_w.frames (then_traffic.to (OfDevice g.a)) rs

    -- some of those from before are on their way still
    abbrev Left : Type 0
    Left = (rs : List Coming) × ((c : Coming) → In c rs → In c ss) × BearsThen rs

    left_comes : receives row (OfDevice g.a) ≡ true → (k : ℕ) → IsNext k (traffic.to (OfDevice g.a)) → (after_row w row).frames ≡ w.frames
        → (IsBearable g.n (frame_at w.frames k) ⊎ ((c : Coming) × In c ss)) × Left
    left_comes is k next frames =
        elim (one_comes g.group g.clocks g.pace (OfDevice g.a) (IsBearable g.n) ss traffic w at_ s.bears row is frames k next) [
          | inl other ↦ (inl other.0, (ss, λ c i. i, other.1))
          | inr own ↦ (
            inr (own.0, subst (λ (l : List Coming). In own.0 l) (sym own.2) (inl refl)),
            (own.1, λ c i. subst (λ (l : List Coming). In c l) (sym own.2) (inr i), own.4),
          )
        ]

    left : Left
    left = elim (tell (receives row (OfDevice g.a))) [
      | inl is ↦ let x = next_to g traffic w s.well at_ row calm is in (left_comes is x.0 x.1 x.2).1
      | inr none ↦ (
        ss,
        λ c i. i,
        fly_on g.group g.clocks g.pace (OfDevice g.a) (IsBearable g.n) ss traffic w at_ s.bears row calm none (brought_bears g traffic w s.well at_ row calm known.others),
      )
    ]

    abbrev RoadThen : List Accepted → List Made → List Coming → List Coming → Type 0
    RoadThen then_accepted ys ds rs = Road then_accepted ys ds rs then_traffic then_w

    -- what comes to the device gives nothing, or comes from before
    abbrev pub NothingNew : Type 0
    NothingNew = (k ms word : ℕ) → row ≡ ARx g.a k ms word
        → ((sessions : List Session) (moment : ℕ) → GivesNone (answer setting sessions (arrival_at (frame_at w.frames k) moment))) ⊎ ((c : Coming) × In c ss)

    abbrev Nexts : Type 0
    Nexts = NextPair traffic w s.well xs s.front s.expected s.pair at_ row in_time calm known.memory short

    next : Nexts
    next = next_pair traffic w s.well xs s.front s.expected s.pair at_ row in_time calm known.memory short

    -- ---- no request comes to the leader

    module _ (not_asked : IsNotAsked g.n w row) (ds : List Coming) (requests : Flying HasSource g.pace.delay then_w.frames (then_traffic.to (OfMember g.n)) ds) where
      settled_then : IsSettled g.n g.log accepted (at_ + g.clocks (OfMember g.n)) then_w
      settled_then = (known.leaves accepted s.settled).unasked not_asked

      sends_none : (event : Event) → step_of w row ≡ Some (g.n, event) → ones Alloc 0 (step s.pair.sender (w.rows + 1) event).step_state.offers ≡ []
      sends_none event is_step = by (ones Alloc 0 (step s.pair.sender (w.rows + 1) event).step_state.offers) refl
        where
          by : (l : List Offer) → ones Alloc 0 (step s.pair.sender (w.rows + 1) event).step_state.offers ≡ l
              → ones Alloc 0 (step s.pair.sender (w.rows + 1) event).step_state.offers ≡ []
          by [] e = e
          by (o ∷ l) e =
              let i : In o (ones Alloc 0 (step s.pair.sender (w.rows + 1) event).step_state.offers) = subst (λ (k : List Offer). In o k) (sym e) (inl refl) in
              let r = out_ones (is_one Alloc 0) (step s.pair.sender (w.rows + 1) event).step_state.offers o i in
              absurd (none_sent g.below.judged g.n g.log w s.pair.sender s.pair.sender_up s.pair.sender_is.me (traffic.at + g.clocks (OfMember g.n)) s.settled.settled row
              (at_ + g.clocks (OfMember g.n)) settled_then.settled event is_step not_asked o r.0 (is_to_true Alloc 0 o (and_right o.fitted (is_to Alloc 0 o) r.1)).0)

      at_end : (l : List Made) → l ++ [] ≡ l
      at_end [] = refl
      at_end (x ∷ l) = ap (λ (k : List Made). x ∷ k) (at_end l)

      road_with : (ys : List Made) (front : List Coming) (expected : Expected) → PairOf g then_traffic then_w ys front expected → RoadThen accepted ys ds left.0
      road_with ys front expected pair = record {
        settled = settled_then;
        well = well_then;
        front = front;
        expected = expected;
        pair = pair;
        bears = left.2;
        requests = requests;
      }

      no_more : (more : List Made) → ((event : Event) → step_of w row ≡ Some (g.n, event)
          → more ≡ made_of at_ (sent_by g.n w) (ones Alloc 0 (step s.pair.sender (w.rows + 1) event).step_state.offers))
          → (((event : Event) → step_of w row ≡ Some (g.n, event) → ⊥) → more ≡ []) → more ≡ []
      no_more more made none = by (step_of w row) refl
        where
          by : (o : Option (ℕ × Event)) → step_of w row ≡ o → more ≡ []
          by None e = none (λ event is_step. cc (sym e ∙ is_step))
          by (Some (p, event)) e = elim (eqb_tells p g.n) [
            | inl own ↦
                let is_step : step_of w row ≡ Some (g.n, event) = e ∙ ap (λ (q : ℕ). Some (q, event)) own.1 in
                made event is_step ∙ (ap (made_of at_ (sent_by g.n w)) (sends_none event is_step) ∙ made_none at_ (sent_by g.n w))
            | inr other ↦ none (λ its is_step. other.1 (same_stepper p g.n event its (sym e ∙ is_step)))
          ]

      -- it goes on as it was; or the first Allocation that is under way is delivered
      pub road_on : (rs : List Coming) × ((c : Coming) → In c rs → In c ss) × ((RoadThen accepted xs ds rs × NothingNew)
          ⊎ ((x : Made) × (rest : List Made) × (xs ≡ x ∷ rest) × DeliversTo g.a x.transfer w row × RoadThen accepted rest ds rs))
      road_on = (
        left.0,
        left.1,
        elim next [
          | inl on ↦ inl (
            road_with xs on.1 on.2 (subst (λ (l : List Made). PairOf g then_traffic then_w l on.1 on.2)
                (ap (λ (l : List Made). xs ++ l) (no_more on.0 on.7.0 on.7.1) ∙ at_end xs) on.3),
            λ k ms word is.
                let is_to : receives row (OfDevice g.a) ≡ true = ap (λ (r : Row). receives r (OfDevice g.a)) is ∙ yes_number g traffic w s.well at_ g.a g.a refl in
                let to_it : IsNext k (traffic.to (OfDevice g.a)) = (subst (λ (r : Row). IsCalmRow g.group g.clocks g.pace traffic w at_ r) is calm).2 in
                elim (left_comes is_to k to_it (ap (λ (r : Row). (after_row w r).frames) is)).0 [
                  | inl bears ↦ inl (none_ends g traffic w xs s.front s.expected s.pair at_ in_time row on.8 k to_it is_to bears)
                  | inr old ↦ inr old
                ],
          )
          | inr ends ↦ inr (ends.0, ends.1, ends.2, ends.3, road_with ends.1 [] s.expected ends.4)
        ],
      )

    -- ---- a request comes to the leader, which has settled behind the row

    module _ (then_accepted : List Accepted) (settled_then : IsSettled g.n g.log then_accepted (at_ + g.clocks (OfMember g.n)) then_w)
        (ds : List Coming) (requests : Flying HasSource g.pace.delay then_w.frames (then_traffic.to (OfMember g.n)) ds)
        (apart : (x : Made) → DeliversTo g.a x.transfer w row → ⊥) where
      -- Allocations may be made in it
      pub road_asked : (rs : List Coming) × ((c : Coming) → In c rs → In c ss) × (more : List Made) × RoadThen then_accepted (xs ++ more) ds rs
          × ((x : Made) → In x (xs ++ more) → x.at ≤ at_)
          × ((offer : Offer) → Sends g.n w row offer → offer.what ≡ Alloc → offer.to ≡ 0 → In (record { at = at_; transfer = sent_by g.n w offer }) more)
          × ((event : Event) → step_of w row ≡ Some (g.n, event)
          → more ≡ made_of at_ (sent_by g.n w) (ones Alloc 0 (step s.pair.sender (w.rows + 1) event).step_state.offers))
      road_asked = elim next [
        | inl on ↦ (
          left.0,
          left.1,
          on.0,
          record {
            settled = settled_then;
            well = well_then;
            front = on.1;
            expected = on.2;
            pair = on.3;
            bears = left.2;
            requests = requests;
          },
          on.3.past,
          on.4,
          on.7.0,
        )
        | inr ends ↦ absurd (apart ends.0 ends.3)
      ]
