-- What is under way between a device and the leader in a dialog, row by row: requests to the one, Allocations to the other.
use Rattle.std.proofs.Common.{◌≡◌, ◌≢◌, ◌⊎◌, ℕ, ◌+◌, ◌*◌, ◌<◌, ◌≤◌, Bool, true, false, not, List, [], ◌∷◌, ◌++◌, length, refl, sym, ◌∙◌, ap, subst, arith, inl, inr, Option, None, Some}
use Rattle.std.specs.Prelude.{⊤, ◌&&◌, ◌==◌, drop, is_some, if◌then◌else◌}
use Rattle.std.proofs.lemmas.Bool.Decides.{eqb_tells}
use Rattle.alloc_exchange.specs.Exchange.{Accepted}
use Rattle.can_frame.specs.declared.entry.Entry.{Entry}
use Rattle.can_frame.specs.declared.step.What.TheVariants.{Alloc}
use Rattle.can_frame.specs.Identifier.{identifier_number}
use Rattle.raft_model.specs.Lists.{In}
use Rattle.bus_rows.specs.declared.row.Row.{Row}
use Rattle.bus_rows.specs.declared.row.Row.TheVariants.{AEnd, AOpen, ARx, ASend, ATick, Crash, Ext, Fault, Open, Rx, Send, Tick}
use Rattle.transfer_rx.specs.Reassembly.{Answer, Continues, Delivery, Drops, Gives, answer}
use Rattle.transfer_rx.specs.Sessions.{Session}
use Rattle.transfer_tx.specs.Queue.{Queued}
use Rattle.allocatee.specs.Accepted.{setting}
use Rattle.alloc_spec.specs.Step.{Event, step}
use Rattle.alloc_spec.specs.Transfers.{Offer, ident_of}
use Rattle.alloc_spec_laws.proofs.Choices.{and_left, and_right, tell}
use Rattle.bus_rows.specs.Timed.{Timed}
use Rattle.service_alone.specs.Calm.{IsNext, OnItsWay, Pace, next_on_bus}
use Rattle.service_alone.proofs.Receiving.{GivesNone}
use Rattle.service_calm.specs.Calm.{Device as OfDevice, IsCalmRow, IsInTime, Member as OfMember, Party, Traffic, is_sending, receives, sends, traffic_after}
use Rattle.service_calm.specs.Comes.{Sends, sent_by}
use Rattle.service_calm.specs.Devices.{DeliversTo, DeviceHasMemory}
use Rattle.service_device.specs.Dialog.{HasRoomToTell}
use Rattle.service_device.proofs.DialogAlone.{sends_none as none_sent}
use Rattle.service_device.specs.Settled.{IsNotAsked, IsSettled, StaysSettled}
use Rattle.service_calm.proofs.Counting.{is_one, is_to, is_to_true, ones}
use Rattle.service_calm.proofs.DevicesHear.{IsListening, device_hears, device_receiver}
use Rattle.service_calm.proofs.DevicesTold.{device_wants}
use Rattle.service_device.proofs.DialogFrames.{HasSource, IsBearable, drops_it, gives_none_yet, is_bearable}
use Rattle.service_calm.proofs.Unfinished.{not_last}
use Rattle.service_calm.proofs.Follows.{IsCounter, counter_follows}
use Rattle.service_calm.proofs.Frames.{read}
use Rattle.service_calm.proofs.Group.{AreWell, sent_own, well_after}
use Rattle.service_calm.proofs.Pair.{AreNews, AreShort, Expected, IsNotLast, Next, Pair, made_none, made_of, next_row, not_late, out_ones, same_stepper}
use Rattle.service_calm.proofs.Pending.{Coming, Made}
use Rattle.service_calm.proofs.Ways.{Flying, flying_more, flying_other}
use Rattle.service_device.specs.ServiceBelow.{ServiceGrounds}
use Rattle.service_calm.proofs.Grounds.{calm_laws}
use Rattle.service_device.proofs.ServiceGrounds.{session_laws}
use Rattle.bus_spec.specs.Allocatees.{next_from}
use Rattle.bus_spec.specs.Cluster.{Cluster, after_row, arrival_at, frame_at, in_list, step_of}
use Rattle.bus_spec.specs.Members.{next_frame}

-- where this row brings a frame of another member than n to the bus, it is of no Allocation
abbrev pub BringsNone : ℕ → Cluster → Row → Type 0
BringsNone n w (Send p) = p ≢ n → (frame : Queued) → next_frame (w.member p).status ≡ Some frame → frame.id ≢ identifier_number (ident_of p Alloc 0)
BringsNone n w row = ⊤

-- ---- frames on their way to a party, of which some are to come

-- the frame that a row brings to the bus
abbrev pub brought : Cluster → Row → Option Queued
brought w (Send p) = next_frame (w.member p).status
brought w (ASend b) = next_from (w.allocatee b)
brought w row = None

module _ (group : List Party) (clocks : Party → ℕ) (pace : Pace) (party : Party) (Other : Queued → Type 0) (cs : List Coming) (traffic : Traffic) (w : Cluster) (at_ : ℕ)
    (flies : Flying Other pace.delay w.frames (traffic.to party) cs) where
  abbrev later : Row → Traffic
  later row = traffic_after traffic w (record { at = at_; row = row })

  -- they fly on
  abbrev pub FlyOn : Row → List Coming → Type 0
  FlyOn row ds = Flying Other pace.delay (after_row w row).frames ((later row).to party) ds

  still : (row : Row) → receives row party ≡ false → is_sending row ≡ false → (after_row w row).frames ≡ w.frames → FlyOn row cs
  still row none no_sending frames = subst (λ (l : List Queued). Flying Other pace.delay l ((later row).to party) cs) (sym frames)
      (subst (λ (l : List OnItsWay). Flying Other pace.delay w.frames l cs) (sym ways) flies)
    where
      ways : (later row).to party ≡ traffic.to party
      ways = λ i. if none i then drop 1 (traffic.to party) else (if no_sending i && not (sends row party) then traffic.to party ++ next_on_bus at_ w ∷ [] else traffic.to party)

  goes : (row : Row) → receives row party ≡ false → is_sending row ≡ true → (g : Queued) → (after_row w row).frames ≡ w.frames ++ g ∷ []
      → (sends row party ≡ false → Other g) → FlyOn row cs
  goes row none sending g frames other = by (sends row party) refl
    where
      ways : (own : Bool) → sends row party ≡ own → (later row).to party ≡ (if not own then traffic.to party ++ next_on_bus at_ w ∷ [] else traffic.to party)
      ways own e = λ i. if none i then drop 1 (traffic.to party) else (if sending i && not (e i) then traffic.to party ++ next_on_bus at_ w ∷ [] else traffic.to party)

      then_ : (l : List OnItsWay) → (later row).to party ≡ l → Flying Other pace.delay (w.frames ++ g ∷ []) l cs → FlyOn row cs
      then_ l e h = subst (λ (fs : List Queued). Flying Other pace.delay fs ((later row).to party) cs) (sym frames)
          (subst (λ (k : List OnItsWay). Flying Other pace.delay (w.frames ++ g ∷ []) k cs) (sym e) h)

      by : (own : Bool) → sends row party ≡ own → FlyOn row cs
      by true e = then_ (traffic.to party) (ways true e) (flying_more Other pace.delay w.frames g (traffic.to party) cs flies)
      by false e = then_ (traffic.to party ++ next_on_bus at_ w ∷ []) (ways false e) (flying_other Other pace.delay w.frames g at_ (traffic.to party) cs (other e) flies)

  none_out : {A : Type 0} (o : Option Queued) → o ≡ None → is_some o ≡ true → A
  none_out o e some = absurd (cc (sym (ap (λ (p : Option Queued). is_some p) e) ∙ some))

  -- where no frame comes to the party, and one that goes to the bus is another one
  pub fly_on : (row : Row) → IsCalmRow group clocks pace traffic w at_ row → receives row party ≡ false
      → ((g : Queued) → brought w row ≡ Some g → sends row party ≡ false → Other g) → FlyOn row cs
  fly_on (Tick p ms word) calm none other = still (Tick p ms word) none refl refl
  fly_on (Rx p k ms) calm none other = still (Rx p k ms) none refl refl
  fly_on (Send p) calm none other = by (next_frame (w.member p).status) refl
    where
      by : (o : Option Queued) → next_frame (w.member p).status ≡ o → FlyOn (Send p) cs
      by None e = none_out (next_frame (w.member p).status) e calm.1
      by (Some g) e = goes (Send p) none refl g (ap (λ (o : Option Queued). w.frames ++ in_list o) e) (other g e)
  fly_on (ATick b ms word) calm none other = still (ATick b ms word) none refl refl
  fly_on (ARx b k ms word) calm none other = still (ARx b k ms word) none refl refl
  fly_on (ASend b) calm none other = by (next_from (w.allocatee b)) refl
    where
      by : (o : Option Queued) → next_from (w.allocatee b) ≡ o → FlyOn (ASend b) cs
      by None e = none_out (next_from (w.allocatee b)) e calm.1
      by (Some g) e = goes (ASend b) none refl g (ap (λ (o : Option Queued). w.frames ++ in_list o) e) (other g e)
  fly_on (Open p told ms word) calm none other = absurd calm
  fly_on (Ext frame) calm none other = absurd calm
  fly_on (Crash p calls pattern) calm none other = absurd calm
  fly_on (Fault p call) calm none other = absurd calm
  fly_on (AOpen b uid pref ms word) calm none other = absurd calm
  fly_on (AEnd b) calm none other = absurd calm

  -- where one comes, it is another one, or the first of those that are to come
  pub one_comes : (row : Row) → receives row party ≡ true → (after_row w row).frames ≡ w.frames → (k : ℕ) → IsNext k (traffic.to party)
      → (Other (frame_at w.frames k) × FlyOn row cs)
      ⊎ ((c : Coming) × (more : List Coming) × (cs ≡ c ∷ more) × (frame_at w.frames k ≡ c.frame) × FlyOn row more)
  one_comes row is frames k next = by (traffic.to party) refl next flies
    where
      by : (ways : List OnItsWay) → traffic.to party ≡ ways → IsNext k ways → Flying Other pace.delay w.frames ways cs
          → (Other (frame_at w.frames k) × FlyOn row cs)
          ⊎ ((c : Coming) × (more : List Coming) × (cs ≡ c ∷ more) × (frame_at w.frames k ≡ c.frame) × FlyOn row more)
      by [] e next_ f = absurd next_
      by (way ∷ ways) e next_ f = elim f.2 [
        | inl other ↦ inl (subst Other (ap (frame_at w.frames) (sym next_)) other.0, then_ cs other.1)
        | inr own ↦ inr (own.0, own.1, own.2, ap (frame_at w.frames) next_ ∙ own.3, then_ own.1 own.5)
      ]
        where
          ways_then : (later row).to party ≡ ways
          ways_then = (λ i. if is i then drop 1 (traffic.to party) else (if is_sending row && not (sends row party) then traffic.to party ++ next_on_bus at_ w ∷ [] else traffic.to party))
              ∙ ap (λ (l : List OnItsWay). drop 1 l) e

          then_ : (ds : List Coming) → Flying Other pace.delay w.frames ways ds → FlyOn row ds
          then_ ds h = subst (λ (l : List Queued). Flying Other pace.delay l ((later row).to party) ds) (sym frames)
              (subst (λ (l : List OnItsWay). Flying Other pace.delay w.frames l ds) (sym ways_then) h)

-- ---- who talks

pub record Talk : Type 0 where
  pub below : ServiceGrounds
  pub group : List Party
  pub clocks : Party → ℕ
  pub pace : Pace
  pub nodes : (p : ℕ) → In (OfMember p) group → (1 ≤ p) × (p ≤ 125)
  pub n : ℕ
  pub in_n : In (OfMember n) group
  pub a : ℕ
  pub in_a : In (OfDevice a) group
  pub alone : (b : ℕ) → In (OfDevice b) group → b ≡ a
  pub uid : List ℕ
  pub whole : length uid ≡ 16
  pub preferred : ℕ
  pub few : preferred < 128
  pub log : List Entry
  -- the moment from which the dialog is timed
  pub start : ℕ
  -- what the clock of the device was when the calm began
  pub base : ℕ
  pub quick : pace.period + 4 * pace.delay ≤ 100

module _ (g : Talk) where
  abbrev pub in_two : 2 * g.pace.delay ≤ 2000
  in_two = let q = g.quick in omega (arith, q)

  abbrev pub Begins : ℕ → Type 0
  Begins id = ⊤

  abbrev pub number : ℕ
  number = identifier_number (ident_of g.n Alloc 0)

  -- these Allocations of the leader are under way to the device
  abbrev pub PairOf : Traffic → Cluster → List Made → List Coming → Expected → Type 0
  PairOf = Pair (calm_laws g.below.calm) g.group g.clocks g.pace g.nodes g.n g.in_n (OfDevice g.a) g.in_a refl device_receiver Alloc 0 g.base in_two refl refl (inr refl) refl
      (device_wants (calm_laws g.below.calm).frame g.n (g.nodes g.n g.in_n)) Begins (IsCounter Alloc 0) (λ t expected mode. mode)
      (IsListening g.a) (DeliversTo g.a) (DeviceHasMemory g.a) (device_hears (session_laws g.below) g.group g.clocks g.pace g.n g.a)

  -- The leader has settled, and accepted these requests; these Allocations are under way, and these requests on their way.
  pub record Scene (accepted : List Accepted) (xs : List Made) (cs : List Coming) (traffic : Traffic) (w : Cluster) : Type 0 where
    pub settled : IsSettled g.n g.log accepted (traffic.at + g.clocks (OfMember g.n)) w
    pub well : AreWell g.group w
    pub front : List Coming
    pub expected : Expected
    pub pair : PairOf traffic w xs front expected
    pub bears : Flying (IsBearable g.n) g.pace.delay w.frames (traffic.to (OfDevice g.a)) []
    pub requests : Flying HasSource g.pace.delay w.frames (traffic.to (OfMember g.n)) cs

  -- no Allocation that is under way was made more than two delays ago
  pub scene_late : (accepted : List Accepted) (xs : List Made) (cs : List Coming) (traffic : Traffic) (w : Cluster) → (s : Scene accepted xs cs traffic w) → (at_ : ℕ)
      → IsInTime g.group g.clocks g.pace traffic w at_ → (x : Made) → In x xs → at_ ≤ x.at + 2 * g.pace.delay
  scene_late accepted xs cs traffic w s at_ in_time = not_late (calm_laws g.below.calm) g.group g.clocks g.pace g.nodes g.n g.in_n (OfDevice g.a) g.in_a refl device_receiver Alloc 0 g.base in_two
      refl refl (inr refl) refl (device_wants (calm_laws g.below.calm).frame g.n (g.nodes g.n g.in_n)) Begins (IsCounter Alloc 0) (λ t expected mode. mode)
      (IsListening g.a) (DeliversTo g.a) (DeviceHasMemory g.a) (device_hears (session_laws g.below) g.group g.clocks g.pace g.n g.a) traffic w xs s.front s.expected s.pair at_ in_time

  -- what is known of a row
  pub record Known (moment : ℕ) (w : Cluster) (timed : Timed) : Type 0 where
    pub leaves : (accepted : List Accepted) → IsSettled g.n g.log accepted (moment + g.clocks (OfMember g.n)) w
        → StaysSettled g.n g.log accepted (timed.at + g.clocks (OfMember g.n)) w timed.row
    pub memory : DeviceHasMemory g.a w
    pub room : HasRoomToTell g.n w
    pub others : BringsNone g.n w timed.row

  -- ---- what comes to the device

  module _ (traffic : Traffic) (w : Cluster) (well : AreWell g.group w) (at_ : ℕ) where
    same_number : (p q : ℕ) → (p == q) ≡ true → p ≡ q
    same_number p q e = elim (eqb_tells p q) [ inl z ↦ z.1 | inr z ↦ absurd (cc (e, z.0)) ]

    pub yes_number : (p q : ℕ) → p ≡ q → (p == q) ≡ true
    yes_number p q e = elim (eqb_tells p q) [ inl z ↦ z.0 | inr z ↦ absurd (z.1 e) ]

    -- a frame that goes to the bus
    pub brought_bears : (r : Row) → IsCalmRow g.group g.clocks g.pace traffic w at_ r → BringsNone g.n w r → (f : Queued) → brought w r ≡ Some f
        → sends r (OfDevice g.a) ≡ false → IsBearable g.n f
    brought_bears (Send p) c none f e other = is_bearable (calm_laws g.below.calm).frame g.n p f (g.nodes p c.0) (sent_own (calm_laws g.below.calm) p (w.member p) f (well.members p c.0) e)
        (λ differ. none differ f e)
    brought_bears (ASend b) c none f e other = absurd (cc (other, yes_number b g.a (g.alone b c.0)))
    brought_bears (Tick p ms word) c none f e other = absurd (cc (e))
    brought_bears (Rx p k ms) c none f e other = absurd (cc (e))
    brought_bears (ATick b ms word) c none f e other = absurd (cc (e))
    brought_bears (ARx b k ms word) c none f e other = absurd (cc (e))
    brought_bears (Open p told ms word) c none f e other = absurd c
    brought_bears (Ext frame) c none f e other = absurd c
    brought_bears (Crash p calls pattern) c none f e other = absurd c
    brought_bears (Fault p call) c none f e other = absurd c
    brought_bears (AOpen b uid pref ms word) c none f e other = absurd c
    brought_bears (AEnd b) c none f e other = absurd c

    -- the number of the frame that comes to the device
    pub next_to : (r : Row) → IsCalmRow g.group g.clocks g.pace traffic w at_ r → receives r (OfDevice g.a) ≡ true
        → (k : ℕ) × IsNext k (traffic.to (OfDevice g.a)) × ((after_row w r).frames ≡ w.frames)
    next_to (ARx b k ms word) c e = (k, subst (λ (d : ℕ). IsNext k (traffic.to (OfDevice d))) (g.alone b c.0) c.2, refl)
    next_to (Send p) c e = absurd (cc (e))
    next_to (ASend b) c e = absurd (cc (e))
    next_to (Tick p ms word) c e = absurd (cc (e))
    next_to (Rx p k ms) c e = absurd (cc (e))
    next_to (ATick b ms word) c e = absurd (cc (e))
    next_to (Open p told ms word) c e = absurd c
    next_to (Ext frame) c e = absurd c
    next_to (Crash p calls pattern) c e = absurd c
    next_to (Fault p call) c e = absurd c
    next_to (AOpen b uid pref ms word) c e = absurd c
    next_to (AEnd b) c e = absurd c

  -- a bearable frame that comes to the device, and of which the Allocations under way are not the end, gives nothing
  module _ (traffic : Traffic) (w : Cluster) (xs : List Made) (front : List Coming) (expected : Expected) (pair : PairOf traffic w xs front expected) (at_ : ℕ)
      (in_time : IsInTime g.group g.clocks g.pace traffic w at_) (row : Row) where
    gives_none_by : (x : Answer) → ((d : Delivery) → x ≡ Gives d → ⊥) → GivesNone x
    gives_none_by (Gives d) f = f d refl
    gives_none_by Continues f = tt
    gives_none_by (Drops why) f = tt

    pub none_ends : IsNotLast (calm_laws g.below.calm) g.group g.clocks g.pace g.nodes g.n g.in_n (OfDevice g.a) g.in_a refl device_receiver Alloc 0 g.base in_two refl refl (inr refl) refl
        (device_wants (calm_laws g.below.calm).frame g.n (g.nodes g.n g.in_n)) Begins (IsCounter Alloc 0) (λ t expected mode. mode)
        (IsListening g.a) (DeliversTo g.a) (DeviceHasMemory g.a) (device_hears (session_laws g.below) g.group g.clocks g.pace g.n g.a)
        traffic w xs front expected pair at_ in_time row (λ e. ⊤) → (k : ℕ) → IsNext k (traffic.to (OfDevice g.a)) → receives row (OfDevice g.a) ≡ true
        → IsBearable g.n (frame_at w.frames k) → (sessions : List Session) (moment : ℕ) → GivesNone (answer setting sessions (arrival_at (frame_at w.frames k) moment))
    none_ends frames k next is_to bears sessions moment = elim (eqb_tells (frame_at w.frames k).id number) [
      | inl own ↦ gives_none_by (answer setting sessions (arrival_at (frame_at w.frames k) moment))
          (gives_none_yet (calm_laws g.below.calm).frame g.n (g.nodes g.n g.in_n) (frame_at w.frames k) sessions moment own.1
          (elim (frames k next is_to) [
            | inl other ↦ absurd (other.0 own.1)
            | inr x ↦ ap (λ (f : Queued). (read f).tail.end) x.6
                ∙ not_last (calm_laws g.below.calm).cutting x.0 (pair.ones_are x.0 (subst (λ (l : List Made). In x.0 l) (sym x.5) (inl refl))).id x.2 x.4 x.3 x.8 x.7
          ]))
      | inr other ↦ subst GivesNone (sym (drops_it g.n (frame_at w.frames k) sessions moment bears other.1)) tt
    ]

  module _ (accepted : List Accepted) (xs : List Made) (cs : List Coming) (traffic : Traffic) (w : Cluster) (s : Scene accepted xs cs traffic w) (at_ : ℕ) (row : Row)
      (in_time : IsInTime g.group g.clocks g.pace traffic w at_) (calm : IsCalmRow g.group g.clocks g.pace traffic w at_ row)
      (known : Known traffic.at w (record { at = at_; row = row })) where
    abbrev then_traffic : Traffic
    then_traffic = traffic_after traffic w (record { at = at_; row = row })

    abbrev then_w : Cluster
    then_w = after_row w row

    pub well_then : AreWell g.group then_w
    well_then = well_after (calm_laws g.below.calm) g.group g.nodes w s.well g.clocks g.pace traffic at_ row calm

    -- what comes to the device is bearable
    abbrev BearsThen : Type 0
    BearsThen = Flying (IsBearable g.n) g.pace.delay then_w.frames (then_traffic.to (OfDevice g.a)) []

    bears_comes : receives row (OfDevice g.a) ≡ true → (k : ℕ) → IsNext k (traffic.to (OfDevice g.a)) → (after_row w row).frames ≡ w.frames
        → IsBearable g.n (frame_at w.frames k) × BearsThen
    bears_comes is k next frames =
        elim (one_comes g.group g.clocks g.pace (OfDevice g.a) (IsBearable g.n) [] traffic w at_ s.bears row is frames k next) [
          | inl other ↦ other
          | inr own ↦ absurd (omega (arith, ap length own.2))
        ]

    pub bears_then : BearsThen
    bears_then = elim (tell (receives row (OfDevice g.a))) [
      | inl is ↦ let x = next_to traffic w s.well at_ row calm is in (bears_comes is x.0 x.1 x.2).1
      | inr none ↦ fly_on g.group g.clocks g.pace (OfDevice g.a) (IsBearable g.n) [] traffic w at_ s.bears row calm none (brought_bears traffic w s.well at_ row calm known.others)
    ]

    -- the Allocations under way then
    abbrev Rest : Expected → Type 0
    Rest e = ⊤

    abbrev NextOf : Type 0
    NextOf = Next (calm_laws g.below.calm) g.group g.clocks g.pace g.nodes g.n g.in_n (OfDevice g.a) g.in_a refl device_receiver Alloc 0 g.base in_two refl refl (inr refl) refl
        (device_wants (calm_laws g.below.calm).frame g.n (g.nodes g.n g.in_n)) Begins (IsCounter Alloc 0) (λ t expected mode. mode)
        (IsListening g.a) (DeliversTo g.a) (DeviceHasMemory g.a) (device_hears (session_laws g.below) g.group g.clocks g.pace g.n g.a)
        traffic w xs s.front s.expected s.pair at_ in_time row Rest

    abbrev pub offered : Event → List Offer
    offered event = ones Alloc 0 (step s.pair.sender (w.rows + 1) event).step_state.offers

    -- one of those that a step sends
    pub is_sent : (event : Event) → step_of w row ≡ Some (g.n, event) → (o : Offer) → In o (offered event) → Sends g.n w row o × (o.what ≡ Alloc)
    is_sent event is_step o i =
        let r = out_ones (is_one Alloc 0) (step s.pair.sender (w.rows + 1) event).step_state.offers o i in (
          record {
            server = s.pair.sender;
            runs = s.pair.sender_up.status;
            event = event;
            in_step = is_step;
            offered = r.0;
            fitted = and_left o.fitted (is_to Alloc 0 o) r.1;
          },
          (is_to_true Alloc 0 o (and_right o.fitted (is_to Alloc 0 o) r.1)).0,
        )

    pub next_pair : ((event : Event) → step_of w row ≡ Some (g.n, event) → AreShort 19 (offered event)) → NextOf
    next_pair short = next_row (calm_laws g.below.calm) g.group g.clocks g.pace g.nodes g.n g.in_n (OfDevice g.a) g.in_a refl device_receiver Alloc 0 g.base in_two refl refl (inr refl) refl
        (device_wants (calm_laws g.below.calm).frame g.n (g.nodes g.n g.in_n)) Begins (IsCounter Alloc 0) (λ t expected mode. mode)
        (IsListening g.a) (DeliversTo g.a) (DeviceHasMemory g.a) (device_hears (session_laws g.below) g.group g.clocks g.pace g.n g.a)
        traffic w xs s.front s.expected s.pair at_ in_time known.memory s.well Rest row calm
        (λ event is_step bus.
        let f = counter_follows Begins g.n Alloc 0 refl (w.rows + 1) s.expected s.pair.sender s.pair.sender_is s.pair.mode event in
        (f.0, f.1, f.2, short event is_step, tt))
        (λ none. tt)

    -- ---- a row in which no request comes to the leader

    -- what comes to the device in it gives nothing
    abbrev pub NothingGiven : Type 0
    NothingGiven = (k ms word : ℕ) → row ≡ ARx g.a k ms word → (sessions : List Session) (moment : ℕ)
        → GivesNone (answer setting sessions (arrival_at (frame_at w.frames k) moment))

    abbrev pub SceneThen : List Accepted → List Made → List Coming → Type 0
    SceneThen then_accepted ys ds = Scene then_accepted ys ds then_traffic then_w

    module _ (not_asked : IsNotAsked g.n w row) (ds : List Coming) (requests : Flying HasSource g.pace.delay then_w.frames (then_traffic.to (OfMember g.n)) ds) where
      settled_then : IsSettled g.n g.log accepted (at_ + g.clocks (OfMember g.n)) then_w
      settled_then = (known.leaves accepted s.settled).unasked not_asked

      sends_none : (event : Event) → step_of w row ≡ Some (g.n, event) → offered event ≡ []
      sends_none event is_step = by (offered event) refl
        where
          by : (l : List Offer) → offered event ≡ l → offered event ≡ []
          by [] e = e
          by (o ∷ l) e =
              let r = is_sent event is_step o (subst (λ (k : List Offer). In o k) (sym e) (inl refl)) in
              absurd (none_sent g.below.judged g.n g.log w s.pair.sender s.pair.sender_up s.pair.sender_is.me (traffic.at + g.clocks (OfMember g.n)) s.settled.settled row
              (at_ + g.clocks (OfMember g.n)) settled_then.settled event is_step not_asked o (out_ones (is_one Alloc 0) (step s.pair.sender (w.rows + 1) event).step_state.offers o
              (subst (λ (k : List Offer). In o k) (sym e) (inl refl))).0 r.1)

      scene_with : (ys : List Made) (front : List Coming) (expected : Expected) → PairOf then_traffic then_w ys front expected → SceneThen accepted ys ds
      scene_with ys front expected pair = record {
        settled = settled_then;
        well = well_then;
        front = front;
        expected = expected;
        pair = pair;
        bears = bears_then;
        requests = requests;
      }

      -- the scene goes on as it was; or the first Allocation that is under way is delivered
      pub scene_on : (SceneThen accepted xs ds × NothingGiven)
          ⊎ ((x : Made) × (rest : List Made) × (xs ≡ x ∷ rest) × DeliversTo g.a x.transfer w row × SceneThen accepted rest ds)
      scene_on = elim (next_pair (λ event is_step o i. absurd (subst (λ (l : List Offer). In o l) (sends_none event is_step) i))) [
        | inl on ↦ inl (
          scene_with xs on.1 on.2 (subst (λ (l : List Made). PairOf then_traffic then_w l on.1 on.2) (ap (λ (l : List Made). xs ++ l) (none_more on.0 on.7) ∙ at_end xs) on.3),
          nothing on.8,
        )
        | inr ends ↦ inr (ends.0, ends.1, ends.2, ends.3, scene_with ends.1 [] s.expected ends.4)
      ]
        where
          at_end : (l : List Made) → l ++ [] ≡ l
          at_end [] = refl
          at_end (x ∷ l) = ap (λ (k : List Made). x ∷ k) (at_end l)

          none_more : (more : List Made) → AreNews (calm_laws g.below.calm) g.group g.clocks g.pace g.nodes g.n g.in_n (OfDevice g.a) g.in_a refl device_receiver Alloc 0 g.base in_two refl refl (inr refl) refl
              (device_wants (calm_laws g.below.calm).frame g.n (g.nodes g.n g.in_n)) Begins (IsCounter Alloc 0) (λ t expected mode. mode)
              (IsListening g.a) (DeliversTo g.a) (DeviceHasMemory g.a) (device_hears (session_laws g.below) g.group g.clocks g.pace g.n g.a)
              traffic w xs s.front s.expected s.pair at_ in_time row Rest more → more ≡ []
          none_more more news = by (step_of w row) refl
            where
              by : (o : Option (ℕ × Event)) → step_of w row ≡ o → more ≡ []
              by None e = news.1 (λ event is_step. cc (sym e ∙ is_step))
              by (Some (p, event)) e = elim (eqb_tells p g.n) [
                | inl own ↦
                    let is_step : step_of w row ≡ Some (g.n, event) = e ∙ ap (λ (q : ℕ). Some (q, event)) own.1 in
                    news.0 event is_step ∙ (ap (made_of at_ (sent_by g.n w)) (sends_none event is_step) ∙ made_none at_ (sent_by g.n w))
                | inr other ↦ news.1 (λ its is_step. other.1 (same_stepper p g.n event its (sym e ∙ is_step)))
              ]

          nothing : IsNotLast (calm_laws g.below.calm) g.group g.clocks g.pace g.nodes g.n g.in_n (OfDevice g.a) g.in_a refl device_receiver Alloc 0 g.base in_two refl refl (inr refl) refl
              (device_wants (calm_laws g.below.calm).frame g.n (g.nodes g.n g.in_n)) Begins (IsCounter Alloc 0) (λ t expected mode. mode)
              (IsListening g.a) (DeliversTo g.a) (DeviceHasMemory g.a) (device_hears (session_laws g.below) g.group g.clocks g.pace g.n g.a)
              traffic w xs s.front s.expected s.pair at_ in_time row Rest → NothingGiven
          nothing frames k ms word is sessions moment = none_ends traffic w xs s.front s.expected s.pair at_ in_time row frames k next is_to (bears_comes is_to k next same_frames).0 sessions moment
            where
              next : IsNext k (traffic.to (OfDevice g.a))
              next = (subst (λ (r : Row). IsCalmRow g.group g.clocks g.pace traffic w at_ r) is calm).2

              is_to : receives row (OfDevice g.a) ≡ true
              is_to = ap (λ (r : Row). receives r (OfDevice g.a)) is ∙ yes_number traffic w s.well at_ g.a g.a refl

              same_frames : (after_row w row).frames ≡ w.frames
              same_frames = ap (λ (r : Row). (after_row w r).frames) is
