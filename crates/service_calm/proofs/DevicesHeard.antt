-- A request that a device offers in a calm comes to each member of the group, within two delays.
use Rattle.std.proofs.Common.{◌≡◌, ◌≢◌, ℕ, ◌+◌, ◌*◌, ◌<◌, ◌≤◌, Bool, true, false, not, List, [], ◌∷◌, ◌++◌, length, refl, sym, ◌∙◌, ap, subst, arith, inl, inr, Option, None, Some}
use Rattle.std.specs.Prelude.{⊤, ◌⊎◌, ◌==◌, drop, is_some, slice_index_or, if◌then◌else◌}
use Rattle.std.proofs.lemmas.Bool.Decides.{eqb_tells}
use Rattle.dsdl_codec.specs.declared.allocation.Allocation.{Allocation}
use Rattle.raft_model.specs.Lists.{In, at, at_here, at_other}
use Rattle.bus_rows.specs.declared.row.Row.{Row}
use Rattle.bus_rows.specs.declared.row.Row.TheVariants.{AEnd, AOpen, ARx, ASend, ATick, Crash, Ext, Fault, Open, Rx, Send, Tick}
use Rattle.transfer_rx.specs.Reassembly.{Arrival, Gives, answer}
use Rattle.transfer_rx.specs.Sessions.{Session}
use Rattle.transfer_tx.specs.Queue.{Queued}
use Rattle.allocatee.specs.Allocatee.{Device, after_pop, step}
use Rattle.allocatee.specs.Allocatee as device
use Rattle.alloc_spec.specs.Accepted.{setting_for}
use Rattle.service_steps.specs.Requests.{IsRequest, delivery_of}
use Rattle.bus_rows.specs.Timed.{Timed}
use Rattle.service_alone.specs.Calm.{IsNext, OnItsWay, Pace, end_of, next_on_bus, queue_at}
use Rattle.service_alone.proofs.CalmSide.{waits_on}
use Rattle.service_calm.specs.Calm.{AreCalm, Device as OfDevice, IsCalmRow, IsInTime, Member as OfMember, Party, Traffic, queue_in, traffic_after}
use Rattle.service_calm.specs.Devices.{HearsRequest, HearsRequestBy}
use Rattle.service_calm.proofs.DevicesSteps.{out_or_left, step_keeps}
use Rattle.service_calm.proofs.Group.{AreWell, CalmLaws, well_after}
use Rattle.service_calm.proofs.Pending.{Coming}
use Rattle.service_calm.proofs.Ways.{Flying, flying_late, flying_more, flying_other, flying_own}
use Rattle.bus_spec.specs.Allocatees.{after_sending_from, device_after_step, next_from}
use Rattle.bus_spec.specs.Cluster.{Cluster, after_row, frame_at, in_list, receipt_at}
use Rattle.bus_spec.specs.Members.{next_frame}

-- a request is delivered, whatever sessions the receiver has
abbrev pub RequestsAreDelivered : Type 0
RequestsAreDelivered = (me : ℕ) (sessions : List Session) (arrival : Arrival) (message : Allocation) (request : IsRequest arrival message)
    → answer (setting_for me) sessions arrival ≡ Gives (delivery_of arrival request.ident)

some_waits : (frame : Queued) (queue : List Queued) → In frame queue → queue ≢ []
some_waits frame queue i none = subst (λ (l : List Queued). In frame l) none i

same_number : (n : ℕ) → (n == n) ≡ true
same_number n = elim (eqb_tells n n) [ inl z ↦ z.0 | inr z ↦ absurd (z.1 refl) ]

other_number : (n m : ℕ) → n ≢ m → (n == m) ≡ false
other_number n m differ = elim (eqb_tells n m) [ inl z ↦ absurd (differ z.1) | inr z ↦ z.0 ]

-- what is heard in the rows behind one is heard in all of them
pub heard_behind : (m ahead number : ℕ) (message : Allocation) (last : ℕ) (w : Cluster) (timed : Timed) (rest : List Timed)
    → HearsRequestBy m ahead number message last (after_row w timed.row) rest → HearsRequestBy m ahead number message last w (timed ∷ rest)
heard_behind m ahead number message last w timed rest by = record {
  front = timed ∷ by.front;
  timed = by.timed;
  rest = by.rest;
  split = ap (λ (l : List Timed). timed ∷ l) by.split;
  soon = by.soon;
  hears = by.hears;
}

-- whatever frame it is
abbrev Any : Queued → Type 0
Any frame = ⊤

-- ---- a frame of a device on its way to a member

module _ (group : List Party) (clocks : Party → ℕ) (pace : Pace) (m : ℕ) where
  -- these frames are still to come to the member
  abbrev pub Flies : Traffic → Cluster → List Coming → Type 0
  Flies traffic w cs = Flying Any pace.delay w.frames (traffic.to (OfMember m)) cs

  -- a frame comes to the member, the first of those that are to come
  abbrev Comes : Cluster → Row → List Coming → Type 0
  Comes w row cs = (k : ℕ) × (ms : ℕ) × (c : Coming) × (more : List Coming) × (cs ≡ c ∷ more) × (row ≡ Rx m k ms) × (frame_at w.frames k ≡ c.frame)

  module _ (traffic : Traffic) (w : Cluster) (moment : ℕ) (cs : List Coming) (flies : Flies traffic w cs) where
    abbrev Then : Row → Type 0
    Then row = Flies (traffic_after traffic w (record { at = moment; row = row })) (after_row w row) cs

    -- a frame goes to the bus
    goes : (row : Row) (g : Queued) → (after_row w row).frames ≡ w.frames ++ g ∷ []
        → (traffic_after traffic w (record { at = moment; row = row })).to (OfMember m) ≡ traffic.to (OfMember m) ++ next_on_bus moment w ∷ [] → Then row
    goes row g frames ways = subst (λ (l : List Queued). Flying Any pace.delay l ((traffic_after traffic w (record { at = moment; row = row })).to (OfMember m)) cs) (sym frames)
        (subst (λ (l : List OnItsWay). Flying Any pace.delay (w.frames ++ g ∷ []) l cs) (sym ways)
        (flying_other Any pace.delay w.frames g moment (traffic.to (OfMember m)) cs tt flies))

    -- the member's own goes
    own_goes : (row : Row) (g : Queued) → (after_row w row).frames ≡ w.frames ++ g ∷ []
        → (traffic_after traffic w (record { at = moment; row = row })).to (OfMember m) ≡ traffic.to (OfMember m) → Then row
    own_goes row g frames ways = subst (λ (l : List Queued). Flying Any pace.delay l ((traffic_after traffic w (record { at = moment; row = row })).to (OfMember m)) cs) (sym frames)
        (subst (λ (l : List OnItsWay). Flying Any pace.delay (w.frames ++ g ∷ []) l cs) (sym ways)
        (flying_more Any pace.delay w.frames g (traffic.to (OfMember m)) cs flies))

    -- a frame comes to the member
    comes_or_stays : (k ms : ℕ) → IsNext k (traffic.to (OfMember m)) → Then (Rx m k ms) ⊎ Comes w (Rx m k ms) cs
    comes_or_stays k ms is_next = by (traffic.to (OfMember m)) refl is_next flies
      where
        by : (ways : List OnItsWay) → traffic.to (OfMember m) ≡ ways → IsNext k ways → Flying Any pace.delay w.frames ways cs → Then (Rx m k ms) ⊎ Comes w (Rx m k ms) cs
        by [] to_is next f = absurd next
        by (way ∷ ways) to_is next f = elim f.2 [
          | inl other ↦ inl (subst (λ (l : List OnItsWay). Flying Any pace.delay w.frames l cs) (sym ways_then) other.1)
          | inr own ↦ inr (k, ms, own.0, own.1, own.2, refl, ap (frame_at w.frames) next ∙ own.3)
        ]
          where
            ways_then : (traffic_after traffic w (record { at = moment; row = Rx m k ms })).to (OfMember m) ≡ ways
            ways_then = ap (λ (b : Bool). if b then drop 1 (traffic.to (OfMember m)) else traffic.to (OfMember m)) (same_number m) ∙ ap (λ (l : List OnItsWay). drop 1 l) to_is

    -- what a row leaves of those that are to come
    pub after_calm_row : (row : Row) → IsCalmRow group clocks pace traffic w moment row → Then row ⊎ Comes w row cs
    after_calm_row (Tick n ms word) calm = inl flies
    after_calm_row (Rx n k ms) calm = elim (eqb_tells n m) [
      | inl z ↦ subst (λ (p : ℕ). IsNext k (traffic.to (OfMember p)) → Then (Rx p k ms) ⊎ Comes w (Rx p k ms) cs) (sym z.1) (comes_or_stays k ms) calm.2
      | inr z ↦ inl (subst (λ (l : List OnItsWay). Flying Any pace.delay w.frames l cs)
          (sym (ap (λ (b : Bool). if b then drop 1 (traffic.to (OfMember m)) else traffic.to (OfMember m)) z.0)) flies)
    ]
    after_calm_row (Send n) calm = by (next_frame (w.member n).status) refl
      where
        frames_then : (g : Queued) → next_frame (w.member n).status ≡ Some g → (after_row w (Send n)).frames ≡ w.frames ++ g ∷ []
        frames_then g e = ap (λ (o : Option Queued). w.frames ++ in_list o) e

        ways_by : (b : Bool) → (n == m) ≡ b
            → (traffic_after traffic w (record { at = moment; row = Send n })).to (OfMember m) ≡ (if not b then traffic.to (OfMember m) ++ next_on_bus moment w ∷ [] else traffic.to (OfMember m))
        ways_by b e = ap (λ (c : Bool). if not c then traffic.to (OfMember m) ++ next_on_bus moment w ∷ [] else traffic.to (OfMember m)) e

        by : (o : Option Queued) → next_frame (w.member n).status ≡ o → Then (Send n) ⊎ Comes w (Send n) cs
        by None e = absurd (cc (sym (ap (λ (o : Option Queued). is_some o) e) ∙ calm.1))
        by (Some g) e = elim (eqb_tells n m) [
          | inl z ↦ inl (own_goes (Send n) g (frames_then g e) (ways_by true z.0))
          | inr z ↦ inl (goes (Send n) g (frames_then g e) (ways_by false z.0))
        ]
    after_calm_row (ATick a ms word) calm = inl flies
    after_calm_row (ARx a k ms word) calm = inl flies
    after_calm_row (ASend a) calm = by (next_from (w.allocatee a)) refl
      where
        by : (o : Option Queued) → next_from (w.allocatee a) ≡ o → Then (ASend a) ⊎ Comes w (ASend a) cs
        by None e = absurd (cc (sym (ap (λ (o : Option Queued). is_some o) e) ∙ calm.1))
        by (Some g) e = inl (goes (ASend a) g (ap (λ (o : Option Queued). w.frames ++ in_list o) e) refl)
    after_calm_row (Open n told ms word) calm = absurd calm
    after_calm_row (Ext frame) calm = absurd calm
    after_calm_row (Crash n calls pattern) calm = absurd calm
    after_calm_row (Fault n call) calm = absurd calm
    after_calm_row (AOpen a uid pref ms word) calm = absurd calm
    after_calm_row (AEnd a) calm = absurd calm

  -- where none is to come, none is after a row
  pub none_flies : (traffic : Traffic) (w : Cluster) (moment : ℕ) → Flies traffic w [] → (row : Row) → IsCalmRow group clocks pace traffic w moment row
      → Flies (traffic_after traffic w (record { at = moment; row = row })) (after_row w row) []
  none_flies traffic w moment flies row calm = elim (after_calm_row traffic w moment [] flies row calm) [
    | inl f ↦ f
    | inr c ↦ absurd (omega (arith, ap length c.4))
  ]

  -- ---- a frame waits in a device's queue, and is on its way then

  module _ (a : ℕ) (in_a : In (OfDevice a) group) (in_m : In (OfMember m) group) (frame : Queued) (made : ℕ) where
    abbrev it : Coming
    it = record { at = made; frame = frame }

    -- it waits in the queue, and none of those that are to come is on its way
    pub record Waits (traffic : Traffic) (w : Cluster) : Type 0 where
      pub device : Device
      pub there : w.allocatee a ≡ Some device
      pub waits : In frame device.asking.queue
      pub since : traffic.waits (OfDevice a) ≤ made
      pub flies : Flies traffic w []

    -- it waits, or is on its way
    abbrev pub UnderWay : Traffic → Cluster → Type 0
    UnderWay traffic w = Waits traffic w ⊎ Flies traffic w (it ∷ [])

    module _ (traffic : Traffic) (w : Cluster) (moment : ℕ) (in_time : IsInTime group clocks pace traffic w moment) where
      abbrev later : Row → Traffic
      later row = traffic_after traffic w (record { at = moment; row = row })

      queue_there : (d : Device) → w.allocatee a ≡ Some d → queue_in w (OfDevice a) ≡ d.asking.queue
      queue_there d there = ap queue_at there

      in_queue : (is : Waits traffic w) → In frame (queue_in w (OfDevice a))
      in_queue is = subst (λ (l : List Queued). In frame l) (sym (queue_there is.device is.there)) is.waits

      leaves_by : Waits traffic w → moment ≤ made + pace.delay
      leaves_by is = let s = in_time.sends_soon (OfDevice a) in_a (some_waits frame (queue_in w (OfDevice a)) (in_queue is)) in let k = is.since in omega (arith, s, k)

      -- it is no later than two delays behind its making
      not_late : UnderWay traffic w → moment ≤ made + 2 * pace.delay
      not_late (inl is) = let l = leaves_by is in omega (arith, l)
      not_late (inr flies) = flying_late Any pace.delay w.frames moment (traffic.to (OfMember m)) (it ∷ []) flies (in_time.hears (OfMember m) in_m) it (inl refl)

      module _ (is : Waits traffic w) (row : Row) (calm : IsCalmRow group clocks pace traffic w moment row) where
        -- it waits on
        waits_there : (d : Device) → (after_row w row).allocatee a ≡ Some d → In frame d.asking.queue → Waits (later row) (after_row w row)
        waits_there d there i = record {
          device = d;
          there = there;
          waits = i;
          since = subst (λ (k : ℕ). k ≤ made) (sym (waits_on moment (traffic.waits (OfDevice a)) (queue_in w (OfDevice a)) (queue_in (after_row w row) (OfDevice a))
              (some_waits frame (queue_in w (OfDevice a)) (in_queue is))
              (some_waits frame (queue_in (after_row w row) (OfDevice a)) (subst (λ (l : List Queued). In frame l) (sym (ap queue_at there)) i)))) is.since;
          flies = none_flies traffic w moment is.flies row calm;
        }

        -- the device is as it was
        rests : (after_row w row).allocatee a ≡ w.allocatee a → Waits (later row) (after_row w row)
        rests same = waits_there is.device (same ∙ is.there) is.waits

        -- a device takes a step
        steps : (b : ℕ) (event : device.Event) → (after_row w row).allocatee ≡ at w.allocatee b (device_after_step (w.rows + 1) event (w.allocatee b)) → Waits (later row) (after_row w row)
        steps b event devices = elim (eqb_tells a b) [
          | inl z ↦ waits_there (step is.device (w.rows + 1) event).device
              (ap (λ (f : ℕ → Option Device). f a) devices ∙ (at_here w.allocatee b a (device_after_step (w.rows + 1) event (w.allocatee b)) z.1
              ∙ ap (λ (o : Option Device). device_after_step (w.rows + 1) event o) (ap w.allocatee (sym z.1) ∙ is.there)))
              ((step_keeps is.device (w.rows + 1) event).0 frame is.waits)
          | inr z ↦ rests (ap (λ (f : ℕ → Option Device). f a) devices ∙ at_other w.allocatee b a (device_after_step (w.rows + 1) event (w.allocatee b)) z.1)
        ]

      -- the device's own frame goes to the bus
      device_sends : (is : Waits traffic w) → IsCalmRow group clocks pace traffic w moment (ASend a) → UnderWay (later (ASend a)) (after_row w (ASend a))
      device_sends is calm = by (next_from (w.allocatee a)) refl
        where
          there_then : (after_row w (ASend a)).allocatee a ≡ Some (after_pop is.device)
          there_then = at_here w.allocatee a a (after_sending_from (w.allocatee a)) refl ∙ ap after_sending_from is.there

          by : (o : Option Queued) → next_from (w.allocatee a) ≡ o → UnderWay (later (ASend a)) (after_row w (ASend a))
          by None e = absurd (cc (sym (ap (λ (o : Option Queued). is_some o) e) ∙ calm.1))
          by (Some g) e = elim (out_or_left is.device.asking.queue frame g (sym (ap next_from is.there) ∙ e) is.waits) [
            | inl out ↦ inr (subst (λ (l : List Queued). Flying Any pace.delay l (traffic.to (OfMember m) ++ next_on_bus moment w ∷ []) (it ∷ []))
                (sym (ap (λ (o : Option Queued). w.frames ++ in_list o) e ∙ ap (λ (f : Queued). w.frames ++ f ∷ []) (sym out)))
                (flying_own Any pace.delay w.frames it moment (traffic.to (OfMember m)) [] (leaves_by is) is.flies))
            | inr left ↦ inl (waits_there is (ASend a) calm (after_pop is.device) there_then left)
          ]

      waits_after_row : Waits traffic w → (row : Row) → IsCalmRow group clocks pace traffic w moment row → UnderWay (later row) (after_row w row)
      waits_after_row is (Tick n ms word) calm = inl (rests is (Tick n ms word) calm refl)
      waits_after_row is (Rx n k ms) calm = inl (rests is (Rx n k ms) calm refl)
      waits_after_row is (Send n) calm = inl (rests is (Send n) calm refl)
      waits_after_row is (ATick b ms word) calm = inl (steps is (ATick b ms word) calm b (device.Tick ms word) refl)
      waits_after_row is (ARx b k ms word) calm = inl (steps is (ARx b k ms word) calm b (receipt_at w k ms word) refl)
      waits_after_row is (ASend b) calm = elim (eqb_tells b a) [
        | inl z ↦ subst (λ (c : ℕ). IsCalmRow group clocks pace traffic w moment (ASend c) → UnderWay (later (ASend c)) (after_row w (ASend c))) (sym z.1) (device_sends is) calm
        | inr z ↦ inl (rests is (ASend b) calm (at_other w.allocatee b a (after_sending_from (w.allocatee b)) (λ e. z.1 (sym e))))
      ]
      waits_after_row is (Open n told ms word) calm = absurd calm
      waits_after_row is (Ext f) calm = absurd calm
      waits_after_row is (Crash n calls pattern) calm = absurd calm
      waits_after_row is (Fault n call) calm = absurd calm
      waits_after_row is (AOpen b uid pref ms word) calm = absurd calm
      waits_after_row is (AEnd b) calm = absurd calm

      -- a row leaves it under way, or brings it to the member
      abbrev Arrives : Row → Type 0
      Arrives row = (k : ℕ) × (ms : ℕ) × (row ≡ Rx m k ms) × (frame_at w.frames k ≡ frame)

      goes_on : UnderWay traffic w → (row : Row) → IsCalmRow group clocks pace traffic w moment row → UnderWay (later row) (after_row w row) ⊎ Arrives row
      goes_on (inl is) row calm = inl (waits_after_row is row calm)
      goes_on (inr flies) row calm = elim (after_calm_row traffic w moment (it ∷ []) flies row calm) [
        | inl f ↦ inl (inr f)
        | inr c ↦ inr (c.0, c.1, c.5, c.6 ∙ ap (λ (l : List Coming). (slice_index_or l 0 it).frame) (sym c.4))
      ]

    -- ---- it comes

    module _ (laws : CalmLaws) (nodes : (p : ℕ) → In (OfMember p) group → (1 ≤ p) × (p ≤ 125)) (number : ℕ) (message : Allocation)
        (hears : (w : Cluster) (traffic : Traffic) (timed : Timed) → AreWell group w → IsCalmRow group clocks pace traffic w timed.at timed.row
        → (k ms : ℕ) → timed.row ≡ Rx m k ms → frame_at w.frames k ≡ frame → HearsRequest m (clocks (OfMember m)) number message w timed) where
      pub it_comes : (rows : List Timed) (traffic : Traffic) (w : Cluster) → UnderWay traffic w → AreWell group w → AreCalm group clocks pace traffic w rows
          → traffic.at ≤ made + 2 * pace.delay → made + 2 * pace.delay < end_of traffic.at rows
          → HearsRequestBy m (clocks (OfMember m)) number message (made + 2 * pace.delay) w rows
      it_comes [] traffic w is well calm now long = absurd (omega (arith, now, long))
      it_comes (timed ∷ rest) traffic w is well calm now long = elim (goes_on traffic w timed.at calm.0 is timed.row calm.1) [
        | inl then_is ↦ heard_behind m (clocks (OfMember m)) number message (made + 2 * pace.delay) w timed rest (it_comes rest (traffic_after traffic w timed) (after_row w timed.row) then_is
            (well_after laws group nodes w well clocks pace traffic timed.at timed.row calm.1) calm.2 (not_late traffic w timed.at calm.0 is) long)
        | inr c ↦ record {
          front = [];
          timed = timed;
          rest = rest;
          split = refl;
          soon = not_late traffic w timed.at calm.0 is;
          hears = hears w traffic timed well calm.1 c.0 c.1 c.2 c.3;
        }
      ]
