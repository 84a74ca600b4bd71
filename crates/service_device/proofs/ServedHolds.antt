-- A device to which its pair is told holds a node ID when the Allocation has come.
use Rattle.std.proofs.Common.{◌≡◌, ℕ, ◌+◌, ◌≤◌, false, List, [], ◌∷◌, ◌++◌, length, refl, sym, ◌∙◌, ap, subst, inl, inr, arith, Option, None, Some}
use Rattle.std.proofs.lemmas.Bool.Decides.{eqb_tells}
use Rattle.std.proofs.lemmas.Slice.Eq.{bytes_eq-Decides}
use Rattle.can_frame.specs.declared.step.What.TheVariants.{Alloc}
use Rattle.can_frame.specs.Kinds.{is_anonymous}
use Rattle.dsdl_codec.specs.declared.allocation.Allocation.{Allocation}
use Rattle.dsdl_codec.specs.Allocation.{IsAllocation, allocation_bytes, allocation_of}
use Rattle.raft_model.specs.Lists.{at, at_here, at_other}
use Rattle.bus_rows.specs.declared.row.Row.{Row}
use Rattle.bus_rows.specs.declared.row.Row.TheVariants.{AEnd, AOpen, ARx, ASend, ATick, Crash, Ext, Fault, Open, Rx, Send, Tick}
use Rattle.transfer_rx.specs.Reassembly.{Answer}
use Rattle.allocatee.specs.Allocatee.{Device, Event, after_pop, after_reading, after_receiver_answer, opening, step}
use Rattle.allocatee.specs.Allocatee as device
use Rattle.allocatee.specs.Asking.{Asking, after_allocation, at_moment}
use Rattle.allocatee.proofs.Requests.{le_is}
use Rattle.alloc_spec.specs.Exchange.{allocation_payload}
use Rattle.alloc_spec.specs.Transfers.{SentTransfer, kind_of}
use Rattle.bus_agreement.specs.Allocatees.{Holds}
use Rattle.bus_rows.specs.Timed.{Timed, rows_in}
use Rattle.service_alone.specs.Calm.{Pace}
use Rattle.service_alone.proofs.CalmStages.{device_steps}
use Rattle.service_calm.specs.Calm.{AreCalm, IsCalmRow, Party, Traffic, no_traffic, traffic_after}
use Rattle.service_calm.specs.Devices.{DeliversTo}
use Rattle.bus_spec.specs.Allocatees.{after_sending_from, device_after_step}
use Rattle.bus_spec.specs.Cluster.{Cluster, after_row, after_rows, arrival_at, frame_at, receipt_at}

-- ---- a device stays

-- a device with this unique ID
abbrev pub IsDevice : List ℕ → Option Device → Type 0
IsDevice uid o = (d : Device) × (o ≡ Some d) × (d.asking.uid ≡ uid)

module _ (stays : (d : Device) (number : ℕ) (event : Event) → (step d number event).device.asking.uid ≡ d.asking.uid) (group : List Party) (clocks : Party → ℕ) (pace : Pace)
    (a : ℕ) (uid : List ℕ) where
  -- where the device at one place is changed
  changed : (devices : ℕ → Option Device) (b : ℕ) (over : Option Device → Option Device) (change : Device → Device) → ((d : Device) → over (Some d) ≡ Some (change d))
      → ((d : Device) → (change d).asking.uid ≡ d.asking.uid) → IsDevice uid (devices a) → IsDevice uid (at devices b (over (devices b)) a)
  changed devices b over change is_over keeps h = elim (eqb_tells a b) [
    | inl z ↦ (change h.0, at_here devices b a (over (devices b)) z.1 ∙ (ap over (ap devices (sym z.1) ∙ h.1) ∙ is_over h.0), keeps h.0 ∙ h.2)
    | inr z ↦ (h.0, at_other devices b a (over (devices b)) z.1 ∙ h.1, h.2)
  ]

  stays_on : (traffic : Traffic) (w : Cluster) (moment : ℕ) (row : Row) → IsCalmRow group clocks pace traffic w moment row → IsDevice uid (w.allocatee a)
      → IsDevice uid ((after_row w row).allocatee a)
  stays_on traffic w moment (Tick p ms word) calm is = is
  stays_on traffic w moment (Rx p k ms) calm is = is
  stays_on traffic w moment (Send p) calm is = is
  stays_on traffic w moment (ATick b ms word) calm is = changed w.allocatee b (device_after_step (w.rows + 1) (device.Tick ms word))
      (λ d. (step d (w.rows + 1) (device.Tick ms word)).device) (λ d. refl) (λ d. stays d (w.rows + 1) (device.Tick ms word)) is
  stays_on traffic w moment (ARx b k ms word) calm is = changed w.allocatee b (device_after_step (w.rows + 1) (receipt_at w k ms word))
      (λ d. (step d (w.rows + 1) (receipt_at w k ms word)).device) (λ d. refl) (λ d. stays d (w.rows + 1) (receipt_at w k ms word)) is
  stays_on traffic w moment (ASend b) calm is = changed w.allocatee b after_sending_from after_pop (λ d. refl) (λ d. refl) is
  stays_on traffic w moment (Open p told ms word) calm is = absurd calm
  stays_on traffic w moment (Ext frame) calm is = absurd calm
  stays_on traffic w moment (Crash p calls pattern) calm is = absurd calm
  stays_on traffic w moment (Fault p call) calm is = absurd calm
  stays_on traffic w moment (AOpen b other pref ms word) calm is = absurd calm
  stays_on traffic w moment (AEnd b) calm is = absurd calm

  -- it is there behind calm rows
  pub is_there : (front rest : List Timed) (traffic : Traffic) (w : Cluster) → AreCalm group clocks pace traffic w (front ++ rest) → IsDevice uid (w.allocatee a)
      → IsDevice uid ((after_rows w (rows_in front)).allocatee a)
  is_there [] rest traffic w calm is = is
  is_there (timed ∷ front) rest traffic w calm is = is_there front rest (traffic_after traffic w timed) (after_row w timed.row) calm.2
      (stays_on traffic w timed.at timed.row calm.1 is)

-- one device stands at a place
same_device : (x y : Device) (o : Option Device) → o ≡ Some x → o ≡ Some y → x ≡ y
same_device x y o e f = cc (e, f)

-- in rows that begin in a world, and are cut somewhere, a device has the unique ID at the beginning that it has behind the first rows
pub its_uid_then : (stays : (d : Device) (number : ℕ) (event : Event) → (step d number event).device.asking.uid ≡ d.asking.uid) (group : List Party) (clocks : Party → ℕ)
    (pace : Pace) (start a : ℕ) (w : Cluster) (front rest : List Timed) → AreCalm group clocks pace (no_traffic start) w (front ++ rest) → (x y : Device)
    → w.allocatee a ≡ Some x → (after_rows w (rows_in front)).allocatee a ≡ Some y → IsDevice y.asking.uid (w.allocatee a)
its_uid_then stays group clocks pace start a w front rest calm x y is is_now =
    let kept = is_there stays group clocks pace a x.asking.uid front rest (no_traffic start) w calm (x, is, refl) in
    let same : y ≡ kept.0 = same_device y kept.0 ((after_rows w (rows_in front)).allocatee a) is_now kept.1 in
    (x, is, sym (ap (λ (d : Device). d.asking.uid) same ∙ kept.2))

-- ---- it takes its pair

-- who is told its pair holds a node ID, this one or one that it held before
takes : (word node : ℕ) (uid : List ℕ) (x : Asking) → x.uid ≡ uid → 1 ≤ node → node ≤ 125
    → (other : ℕ) × ((after_allocation word false (record { node = node; first_part = false; uid = record { items = uid } }) x).holds ≡ Some other)
unfolding after_allocation
takes word node uid x own low high = by x.holds refl
  where
    by : (o : Option ℕ) → x.holds ≡ o → (other : ℕ) × ((after_allocation word false (record { node = node; first_part = false; uid = record { items = uid } }) x).holds ≡ Some other)
    by None e = (node, rw (e) (rw ((bytes_eq-Decides uid x.uid).1 (sym own)) (rw (le_is 1 node low) (rw (le_is node 125 high) refl))))
    by (Some other) e = (other, rw (e) refl)

some_device : (x y : Device) → ◌≡◌ {A = Option Device} (Some x) (Some y) → x ≡ y
some_device x y e = cc (e)

module _ (stays : (d : Device) (number : ℕ) (event : Event) → (step d number event).device.asking.uid ≡ d.asking.uid)
    (read : (value : Allocation) → IsAllocation value → allocation_of (allocation_bytes value) ≡ Some value) (a : ℕ) (uid : List ℕ) (whole : length uid ≡ 16)
    (node : ℕ) (low : 1 ≤ node) (high : node ≤ 125) (w : Cluster) (row : Row) (is : IsDevice uid (w.allocatee a)) (x : SentTransfer) (what : x.offer.what ≡ Alloc)
    (payload : x.offer.payload ≡ allocation_payload node uid) (delivers : DeliversTo a x w row) where
  abbrev d : Device
  d = delivers.device

  own : d.asking.uid ≡ uid
  own = ap (λ (y : Device). y.asking.uid) (some_device d is.0 (sym delivers.there ∙ is.1)) ∙ is.2

  abbrev event : Event
  event = receipt_at w delivers.k delivers.ms delivers.word

  abbrev asks : Asking
  asks = at_moment delivers.ms d.asking

  told : after_receiver_answer delivers.word (device.answer_to d (arrival_at (frame_at w.frames delivers.k) delivers.ms)) asks
      ≡ after_allocation delivers.word false (record { node = node; first_part = false; uid = record { items = uid } }) asks
  told = ap (λ (y : Answer). after_receiver_answer delivers.word y asks) delivers.gives
      ∙ ((λ i. after_reading delivers.word (is_anonymous (kind_of (what i))) (allocation_of (payload i)) asks)
      ∙ ap (λ (o : Option Allocation). after_reading delivers.word false o asks)
      (read (record { node = node; first_part = false; uid = record { items = uid } }) (record { node = omega (arith, high); uid = omega (arith, whole) })))

  taken : (other : ℕ) × ((after_allocation delivers.word false (record { node = node; first_part = false; uid = record { items = uid } }) asks).holds ≡ Some other)
  taken = takes delivers.word node uid asks own low high

  its_node : (step d (w.rows + 1) event).device.asking.holds ≡ Some taken.0
  unfolding step
  its_node = ap (λ (y : Asking). y.holds) told ∙ taken.1

  -- the device holds a node ID then
  pub holds_one : (other : ℕ) × Holds (after_row w row) a uid other
  holds_one = (
    taken.0,
    subst (λ (r : Row). Holds (after_row w r) a uid taken.0) (sym delivers.comes) (record {
      device = (step d (w.rows + 1) event).device;
      there = device_steps w a event d (step d (w.rows + 1) event).device delivers.there refl;
      its_uid = stays d (w.rows + 1) event ∙ own;
      its_node = its_node;
    }),
  )
