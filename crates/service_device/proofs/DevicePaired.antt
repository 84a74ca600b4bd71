-- A member tells a device its pair in a calm: when the Allocation has come, the device holds a node ID.
use Rattle.std.proofs.Common.{◌≡◌, ℕ, ◌+◌, ◌*◌, ◌<◌, ◌≤◌, List, [], ◌∷◌, ◌++◌, length, append_assoc, sym, ◌∙◌, ap, subst, arith, Some}
use Rattle.can_frame.specs.declared.step.What.TheVariants.{Alloc}
use Rattle.can_frame.specs.Timing.{transfer_timeout}
use Rattle.dsdl_codec.specs.declared.allocation.Allocation.{Allocation}
use Rattle.dsdl_codec.specs.Allocation.{IsAllocation, allocation_bytes, allocation_of}
use Rattle.bus_rows.specs.declared.row.Row.{Row}
use Rattle.allocatee.specs.Allocatee.{Device, Event, step}
use Rattle.alloc_spec.specs.Exchange.{allocation_payload}
use Rattle.alloc_spec.specs.Transfers.{Offer, SentTransfer}
use Rattle.bus_agreement.specs.Allocatees.{Holds}
use Rattle.bus_rows.specs.Timed.{Timed, rows_in}
use Rattle.service_alone.specs.Calm.{Pace, end_of}
use Rattle.service_calm.specs.Calm.{AreCalm, Party, no_traffic}
use Rattle.service_calm.specs.Comes.{Sends, Throughout, sent_by}
use Rattle.service_calm.specs.Devices.{AllocationsComeInCalm, ComesToBy, DeviceHasMemory, SendsShortAllocations}
use Rattle.service_device.specs.AskingServed.{CanBeTold}
use Rattle.service_device.specs.Settled.{IsCalmUnder}
use Rattle.service_device.proofs.ServedHolds.{IsDevice, holds_one, is_there}
use Rattle.service_leader.proofs.Stretches.{end_both, world_both}
use Rattle.bus_spec.specs.Cluster.{Cluster, after_row, after_rows, world_of}

-- Behind a front of the later rows the transfer x comes to device a by this moment, and then the device holds a node ID.
pub record PairComes (a : ℕ) (uid : List ℕ) (x : SentTransfer) (last : ℕ) (w : Cluster) (front rest later : List Timed) (timed : Timed) : Type 0 where
  pub comes : ComesToBy a x last (after_rows w (rows_in front)) (timed ∷ rest)
  pub split : later ≡ ((front ++ comes.front) ++ comes.timed ∷ []) ++ comes.rest
  pub node : ℕ
  pub holds : Holds (after_rows w (rows_in ((front ++ comes.front) ++ comes.timed ∷ []))) a uid node

module _ (ids : List ℕ) (rows : List Row) (come_in : AllocationsComeInCalm ids rows)
    (stays : (d : Device) (number : ℕ) (event : Event) → (step d number event).device.asking.uid ≡ d.asking.uid)
    (read : (value : Allocation) → IsAllocation value → allocation_of (allocation_bytes value) ≡ Some value)
    (group : List Party) (clocks : Party → ℕ) (pace : Pace) (start n a term : ℕ) (first later : List Timed)
    (under : IsCalmUnder ids rows group clocks pace start n term first later) (uid : List ℕ) (size : length uid ≡ 16)
    (is_its : IsDevice uid ((world_of ids rows).allocatee a)) (can : CanBeTold group n a (world_of ids rows) (first ++ later))
    (quick : 2 * pace.delay ≤ transfer_timeout) (front rest : List Timed) (timed : Timed) (split : later ≡ front ++ timed ∷ rest) (node : ℕ) (low : 1 ≤ node)
    (high : node ≤ 125) (offer : Offer) (what : offer.what ≡ Alloc) (payload : offer.payload ≡ allocation_payload node uid)
    (sends : Sends n (after_rows (after_rows (world_of ids rows) (rows_in first)) (rows_in front)) timed.row offer) (last : ℕ) (soon : timed.at ≤ last)
    (long : last + 2 * pace.delay < end_of (end_of start first) later) where
  abbrev w : Cluster
  w = world_of ids rows

  abbrev led_from : Cluster
  led_from = after_rows w (rows_in first)

  abbrev from : ℕ
  from = end_of start first

  abbrev there : Cluster
  there = after_rows led_from (rows_in front)

  abbrev x : SentTransfer
  x = sent_by n there offer

  cut_told : first ++ later ≡ (first ++ front) ++ timed ∷ rest
  cut_told = ap (λ (l : List Timed). first ++ l) split ∙ sym (append_assoc first front (timed ∷ rest))

  -- it comes in a world, which is the one behind the front
  abbrev ComesIn : Cluster → Type 0
  ComesIn v = ComesToBy a (sent_by n v offer) (timed.at + 2 * pace.delay) v (timed ∷ rest)

  -- the Allocation comes
  comes : ComesToBy a (sent_by n there offer) (timed.at + 2 * pace.delay) there (timed ∷ rest)
  comes = subst ComesIn (world_both w first front)
      (come_in group clocks pace start n a (first ++ front) rest timed offer under.listed under.running under.member can.of_group quick can.ready can.begins
      (subst (AreCalm group clocks pace (no_traffic start) w) cut_told under.calm)
      (subst (Throughout (DeviceHasMemory a) w) cut_told can.memory) (subst (SendsShortAllocations n w) cut_told can.short)
      (subst (λ (v : Cluster). Sends n v timed.row offer) (sym (world_both w first front)) sends) what
      (omega (arith, soon, long, ap (λ (l : List Timed). end_of from l) split, end_both from front (timed ∷ rest))))

  abbrev before : List Timed
  before = front ++ comes.front

  split_there : later ≡ before ++ comes.timed ∷ comes.rest
  split_there = split ∙ (ap (λ (l : List Timed). front ++ l) comes.split ∙ sym (append_assoc front comes.front (comes.timed ∷ comes.rest)))

  is_device : IsDevice uid ((after_rows there (rows_in comes.front)).allocatee a)
  is_device = subst (λ (v : Cluster). IsDevice uid (v.allocatee a)) (world_both w first before ∙ world_both led_from front comes.front)
      (is_there stays group clocks pace a uid (first ++ before) (comes.timed ∷ comes.rest) (no_traffic start) w
      (subst (AreCalm group clocks pace (no_traffic start) w)
      (ap (λ (l : List Timed). first ++ l) split_there ∙ sym (append_assoc first before (comes.timed ∷ comes.rest))) under.calm) is_its)

  held : (other : ℕ) × Holds (after_row (after_rows there (rows_in comes.front)) comes.timed.row) a uid other
  held = holds_one stays read a uid size node low high (after_rows there (rows_in comes.front)) comes.timed.row is_device x what payload comes.delivers

  same_world : after_rows led_from (rows_in (before ++ comes.timed ∷ [])) ≡ after_row (after_rows there (rows_in comes.front)) comes.timed.row
  same_world = world_both led_from before (comes.timed ∷ []) ∙ ap (λ (v : Cluster). after_row v comes.timed.row) (world_both led_from front comes.front)

  -- behind the row in which it comes the device holds a node ID
  pub pair_comes : PairComes a uid (sent_by n there offer) (timed.at + 2 * pace.delay) led_from front rest later timed
  pair_comes = record {
    comes = comes;
    split = split_there ∙ sym (append_assoc before (comes.timed ∷ []) comes.rest);
    node = held.0;
    holds = subst (λ (v : Cluster). Holds v a uid held.0) (sym same_world) held.1;
  }
