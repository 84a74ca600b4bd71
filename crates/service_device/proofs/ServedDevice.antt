-- A new device in a calm: from the row in which its pair is told to the one in which it holds its node ID.
use Rattle.std.proofs.Common.{◌≡◌, ℕ, ◌+◌, ◌*◌, ◌<◌, ◌≤◌, List, [], ◌∷◌, ◌++◌, length, append_assoc, sym, ◌∙◌, ap, subst, arith, Some}
use Rattle.can_frame.specs.declared.entry.Entry.{Entry}
use Rattle.can_frame.specs.Timing.{call_timeout}
use Rattle.dsdl_codec.specs.declared.allocation.Allocation.{Allocation}
use Rattle.dsdl_codec.specs.Allocation.{IsAllocation, allocation_bytes, allocation_of}
use Rattle.raft_core.specs.Taken.{proposal}
use Rattle.bus_rows.specs.declared.row.Row.{Row}
use Rattle.allocatee.specs.Allocatee.{Device, Event, opening, step}
use Rattle.bus_agreement.specs.Allocatees.{Holds}
use Rattle.bus_rows.specs.Timed.{Timed, rows_in}
use Rattle.service_alone.specs.Calm.{Pace, end_of}
use Rattle.service_calm.specs.Calm.{Device as OfDevice, Party}
use Rattle.service_calm.specs.Comes.{Sends, Throughout, sent_by}
use Rattle.service_calm.specs.Devices.{AllocationsComeInCalm, ComesToBy, DeviceHasMemory, SendsShortAllocations}
use Rattle.service_device.specs.AskingServed.{CanBeTold}
use Rattle.service_device.specs.Dialog.{HasJustCome}
use Rattle.service_device.specs.Served.{IsServedBy, IsToldBy, LeadsWithLog, PairsFit}
use Rattle.service_device.specs.Settled.{IsCalmUnder}
use Rattle.service_device.proofs.DevicePaired.{PairComes, pair_comes}
use Rattle.service_device.proofs.ServedAgree.{AgreesBehind}
use Rattle.service_device.proofs.ServedHolds.{IsDevice}
use Rattle.service_device.proofs.ServedInTime.{heads}
use Rattle.service_leader.proofs.Stretches.{end_last, world_both}
use Rattle.bus_spec.specs.Cluster.{Cluster, after_row, after_rows, world_of}
use Rattle.bus_spec.specs.Members.MemberStatus.{Up}

-- what it tells fits, in each row
fits_at : (n node : ℕ) (uid : List ℕ) (front rest : List Timed) (timed : Timed) (w : Cluster) → PairsFit n w (front ++ timed ∷ rest)
    → PairsFit n (after_rows w (rows_in front)) (timed ∷ rest)
fits_at n node uid [] rest timed w fits = fits
fits_at n node uid (first ∷ front) rest timed w fits = fits_at n node uid front rest timed (after_row w first.row) fits.1

module _ (ids : List ℕ) (rows : List Row) (come_in : AllocationsComeInCalm ids rows)
    (stays : (d : Device) (number : ℕ) (event : Event) → (step d number event).device.asking.uid ≡ d.asking.uid)
    (read : (value : Allocation) → IsAllocation value → allocation_of (allocation_bytes value) ≡ Some value)
    (group : List Party) (clocks : Party → ℕ) (pace : Pace) (start n a term : ℕ) (first later : List Timed)
    (under : IsCalmUnder ids rows group clocks pace start n term first later) (uid : List ℕ) (size : length uid ≡ 16) (log : List Entry)
    (is_its : IsDevice uid ((world_of ids rows).allocatee a)) (can : CanBeTold group n a (world_of ids rows) (first ++ later))
    (fits : PairsFit n (after_rows (world_of ids rows) (rows_in first)) later) (quick : 4 * pace.delay < call_timeout) (last : ℕ)
    (told : IsToldBy ids n term log uid (end_of start first) last (after_rows (world_of ids rows) (rows_in first)) later)
    (long : last + 2 * pace.delay < end_of (end_of start first) later)
    (agree : AgreesBehind ids n a term log uid (world_of ids rows) (first ++ later)) where
  abbrev w : Cluster
  w = world_of ids rows

  abbrev led_from : Cluster
  led_from = after_rows w (rows_in first)

  abbrev from : ℕ
  from = end_of start first

  abbrev there : Cluster
  there = after_rows led_from (rows_in told.front)

  sends : Sends n there told.timed.row told.tells.offer
  sends = record {
    server = told.tells.server;
    runs = told.tells.runs;
    event = told.tells.event;
    in_step = told.tells.in_step;
    offered = told.tells.offered;
    fitted = (fits_at n told.node uid told.front told.rest told.timed led_from (subst (PairsFit n led_from) told.split fits)).0 told.node uid told.tells;
  }

  -- the device holds a node ID when it has come
  paired : PairComes a uid (sent_by n there told.tells.offer) (told.timed.at + 2 * pace.delay) led_from told.front told.rest later told.timed
  paired = pair_comes ids rows come_in stays read group clocks pace start n a term first later under uid size is_its can (omega (arith, quick)) told.front told.rest told.timed
      told.split told.node told.left.least told.left.most told.tells.offer told.tells.what told.tells.payload sends last told.soon long

  abbrev comes : ComesToBy a (sent_by n there told.tells.offer) (told.timed.at + 2 * pace.delay) there (told.timed ∷ told.rest)
  comes = paired.comes

  abbrev before : List Timed
  before = told.front ++ comes.front

  -- the row of the pair is the first of these
  parts : (more : List Timed) × (comes.front ++ comes.timed ∷ [] ≡ told.timed ∷ more) × (told.rest ≡ more ++ ([] ++ comes.rest))
  parts = heads told.timed told.rest comes.rest comes.front [] comes.timed (comes.split ∙ sym (append_assoc comes.front (comes.timed ∷ []) comes.rest))

  abbrev early : List Timed
  early = told.front ++ told.timed ∷ []

  front_is : before ++ comes.timed ∷ [] ≡ early ++ parts.0
  front_is = append_assoc told.front comes.front (comes.timed ∷ [])
      ∙ (ap (λ (l : List Timed). told.front ++ l) parts.1 ∙ sym (append_assoc told.front (told.timed ∷ []) parts.0))

  then_world : after_rows w (rows_in (first ++ early)) ≡ after_row there told.timed.row
  then_world = world_both w first early ∙ world_both led_from told.front (told.timed ∷ [])

  leads_then : (leads : LeadsWithLog n term (log ++ proposal term uid told.node ∷ told.more) (after_rows w (rows_in (first ++ early))))
      × (length log < leads.server.raft_server.store.commit)
  leads_then = (
    record {
      server = told.leads.server;
      runs = subst (λ (v : Cluster). (v.member n).status ≡ Up told.leads.server) (sym then_world) told.leads.runs;
      leads = told.leads.leads;
      its_term = told.leads.its_term;
      its_log = told.leads.its_log;
    },
    told.committed,
  )

  -- all rows up to the one in which the Allocation comes
  all_is : first ++ (before ++ comes.timed ∷ []) ≡ (first ++ early) ++ parts.0
  all_is = ap (λ (l : List Timed). first ++ l) front_is ∙ sym (append_assoc first early parts.0)

  cut_all : first ++ later ≡ ((first ++ early) ++ parts.0) ++ comes.rest
  cut_all = ap (λ (l : List Timed). first ++ l) paired.split ∙ (sym (append_assoc first (before ++ comes.timed ∷ []) comes.rest) ∙ ap (λ (l : List Timed). l ++ comes.rest) all_is)

  is_node : paired.node ≡ told.node
  is_node = agree (first ++ early) parts.0 comes.rest told.node paired.node told.more cut_all leads_then.0 leads_then.1 told.left
      (subst (λ (l : List Timed). Holds (after_rows w (rows_in l)) a uid paired.node) all_is
      (subst (λ (v : Cluster). Holds v a uid paired.node) (sym (world_both w first (before ++ comes.timed ∷ []))) paired.holds))

  -- the device is served
  pub is_served : (limit : ℕ) → last + 2 * pace.delay ≤ limit → IsServedBy ids a log uid from limit led_from later
  is_served limit within = record {
    front = before ++ comes.timed ∷ [];
    rest = comes.rest;
    split = paired.split;
    soon = let s = told.soon in let c = comes.soon in omega (arith, s, c, within, end_last from before comes.timed);
    node = told.node;
    left = told.left;
    holds = subst (λ (k : ℕ). Holds (after_rows led_from (rows_in (before ++ comes.timed ∷ []))) a uid k) is_node paired.holds;
  }

-- who has just come has heard no Allocation
pub can_be_told : (group : List Party) (clocks : Party → ℕ) (start n a : ℕ) (uid : List ℕ) (preferred : ℕ) (log : List Entry) (w : Cluster) (whole : List Timed)
    → HasJustCome group clocks start n a uid preferred log w → Throughout (DeviceHasMemory a) w whole → SendsShortAllocations n w whole
    → CanBeTold group n a w whole
can_be_told group clocks start n a uid preferred log w whole come memory short = record {
  of_group = come.of_group;
  ready = record {
    sender = come.settled.server;
    sends = come.settled.runs;
    none_waits = come.none_waits;
    device = opening uid preferred (start + clocks (OfDevice a)) come.word;
    there = come.there;
  };
  begins = tt;
  memory = memory;
  short = short;
}
