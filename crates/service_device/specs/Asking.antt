-- What it is that a device which asks already is heard out, from the middle of a calm on, by a leader that has settled.
use Rattle.std.specs.Prelude.{◌≡◌, ◌≢◌, ◌⊎◌, ℕ, ◌+◌, ◌*◌, ◌<◌, ◌≤◌, List, ◌∷◌, ◌++◌, length, None, Some}
use Rattle.can_frame.specs.declared.entry.Entry.{Entry}
use Rattle.can_frame.specs.declared.step.What.TheVariants.{Alloc}
use Rattle.raft_model.specs.Lists.{In}
use Rattle.bus_rows.specs.declared.row.Row.{Row}
use Rattle.allocatee.specs.Allocatee.{Device}
use Rattle.alloc_spec.specs.Transfers.{id_of}
use Rattle.bus_rows.specs.Timed.{Timed, rows_in}
use Rattle.service_alone.specs.Calm.{HasSettled, Pace, end_of}
use Rattle.service_calm.specs.Calm.{Device as OfDevice, Member, Party}
use Rattle.service_calm.specs.Devices.{AllocationMayBegin, AreReadyToTell, SendsShortAllocations}
use Rattle.service_device.specs.Dialog.{HasNothingToSay, HaveRoom, HearsWhole, HearsWholeBy}
use Rattle.service_device.specs.Settled.{IsCalmUnder, IsRecorded}
use Rattle.bus_spec.specs.Cluster.{Cluster, after_rows, world_of}

-- ---- who asks

-- Device a of the group is the only one. Its unique ID has 16 bytes, and it prefers this node ID. Its clock has not
-- fallen: no moment that it was given is later than now. What it has asked by then, and what it was told, is not asked.
pub record IsAsking (group : List Party) (a : ℕ) (uid : List ℕ) (preferred now : ℕ) (w : Cluster) : Type 0 where
  pub of_group : In (OfDevice a) group
  pub alone : (b : ℕ) → In (OfDevice b) group → b ≡ a
  pub whole : length uid ≡ 16
  pub small : preferred < 128
  pub device : Device
  pub there : w.allocatee a ≡ Some device
  pub its_uid : device.asking.uid ≡ uid
  pub prefers : device.asking.preferred ≡ preferred
  pub clock : device.asking.moment ≤ now

-- where device a is there, it holds no node ID
abbrev pub HasNoId : ℕ → Cluster → Type 0
HasNoId a w = (device : Device) → w.allocatee a ≡ Some device → device.asking.holds ≡ None

-- ---- what comes of it

-- Behind some front of these rows, which ends by this moment, device a holds a node ID. Which one, and who told it, is
-- not said.
pub record HasIdBy (a start last : ℕ) (w : Cluster) (whole : List Timed) : Type 0 where
  pub front : List Timed
  pub rest : List Timed
  pub split : whole ≡ front ++ rest
  pub soon : end_of start front ≤ last
  pub device : Device
  pub there : (after_rows w (rows_in front)).allocatee a ≡ Some device
  pub node : ℕ
  pub holds : device.asking.holds ≡ Some node

-- In one of these rows, by this moment, member n hears a unique ID whole, and its log grows by it. Before the row it
-- has settled with this log. It need not be the device's unique ID: n may have accepted requests of another device
-- lately, which the device's last request then completes. Nor need the device wait to be told.
pub record RecordsBy (n : ℕ) (log : List Entry) (ahead start last : ℕ) (w : Cluster) (whole : List Timed) : Type 0 where
  pub front : List Timed
  pub timed : Timed
  pub rest : List Timed
  pub split : whole ≡ front ++ timed ∷ rest
  pub soon : timed.at ≤ last
  pub settled : HasSettled n log (end_of start front + ahead) (after_rows w (rows_in front))
  pub uid : List ℕ
  pub preferred : ℕ
  pub hears : HearsWhole n ahead uid preferred (after_rows w (rows_in front)) timed
  pub recorded : IsRecorded n hears.message (after_rows w (rows_in front)) timed.row hears.asked

-- In milliseconds, so long it takes at most. For 500 and a period a request may go unanswered, since earlier ones count
-- that the leader accepted; four delays later the answers to what was asked by then have come. Behind them come two
-- follow-ups at most, each 400 and a period behind an answer, and answered within four delays. Then the device asks
-- anew, at most 1,000 after it was answered, and is heard out in 800, three periods and ten delays more.
abbrev pub time_to_be_heard_again : Pace → ℕ
time_to_be_heard_again pace = 3100 + 6 * pace.period + 22 * pace.delay

-- In each calm from the world of these rows on, at a pace of which a period and four delays take 100 ms at most: where
-- a device asks, whatever it has asked by then, it is heard out by a leader that has settled, in this time, or the calm
-- is over by then. But it may be that it holds a node ID by then, which it was told meanwhile; or that the leader's log
-- grows, by what earlier requests make whole. The time is counted from the moment on at which the leader has settled,
-- and at which the other members have nothing to tell. It leads behind the first rows; in these anybody may lead.
abbrev pub AskingDevicesAreHeardOut : List ℕ → List Row → Type 0
AskingDevicesAreHeardOut ids rows = (group : List Party) (clocks : Party → ℕ) (pace : Pace) (start n a term : ℕ)
    (uid : List ℕ) (preferred : ℕ) (log : List Entry) (first early later : List Timed) →
    let w = world_of ids rows in let ahead = clocks (Member n) in
    let there = after_rows (after_rows w (rows_in first)) (rows_in early) in
    let moment = end_of (end_of start first) early in let last = moment + time_to_be_heard_again pace in
    IsCalmUnder ids rows group clocks pace start n term first (early ++ later) →
    IsAsking group a uid preferred (start + clocks (OfDevice a)) w → (ready : AreReadyToTell n a w) →
    AllocationMayBegin n ready.device (id_of ready.sender.ids Alloc 0) → HasNoId a there →
    HasSettled n log (moment + ahead) there →
    ((m : ℕ) → In (Member m) group → m ≢ n → HasNothingToSay m (moment + clocks (Member m)) there) →
    HaveRoom n a w (first ++ (early ++ later)) → SendsShortAllocations n w (first ++ (early ++ later)) →
    pace.period + 4 * pace.delay ≤ 100 → last < end_of moment later →
    HearsWholeBy n a log ahead (2 * pace.delay + clocks (OfDevice a)) uid preferred moment last there later
    ⊎ (HasIdBy a moment last there later ⊎ RecordsBy n log ahead moment last there later)
