-- What it is that a device which is heard out, from the middle of a calm on, is served.
use Rattle.std.specs.Prelude.{◌≢◌, ℕ, ◌+◌, ◌*◌, ◌<◌, ◌≤◌, List, ◌∷◌, ◌++◌, length}
use Rattle.can_frame.specs.declared.entry.Entry.{Entry}
use Rattle.can_frame.specs.declared.step.What.TheVariants.{Alloc}
use Rattle.can_frame.specs.Timing.{call_timeout}
use Rattle.raft_model.specs.Lists.{In, how_many}
use Rattle.raft_model.specs.Server.{quorum}
use Rattle.bus_rows.specs.declared.row.Row.{Row}
use Rattle.alloc_spec.specs.Transfers.{id_of}
use Rattle.bus_rows.specs.Timed.{Timed, rows_in}
use Rattle.service_alone.specs.Calm.{Pace, end_of}
use Rattle.service_calm.specs.Calm.{Device as OfDevice, Member, Party}
use Rattle.service_calm.specs.Comes.{Throughout}
use Rattle.service_calm.specs.Devices.{AllocationMayBegin, AreReadyToTell, DeviceHasMemory, SendsShortAllocations}
use Rattle.service_leader.specs.Entries.{KeepsCalling, come_within, is_one_of}
use Rattle.service_leader.specs.NoElection.{CallsFit}
use Rattle.service_device.specs.Dialog.{HearsWholeBy}
use Rattle.service_device.specs.Served.{HasPlaceFor, IsServedBy, ListsAll, PairsFit}
use Rattle.service_device.specs.Settled.{IsCalmUnder}
use Rattle.bus_spec.specs.Cluster.{Cluster, after_rows, world_of}

-- Device a of the group hears the Allocations of member n in these rows, which begin in the world w. When they begin,
-- no frame of an Allocation of n waits, and the first one has a transfer ID under which it may begin at the device,
-- whatever the device has heard of n before. The device has memory for what comes, and each Allocation that n sends has
-- three frames at most.
pub record CanBeTold (group : List Party) (n a : ℕ) (w : Cluster) (whole : List Timed) : Type 0 where
  pub of_group : In (OfDevice a) group
  pub ready : AreReadyToTell n a w
  pub begins : AllocationMayBegin n ready.device (id_of ready.sender.ids Alloc 0)
  pub memory : Throughout (DeviceHasMemory a) w whole
  pub short : SendsShortAllocations n w whole

-- Some others of the group are with n a quorum of the cluster's members. Of the rows the first begin in the world w,
-- and behind them n leads. There n keeps calling each of the others, and its calls come back within four such delays.
-- Nothing is asked of what they have of its log.
pub record CanCommitWith (ids : List ℕ) (group : List Party) (n delay : ℕ) (others : List ℕ) (w : Cluster)
    (first later : List Timed) : Type 0 where
  pub apart : (m : ℕ) → In m others → In (Member m) group × (m ≢ n)
  pub many : quorum ids ≤ how_many (is_one_of n others) ids
  pub calling : (m : ℕ) → In m others → KeepsCalling n m delay w first later

-- In milliseconds, so long it takes at most from the row in which a unique ID is heard whole, by a leader whose log has
-- so many places, until the device holds its node ID. The pair is one place more. To each follower at most so many
-- calls are left: one for each place by which the next call is too far on, and one for each place that it may lack. The
-- Allocation takes two delays more.
abbrev pub serve_within : Pace → (places : ℕ) → ℕ
serve_within pace places = come_within pace (2 * (places + 1)) + 2 * pace.delay

-- In each calm from the world of these rows on, in which member n leads on behind the first rows, in the world `led`,
-- and the others follow. Behind more rows, which are `early`, it hears the unique ID of a device whole by the moment
-- `heard`; before that row it has settled with this log. It knows all members, and there is a place for the unique ID.
-- Its calls find room in its queue, and so does each pair that it tells behind the early rows; the device can be told,
-- and others are with it a quorum. The device then holds a node ID that was left, in this time, or the calm is over by
-- then. It is not asked how the device came to be heard, nor that it is the only one, nor what it asks meanwhile. The
-- moment by which its wait for the answer is over may be any: `wait`.
abbrev pub HeardDevicesAreServed : List ℕ → List Row → Type 0
HeardDevicesAreServed ids rows = (group : List Party) (clocks : Party → ℕ) (pace : Pace) (start n a term : ℕ)
    (uid : List ℕ) (preferred : ℕ) (log : List Entry) (one : ℕ) (next : List ℕ) (heard wait : ℕ)
    (first early later : List Timed) → let w = world_of ids rows in let led = after_rows w (rows_in first) in
    let there = after_rows led (rows_in early) in let moment = end_of (end_of start first) early in
    let whole = first ++ (early ++ later) in
    IsCalmUnder ids rows group clocks pace start n term first (early ++ later) →
    HearsWholeBy n a log (clocks (Member n)) wait uid preferred moment heard there later →
    HasPlaceFor ids log uid → ListsAll n ids w → CallsFit n w whole → PairsFit n there later →
    CanBeTold group n a w whole →
    CanCommitWith ids group n pace.delay (one ∷ next) w first (early ++ later) →
    4 * pace.delay < call_timeout →
    let last = heard + serve_within pace (length log) in last < end_of moment later →
    IsServedBy ids a log uid moment last there later
