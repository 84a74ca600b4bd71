-- Rows that meet the premises of a new device that is served in time, and of its pair that is told: two members are
-- told their list, one comes to lead, and a device comes and asks. It is served early; then the calm goes on for as
-- long as the laws ask.
use Rattle.std.specs.Prelude.{ℕ, zero, suc, ◌+◌, ◌*◌, ◌<◌, ◌≤◌, true, List, [], ◌∷◌, ◌++◌, length, map, flat_map}
use Rattle.can_frame.specs.declared.entry.Entry.{Entry}
use Rattle.can_frame.specs.Log.{log_limit}
use Rattle.bus_rows.specs.declared.row.Row.{Row}
use Rattle.bus_rows.specs.declared.row.Row.TheVariants.{AOpen, ARx, ASend, ATick, Open, Rx, Send, Tick}
use Rattle.bus_rows.specs.Timed.{Timed}
use Rattle.service_alone.specs.Calm.{Pace, end_of}
use Rattle.service_calm.specs.CalmExample.{clocks, group, receiver, sender, some_uid, two}
use Rattle.service_calm.specs.Devices.{SendsShortAllocations}
use Rattle.service_leader.specs.NoElection.{CallsFit}
use Rattle.service_device.specs.Dialog.{HasJustCome, HaveRoom}
use Rattle.service_device.specs.Served.{HasFollowers, HasPlaceFor, ListsAll, PairsFit, time_to_be_committed}
use Rattle.service_device.specs.Served.{time_to_be_served}
use Rattle.service_device.specs.ServedTold.{HasRoomInSteps}
use Rattle.service_device.specs.Settled.{IsCalmUnder}
use Rattle.alloc_spec.specs.ClusterMembers.{AreMembers}
use Rattle.bus_spec.specs.Cluster.{Cluster, cluster, world_of}
use Rattle.bus_spec.specs.Lawful.{DoNoHarm}

-- ---- before the calm

-- Both members open at the moment 0, and are told their list. At the moment 2,000 member 1 sends its NodeStatus, and
-- asks member 2 for its vote. It gets the vote, leads, and calls member 2, which answers.
abbrev pub election_rows : List Row
election_rows = Open 1 true 100 0 ∷ Open 2 true 200 1000 ∷ Tick 1 2100 0
    ∷ Send 1 ∷ Send 1 ∷ Send 1 ∷ Rx 2 1 2201 ∷ Rx 2 2 2201 ∷ Rx 2 3 2201
    ∷ Send 2 ∷ Rx 1 4 2102
    ∷ Send 1 ∷ Send 1 ∷ Rx 2 5 2203 ∷ Rx 2 6 2203
    ∷ Send 2 ∷ Rx 1 7 2104
    ∷ []

-- Each frame has come to the other member. Then a device comes, which prefers no node ID.
abbrev pub before_rows : List Row
before_rows = election_rows ++ AOpen 1 some_uid 0 2050 0 ∷ []

abbrev pub before_world : Cluster
before_world = world_of two before_rows

-- when the calm begins
abbrev pub served_start : ℕ
served_start = 2010

-- A queue is empty within a millisecond, and a frame comes within one. A device is served within 2,204 ms, then.
abbrev pub served_pace : Pace
served_pace = record { period = 96; delay = 1 }

-- ---- what happens in the calm

-- At this moment the members and the device read their clocks. By its words, here and below, the device waits as short
-- as a device may.
abbrev pub all_read : (at : ℕ) → List Timed
all_read at = record { at = at; row = Tick 1 (at + 100) 0 }
    ∷ record { at = at; row = Tick 2 (at + 200) 0 }
    ∷ record { at = at; row = ATick 1 (at + 40) 0 }
    ∷ []

-- so they do several times, first at this moment, and then once in each period
abbrev pub all_read_often : (at times : ℕ) → List Timed
all_read_often at zero = []
all_read_often at (suc times) = all_read at ++ all_read_often (at + 96) times

-- frame k comes to member 1, to member 2, and to the device
abbrev pub comes_to_1 : (at k : ℕ) → Timed
comes_to_1 at k = record { at = at; row = Rx 1 k (at + 100) }

abbrev pub comes_to_2 : (at k : ℕ) → Timed
comes_to_2 at k = record { at = at; row = Rx 2 k (at + 200) }

abbrev pub comes_to_device : (at k : ℕ) → Timed
comes_to_device at k = record { at = at; row = ARx 1 k (at + 40) 0 }

-- Frames with these numbers go to the bus at this moment, from member 1, from member 2, and from the device. A
-- millisecond later they come to the two others.
abbrev pub from_1 : (at : ℕ) → List ℕ → List Timed
from_1 at frames = map (λ k. record { at = at; row = Send 1 }) frames
    ++ flat_map (λ k. comes_to_2 (at + 1) k ∷ comes_to_device (at + 1) k ∷ []) frames

abbrev pub from_2 : (at : ℕ) → List ℕ → List Timed
from_2 at frames = map (λ k. record { at = at; row = Send 2 }) frames
    ++ flat_map (λ k. comes_to_1 (at + 1) k ∷ comes_to_device (at + 1) k ∷ []) frames

abbrev pub from_device : (at : ℕ) → List ℕ → List Timed
from_device at frames = map (λ k. record { at = at; row = ASend 1 }) frames
    ++ flat_map (λ k. comes_to_1 (at + 1) k ∷ comes_to_2 (at + 1) k ∷ []) frames

-- ---- the calm

-- Member 2 sends its NodeStatus. Member 1 calls it, in two frames, and it answers.
abbrev pub quiet_rows : List Timed
quiet_rows = all_read 2106 ++ from_2 2106 (8 ∷ [])
    ++ all_read_often 2202 4 ++ from_1 2490 (9 ∷ 10 ∷ []) ++ from_2 2491 (11 ∷ [])
    ++ all_read 2586

-- The device asks, and member 1 follows up twice: in one frame, and in three.
abbrev pub asking_rows : List Timed
asking_rows = all_read 2682 ++ from_device 2682 (12 ∷ []) ++ from_1 2683 (13 ∷ [])
    ++ all_read 2778 ++ from_device 2778 (14 ∷ []) ++ from_1 2779 (15 ∷ 16 ∷ 17 ∷ [])

-- The third request makes the unique ID whole. Member 1 records it, and calls member 2 with the entry, in five frames.
-- Member 2 answers. Member 1 commits the entry and tells it, in three frames; the device holds a node ID.
abbrev pub serving_rows : List Timed
serving_rows = all_read 2874 ++ from_device 2874 (18 ∷ [])
    ++ from_1 2875 (19 ∷ 20 ∷ 21 ∷ 22 ∷ 23 ∷ []) ++ from_2 2876 (24 ∷ [])
    ++ from_1 2877 (25 ∷ 26 ∷ 27 ∷ [])

-- The calm goes on. Both members send their NodeStatus. Member 1 calls member 2, which commits the entry and answers.
abbrev pub later_rows : List Timed
later_rows = all_read_often 2970 2 ++ from_1 3066 (28 ∷ [])
    ++ all_read 3162 ++ from_2 3162 (29 ∷ [])
    ++ all_read_often 3258 2 ++ from_1 3354 (30 ∷ 31 ∷ []) ++ from_2 3355 (32 ∷ [])

-- So it goes on until the time of the laws is over.
abbrev pub last_rows : List Timed
last_rows = all_read_often 3450 5 ++ from_1 3834 (33 ∷ 34 ∷ []) ++ from_2 3835 (35 ∷ [])
    ++ all_read_often 3930 3 ++ from_1 4122 (36 ∷ [])
    ++ record { at = 4215; row = ATick 1 4255 0 } ∷ []

abbrev pub served_rows : List Timed
served_rows = quiet_rows ++ asking_rows ++ serving_rows ++ later_rows ++ last_rows

-- ---- the premises

-- the log has no entry yet
abbrev pub first_log : List Entry
first_log = []

-- The rows meet each premise of `NewDevicesAreServed` and of `NewPairsAreTold`: member 1 leads in term 1, member 2
-- follows, and the device is new.
pub record DevicesMayBeServed : Type 0 where
  pub members : AreMembers two
  pub before : DoNoHarm (cluster two) before_rows
  pub calm : IsCalmUnder two before_rows group clocks served_pace served_start sender 1 [] served_rows
  pub come : HasJustCome group clocks served_start sender 1 some_uid 0 first_log before_world
  pub place : HasPlaceFor two first_log some_uid
  pub lists : ListsAll sender two before_world
  pub room : HaveRoom sender 1 before_world served_rows
  pub calls_fit : CallsFit sender before_world served_rows
  pub followers : HasFollowers two group sender (length first_log) (receiver ∷ []) before_world served_rows
  pub quick : served_pace.period + 4 * served_pace.delay ≤ 100
  -- of `NewDevicesAreServed` alone
  pub pairs_fit : PairsFit sender before_world served_rows
  pub short : SendsShortAllocations sender before_world served_rows
  pub long : served_start + time_to_be_served served_pace < end_of served_start served_rows
  -- of `NewPairsAreTold` alone
  pub room_in_steps : HasRoomInSteps sender before_world served_rows
  pub room_in_log : length first_log + 1 < log_limit
  pub long_to_commit : served_start + time_to_be_committed served_pace < end_of served_start served_rows
