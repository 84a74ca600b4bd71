-- Rows that meet the premises of a device that is served in time, whatever state the members are in: two members are
-- opened at one moment, with empty stores, and are told their list; a device is opened, too. The device asks in vain,
-- since nobody leads. One member is elected, and serves the device. Then the calm goes on for as long as the law asks.
use Rattle.std.specs.Prelude.{ℕ, zero, suc, ◌+◌, ◌<◌, true, List, [], ◌∷◌, ◌++◌, length}
use Rattle.bus_rows.specs.declared.row.Row.{Row}
use Rattle.bus_rows.specs.declared.row.Row.TheVariants.{AOpen, Open}
use Rattle.bus_rows.specs.Timed.{Timed}
use Rattle.service_alone.specs.Calm.{end_of}
use Rattle.service_calm.specs.CalmExample.{clocks, group, some_uid, two}
use Rattle.service_cluster.specs.ComeBack.{IsCalmOfDevice, served_within}
use Rattle.service_cluster.specs.RestartExample.{opened_at}
use Rattle.service_device.specs.ServedExample.{all_read, all_read_often, from_1, from_2, from_device, served_pace}
use Rattle.alloc_spec.specs.ClusterMembers.{AreMembers}
use Rattle.bus_spec.specs.Cluster.{Cluster, cluster, world_of}
use Rattle.bus_spec.specs.Lawful.{DoNoHarm}

-- ---- before the calm

-- Both members and the device open at the moment 0. By its word member 1 waits 2,000 ms for an election, and member 2
-- waits 3,000 ms. The device prefers no node ID.
abbrev pub power_on_rows : List Row
power_on_rows = Open 1 true 100 0 ∷ Open 2 true 200 1000 ∷ AOpen 1 some_uid 0 0 0 ∷ []

abbrev pub power_on_world : Cluster
power_on_world = world_of two power_on_rows

-- no log comes to have more than one entry
abbrev pub one_entry : ℕ
one_entry = 1

-- ---- the calm

-- The device asks at 576, at 1,248 and at 1,920, and nobody answers. Both members send their NodeStatus.
abbrev pub asking_rows : List Timed
asking_rows = all_read_often 96 6 ++ from_device 576 (1 ∷ [])
    ++ all_read_often 672 5 ++ from_1 1056 (2 ∷ []) ++ from_2 1057 (3 ∷ [])
    ++ all_read_often 1152 2 ++ from_device 1248 (4 ∷ [])
    ++ all_read_often 1344 7 ++ from_device 1920 (5 ∷ [])

-- The wait of member 1 is over. It asks member 2 for its vote, in two frames, gets it, and leads. It calls member 2, in
-- two frames, which answers; and both send their NodeStatus.
abbrev pub election_rows : List Timed
election_rows = all_read 2016 ++ from_1 2016 (6 ∷ 7 ∷ []) ++ from_2 2017 (8 ∷ [])
    ++ from_1 2018 (9 ∷ 10 ∷ []) ++ from_2 2019 (11 ∷ [])
    ++ all_read 2112 ++ from_1 2112 (12 ∷ []) ++ from_2 2113 (13 ∷ [])
    ++ all_read_often 2208 4 ++ from_1 2496 (14 ∷ 15 ∷ []) ++ from_2 2497 (16 ∷ [])

-- The device asks, and member 1 follows up twice: in one frame, and in three. The third request makes the unique ID
-- whole. Member 1 records it, and calls member 2 with the entry, in five frames. Member 2 answers. Member 1 commits the
-- entry and tells it, in three frames; the device holds a node ID.
abbrev pub serving_rows : List Timed
serving_rows = all_read 2592 ++ from_device 2592 (17 ∷ []) ++ from_1 2593 (18 ∷ [])
    ++ all_read 2688 ++ from_device 2688 (19 ∷ []) ++ from_1 2689 (20 ∷ 21 ∷ 22 ∷ [])
    ++ all_read 2784 ++ from_device 2784 (23 ∷ []) ++ from_1 2785 (24 ∷ 25 ∷ 26 ∷ 27 ∷ 28 ∷ []) ++ from_2 2786 (29 ∷ [])
    ++ from_1 2787 (30 ∷ 31 ∷ 32 ∷ [])

-- The calm goes on for so many periods from this moment, and the next frame has number k. After `calls` periods, and
-- then in each fifth one, member 1 calls member 2, in two frames, which answers. After `statuses` periods, and then in
-- each eleventh one, both members send their NodeStatus.
abbrev pub goes_on : (at k calls statuses times : ℕ) → List Timed
goes_on at k calls statuses zero = []
goes_on at k zero zero (suc times) = all_read at ++ from_1 at (k ∷ (k + 1) ∷ (k + 2) ∷ [])
    ++ from_2 (at + 1) ((k + 3) ∷ (k + 4) ∷ []) ++ goes_on (at + 96) (k + 5) 4 10 times
goes_on at k zero (suc statuses) (suc times) = all_read at ++ from_1 at (k ∷ (k + 1) ∷ [])
    ++ from_2 (at + 1) ((k + 2) ∷ []) ++ goes_on (at + 96) (k + 3) 4 statuses times
goes_on at k (suc calls) zero (suc times) = all_read at ++ from_1 at (k ∷ [])
    ++ from_2 (at + 1) ((k + 1) ∷ []) ++ goes_on (at + 96) (k + 2) calls 10 times
goes_on at k (suc calls) (suc statuses) (suc times) = all_read at ++ goes_on (at + 96) k calls statuses times

-- It goes on until the time of the law is over: 26,210 ms from the beginning.
abbrev pub power_on_calm : List Timed
power_on_calm = asking_rows ++ election_rows ++ serving_rows ++ all_read_often 2880 3 ++ goes_on 3168 33 1 0 242

-- ---- the premises

-- The rows meet each premise of `DevicesAreServed`.
pub record DevicesMayBeServedFromPowerOn : Type 0 where
  pub members : AreMembers two
  pub before : DoNoHarm (cluster two) power_on_rows
  pub calm : IsCalmOfDevice two power_on_rows group clocks served_pace opened_at one_entry 1 some_uid 0 power_on_calm
  pub long : opened_at + served_within served_pace (length two) one_entry < end_of opened_at power_on_calm
