-- Rows that meet the premises of a cluster that comes back in time: two members are opened at one moment, with empty
-- stores, and are told their list. One of them stands, wins, and leads on for as long as the laws ask.
use Rattle.std.specs.Prelude.{ℕ, zero, suc, ◌+◌, ◌<◌, true, List, [], ◌∷◌, ◌++◌, length, map}
use Rattle.raft_model.specs.Lists.{In}
use Rattle.bus_rows.specs.declared.row.Row.{Row}
use Rattle.bus_rows.specs.declared.row.Row.TheVariants.{Open, Rx, Send, Tick}
use Rattle.bus_rows.specs.Timed.{Timed}
use Rattle.service_alone.specs.Calm.{Pace, end_of}
use Rattle.service_calm.specs.Calm.{Member, Party}
use Rattle.service_calm.specs.CalmExample.{clocks, two}
use Rattle.service_candidate.specs.Elections.{IsAhead, election_within}
use Rattle.service_cluster.specs.ComeBack.{IsCalmOfFit, back_within}
use Rattle.service_cluster.specs.Restart.{IsStart, settled_within}
use Rattle.service_elections.specs.Rounds.{led_within}
use Rattle.service_elections.specs.Running.{IsCalmOf}
use Rattle.service_device.specs.Tidy.{AreMembersOnly}
use Rattle.alloc_spec.specs.ClusterMembers.{AreMembers}
use Rattle.bus_spec.specs.Cluster.{Cluster, cluster, world_of}
use Rattle.bus_spec.specs.Lawful.{DoNoHarm}

-- ---- before the calm

-- Both members open at the moment 0, and are told their list. By its word member 1 waits 2,000 ms for an election, and
-- member 2 waits 3,000 ms.
abbrev pub opening_rows : List Row
opening_rows = Open 1 true 100 0 ∷ Open 2 true 200 1000 ∷ []

abbrev pub opened_world : Cluster
opened_world = world_of two opening_rows

-- the members alone, without a device
abbrev pub members_only : List Party
members_only = Member 1 ∷ Member 2 ∷ []

-- the calm begins at the moment at which they open
abbrev pub opened_at : ℕ
opened_at = 0

-- A queue is empty within a millisecond, and a frame comes within one. At this pace a cluster that starts in step comes
-- back within 5,976 ms, and one in any state within 29,372 ms.
abbrev pub restart_pace : Pace
restart_pace = record { period = 490; delay = 1 }

-- no log has an entry
abbrev pub no_entries : ℕ
no_entries = 0

-- ---- what happens in the calm

-- at this moment both members read their clocks
abbrev pub both_read : (at : ℕ) → List Timed
both_read at = record { at = at; row = Tick 1 (at + 100) 0 } ∷ record { at = at; row = Tick 2 (at + 200) 0 } ∷ []

-- Frames with these numbers go to the bus at this moment, from member 1 or from member 2. A millisecond later they come
-- to the other one.
abbrev pub to_2 : (at : ℕ) → List ℕ → List Timed
to_2 at frames = map (λ k. record { at = at; row = Send 1 }) frames
    ++ map (λ k. record { at = at + 1; row = Rx 2 k (at + 1 + 200) }) frames

abbrev pub to_1 : (at : ℕ) → List ℕ → List Timed
to_1 at frames = map (λ k. record { at = at; row = Send 2 }) frames
    ++ map (λ k. record { at = at + 1; row = Rx 1 k (at + 1 + 100) }) frames

-- ---- the calm

-- Nobody leads. When they have run for a second, both members send their NodeStatus.
abbrev pub waiting_rows : List Timed
waiting_rows = both_read 490 ++ both_read 980
    ++ both_read 1470 ++ to_2 1470 (1 ∷ []) ++ to_1 1471 (2 ∷ [])
    ++ both_read 1960

-- The wait of member 1 is over. It asks member 2 for its vote, in two frames, gets it, and leads. It calls member 2, in
-- two frames, and member 2 answers.
abbrev pub election_rows : List Timed
election_rows = both_read 2450 ++ to_2 2450 (3 ∷ 4 ∷ []) ++ to_1 2451 (5 ∷ [])
    ++ to_2 2452 (6 ∷ 7 ∷ []) ++ to_1 2453 (8 ∷ [])

-- For three periods: at each tick member 1 calls member 2, in two frames, and it answers. At the first tick both send
-- their NodeStatus, too. The first frame has number k.
abbrev pub three_periods : (at k : ℕ) → List Timed
three_periods at k = both_read at ++ to_2 at (k ∷ (k + 1) ∷ (k + 2) ∷ []) ++ to_1 (at + 1) ((k + 3) ∷ (k + 4) ∷ [])
    ++ both_read (at + 490) ++ to_2 (at + 490) ((k + 5) ∷ (k + 6) ∷ []) ++ to_1 (at + 491) ((k + 7) ∷ [])
    ++ both_read (at + 980) ++ to_2 (at + 980) ((k + 8) ∷ (k + 9) ∷ []) ++ to_1 (at + 981) ((k + 10) ∷ [])

-- so it goes on, so many times
abbrev pub led_rows : (at k times : ℕ) → List Timed
led_rows at k zero = []
led_rows at k (suc times) = three_periods at k ++ led_rows (at + 1470) (k + 11) times

-- It goes on until the time of the laws is over.
abbrev pub restart_rows : List Timed
restart_rows = waiting_rows ++ election_rows ++ led_rows 2940 9 18 ++ both_read 29400

-- ---- the premises

-- The rows meet each premise of `ClustersInStepSettle`, of `LeadersCome` (`rounds`) and of `ClustersComeBack`.
pub record ClusterMayStart : Type 0 where
  pub members : AreMembers two
  pub before : DoNoHarm (cluster two) opening_rows
  pub begins : IsStart two opening_rows members_only clocks restart_pace opened_at no_entries restart_rows
  pub ahead : (m : ℕ) → In (Member m) members_only → IsAhead members_only m opened_world
  pub long : opened_at + election_within restart_pace + settled_within restart_pace no_entries
      < end_of opened_at restart_rows
  pub rounds : IsCalmOf two opening_rows members_only clocks restart_pace opened_at restart_rows
  pub long_to_be_led : opened_at + led_within restart_pace (length two) < end_of opened_at restart_rows
  pub fit : IsCalmOfFit two opening_rows members_only clocks restart_pace opened_at no_entries restart_rows
  pub only : AreMembersOnly members_only
  pub long_to_be_back : opened_at + back_within restart_pace (length two) no_entries < end_of opened_at restart_rows
