-- What it is that a cluster comes back in time in a calm, whatever state its members are in, and serves a device.
use Rattle.std.specs.Prelude.{◌≡◌, ◌≢◌, ℕ, ◌+◌, ◌*◌, ◌<◌, ◌≤◌, List, ◌++◌, length}
use Rattle.can_frame.specs.declared.entry.Entry.{Entry}
use Rattle.can_frame.specs.Log.{HasUid, log_limit}
use Rattle.can_frame.specs.Zeros.{zeros}
use Rattle.raft_model.specs.Lists.{In}
use Rattle.bus_rows.specs.declared.row.Row.{Row}
use Rattle.alloc_spec.specs.AllocatorState.{AllocatorState}
use Rattle.bus_rows.specs.Timed.{Timed, rows_in}
use Rattle.service_alone.specs.Calm.{HasSettled, Pace, end_of}
use Rattle.service_leader.specs.NoElection.{heard_within}
use Rattle.service_elections.specs.Rounds.{led_within}
use Rattle.service_elections.specs.Running.{IsCalmOf, IsLedBy}
use Rattle.service_device.specs.Asking.{HasIdBy, IsAsking, time_to_be_heard_again}
use Rattle.service_device.specs.AskingServed.{CanBeTold, serve_within}
use Rattle.service_device.specs.Dialog.{HasRoomToTell}
use Rattle.service_device.specs.Requests.{HasAcceptedBeginning}
use Rattle.service_device.specs.Served.{HasPlaceFor, PairsFit}
use Rattle.service_device.specs.ServedTold.{HasRoomInSteps}
use Rattle.service_cluster.specs.Restart.{settled_within}
use Rattle.service_device.specs.Tidy.{AreMembersOnly, IsFit, NoDiscoveryWaits}
use Rattle.service_calm.specs.Calm.{Device as OfDevice, Member, Party}
use Rattle.service_calm.specs.Comes.{Throughout}
use Rattle.bus_spec.specs.Cluster.{Cluster, after_rows, world_of}
use Rattle.bus_spec.specs.Lawful.{DoNoHarm}
use Rattle.bus_spec.specs.Members.MemberStatus.{Up}

-- ---- where it begins

-- where not all of the log of member m is committed, it has room for a blank, if the member runs
abbrev pub HasRoomForBlank : ℕ → Cluster → Type 0
HasRoomForBlank m w = (server : AllocatorState) → (w.member m).status ≡ Up server →
    server.raft_server.store.commit < length server.raft_server.store.log →
    length server.raft_server.store.log < log_limit

-- behind each front of these rows no log of a member of the group has more entries than this
abbrev pub LogsStayWithin : List Party → (longest : ℕ) → Cluster → List Timed → Type 0
LogsStayWithin group longest w whole = (front rest : List Timed) (m : ℕ) (server : AllocatorState) →
    whole ≡ front ++ rest → In (Member m) group → ((after_rows w (rows_in front)).member m).status ≡ Up server →
    length server.raft_server.store.log ≤ longest

-- No log has more entries than this in any rows that do no harm, however they go on.
abbrev pub LogsStayWithinTheirLimit : List ℕ → List Row → Type 0
LogsStayWithinTheirLimit ids rows = (group : List Party) (whole : List Timed) →
    ((m : ℕ) → In (Member m) group → In m ids) → DoNoHarm (world_of ids rows) (rows_in whole) →
    LogsStayWithin group log_limit (world_of ids rows) whole

-- A calm as elections ask for it (`IsCalmOf`), in which each member is fit when it begins, and no frame of a Discovery
-- waits. Each member has room in each of its steps for the frames of the next pair, and room for a blank where it needs
-- one. No log has more entries than `longest`. Which roles, terms and logs they have is not asked.
pub record IsCalmOfFit (ids : List ℕ) (rows : List Row) (group : List Party) (clocks : Party → ℕ) (pace : Pace)
    (start longest : ℕ) (whole : List Timed) : Type 0 where
  pub calm : IsCalmOf ids rows group clocks pace start whole
  pub fit : (m : ℕ) → In (Member m) group → IsFit m (start + clocks (Member m)) (world_of ids rows)
  pub none_waits : NoDiscoveryWaits group (world_of ids rows)
  pub room : (m : ℕ) → In (Member m) group → HasRoomInSteps m (world_of ids rows) whole
  pub blanks : (m : ℕ) → In (Member m) group → Throughout (HasRoomForBlank m) (world_of ids rows) whole
  pub logs : LogsStayWithin group longest (world_of ids rows) whole

-- ---- it comes back

-- Behind some front of these rows, which ends by this moment, member n has settled, with whatever log.
pub record SettlesBy (n ahead start last : ℕ) (w : Cluster) (whole : List Timed) : Type 0 where
  pub front : List Timed
  pub rest : List Timed
  pub split : whole ≡ front ++ rest
  pub soon : end_of start front ≤ last
  pub log : List Entry
  pub settled : HasSettled n log (end_of start front + ahead) (after_rows w (rows_in front))

-- By the moment `ended` a member leads and no election comes any more; and it has settled by the moment `last`.
pub record IsBackBy (group : List Party) (clocks : Party → ℕ) (pace : Pace) (start ended last : ℕ) (w : Cluster)
    (whole : List Timed) : Type 0 where
  pub led : IsLedBy group clocks pace start ended w whole
  pub settles : SettlesBy led.n (clocks (Member led.n)) (end_of start led.front) last
      (after_rows w (rows_in led.front)) led.rest

-- In milliseconds, so long it takes at most from the end of the elections until the leader has settled: until it has
-- called each other member and was answered, and until all of its log, which has so many entries at most, has come to
-- them, is committed and told.
abbrev pub settled_in : Pace → (longest : ℕ) → ℕ
settled_in pace longest = heard_within pace + pace.period + 2 * pace.delay + settled_within pace longest

-- In milliseconds, so long it takes at most from the beginning of the calm on, in a cluster of so many members.
abbrev pub back_within : Pace → (size longest : ℕ) → ℕ
back_within pace size longest = led_within pace size + settled_in pace longest

-- In each such calm of members only: the cluster comes back in that time, or the calm is over by then.
abbrev pub ClustersComeBack : List ℕ → List Row → Type 0
ClustersComeBack ids rows = (group : List Party) (clocks : Party → ℕ) (pace : Pace) (start longest : ℕ)
    (whole : List Timed) → IsCalmOfFit ids rows group clocks pace start longest whole → AreMembersOnly group →
    let last = start + back_within pace (length ids) longest in last < end_of start whole →
    IsBackBy group clocks pace start (start + led_within pace (length ids)) last (world_of ids rows) whole

-- ---- it serves a device

-- In such a calm device a of the group asks, the only one: from its beginning on, or since before. What the members have
-- accepted when it begins is a beginning of its unique ID, if they have accepted anything. It can be told by each
-- member, and each has room to tell it. Its unique ID is not all zero. Whichever log a member comes to have, it has the
-- device's unique ID, or a place for it.
pub record IsCalmOfDevice (ids : List ℕ) (rows : List Row) (group : List Party) (clocks : Party → ℕ) (pace : Pace)
    (start longest a : ℕ) (uid : List ℕ) (preferred : ℕ) (whole : List Timed) : Type 0 where
  pub calm : IsCalmOfFit ids rows group clocks pace start longest whole
  pub begun : (m : ℕ) → In (Member m) group → HasAcceptedBeginning uid m (world_of ids rows)
  pub asks : IsAsking group a uid preferred (start + clocks (OfDevice a)) (world_of ids rows)
  pub some : uid ≢ zeros
  pub told : (m : ℕ) → In (Member m) group → CanBeTold group m a (world_of ids rows) whole
  pub room : (m : ℕ) → In (Member m) group → Throughout (HasRoomToTell m) (world_of ids rows) whole
  pub fits : (m : ℕ) → In (Member m) group → PairsFit m (world_of ids rows) whole
  pub place : (front rest : List Timed) (m : ℕ) (server : AllocatorState) → whole ≡ front ++ rest →
      In (Member m) group → ((after_rows (world_of ids rows) (rows_in front)).member m).status ≡ Up server →
      (HasUid server.raft_server.store.log uid → ⊥) → HasPlaceFor ids server.raft_server.store.log uid
  pub paced : pace.period + 4 * pace.delay ≤ 100

-- In milliseconds, so long it takes at most until the device holds a node ID. The leader may have to settle once more:
-- where it has recorded the device's unique ID meanwhile. By then the others have nothing to tell.
abbrev pub served_within : Pace → (size longest : ℕ) → ℕ
served_within pace size longest = led_within pace size + settled_in pace longest + settled_within pace longest
    + time_to_be_heard_again pace + serve_within pace longest

-- In each such calm the device holds a node ID in that time, or the calm is over by then.
abbrev pub DevicesAreServed : List ℕ → List Row → Type 0
DevicesAreServed ids rows = (group : List Party) (clocks : Party → ℕ) (pace : Pace) (start longest a : ℕ)
    (uid : List ℕ) (preferred : ℕ) (whole : List Timed) →
    IsCalmOfDevice ids rows group clocks pace start longest a uid preferred whole →
    let last = start + served_within pace (length ids) longest in last < end_of start whole →
    HasIdBy a start last (world_of ids rows) whole
