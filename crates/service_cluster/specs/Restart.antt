-- What it is that a cluster whose members are started comes back in time, in a calm: somebody wins, and settles.
use Rattle.std.specs.Prelude.{◌≡◌, ◌≢◌, ℕ, ◌+◌, ◌*◌, ◌<◌, ◌≤◌, true, List, ◌++◌, length}
use Rattle.can_frame.specs.Log.{log_limit}
use Rattle.can_frame.specs.Timing.{election_wait}
use Rattle.raft_model.specs.Lists.{In}
use Rattle.raft_model.specs.Server.Role.{Leader}
use Rattle.bus_rows.specs.declared.row.Row.{Row}
use Rattle.alloc_spec.specs.AllocatorState.{AllocatorState, knows_all}
use Rattle.bus_rows.specs.Timed.{Timed, rows_in}
use Rattle.service_alone.specs.Calm.{Pace, end_of}
use Rattle.service_calm.specs.Calm.{Member, Party}
use Rattle.service_leader.specs.LeadsOn.{IsLedThroughout}
use Rattle.service_leader.specs.NoElection.{CallsFit, NoElection, greatest_wait, heard_within}
use Rattle.service_candidate.specs.Elections.{EndsBy, IsAhead, IsCalmRestart, election_within}
use Rattle.service_device.specs.ServedTold.{HasRoomInSteps}
use Rattle.service_device.specs.Settles.{HasSettledBy, settle_within}
use Rattle.service_device.specs.Tidy.{AreMembersOnly}
use Rattle.bus_spec.specs.Cluster.{Cluster, after_row, after_rows, world_of}
use Rattle.bus_spec.specs.Lawful.{DoesNoHarm}
use Rattle.bus_spec.specs.Members.MemberStatus.{Up}

-- ---- where it starts

-- No log that a member of the group has stored is longer than this. Where some of it is not committed, it has room for
-- a blank.
abbrev pub LogsAreAtMost : List Party → (longest : ℕ) → Cluster → Type 0
LogsAreAtMost group longest w = (m : ℕ) (server : AllocatorState) → In (Member m) group →
    (w.member m).status ≡ Up server → (length server.raft_server.store.log ≤ longest)
    × (server.raft_server.store.commit < length server.raft_server.store.log →
    length server.raft_server.store.log < log_limit)

-- A calm of members that have just been opened, as an election asks for it (`IsCalmRestart`), without devices. The
-- queue of each member has room for its calls, and in each of its steps for the frames of the next pair. The pace is
-- such that calls come before the least wait is over, also where four delays of it are over when the election ends.
pub record IsStart (ids : List ℕ) (rows : List Row) (group : List Party) (clocks : Party → ℕ) (pace : Pace)
    (start longest : ℕ) (whole : List Timed) : Type 0 where
  pub restart : IsCalmRestart ids rows group clocks pace start whole
  pub only : AreMembersOnly group
  pub calls : (m : ℕ) → In (Member m) group → CallsFit m (world_of ids rows) whole
  pub room : (m : ℕ) → In (Member m) group → HasRoomInSteps m (world_of ids rows) whole
  pub logs : LogsAreAtMost group longest (world_of ids rows)
  pub heard : greatest_wait pace < election_wait
  pub heard_soon : 4 * pace.delay + heard_within pace < election_wait

-- ---- it comes back

-- Member c of the group comes to lead behind a front of these rows, and leads from there on, while all others follow.
-- From a few rows further on, by the moment `ended`, no election comes. By the moment `last` it has settled, with the
-- log that it had stored when the rows began, or with a blank behind it.
pub record ComesBackBy (group : List Party) (clocks : Party → ℕ) (pace : Pace) (start ended last : ℕ) (w : Cluster)
    (whole : List Timed) : Type 0 where
  pub front : List Timed
  pub few : List Timed
  pub rest : List Timed
  pub split : whole ≡ front ++ (few ++ rest)
  pub soon : end_of (end_of start front) few ≤ ended
  pub c : ℕ
  pub member : In (Member c) group
  pub term : ℕ
  pub led : IsLedThroughout group c term (after_rows w (rows_in front)) (few ++ rest)
  pub calm : NoElection group clocks pace (end_of (end_of start front) few) c term
      (after_rows (after_rows w (rows_in front)) (rows_in few)) rest
  pub stored : AllocatorState
  pub runs : (w.member c).status ≡ Up stored
  pub settles : HasSettledBy c term stored.raft_server.store.log (clocks (Member c)) (end_of start front) last
      (after_rows w (rows_in front)) (few ++ rest)

-- so long it takes at most, behind the end of the election, where no log is longer than this
abbrev pub settled_within : Pace → (longest : ℕ) → ℕ
settled_within pace longest = settle_within pace (2 * longest) longest

-- In each such calm in which an election ends by some moment: the cluster comes back in time, or the calm is over by
-- then.
abbrev pub StartedClustersSettle : List ℕ → List Row → Type 0
StartedClustersSettle ids rows = (group : List Party) (clocks : Party → ℕ) (pace : Pace) (start longest ended : ℕ)
    (whole : List Timed) → IsStart ids rows group clocks pace start longest whole →
    EndsBy group clocks pace.delay ended (world_of ids rows) whole →
    ended + settled_within pace longest < end_of start whole →
    ComesBackBy group clocks pace start ended (ended + settled_within pace longest) (world_of ids rows) whole

-- The cluster comes back in time where all members are in step when the calm begins, with one term and no log above
-- another: the election ends in time too.
abbrev pub ClustersInStepSettle : List ℕ → List Row → Type 0
ClustersInStepSettle ids rows = (group : List Party) (clocks : Party → ℕ) (pace : Pace) (start longest : ℕ)
    (whole : List Timed) → IsStart ids rows group clocks pace start longest whole →
    ((m : ℕ) → In (Member m) group → IsAhead group m (world_of ids rows)) →
    start + election_within pace + settled_within pace longest < end_of start whole →
    ComesBackBy group clocks pace start (start + election_within pace)
    (start + election_within pace + settled_within pace longest) (world_of ids rows) whole

-- ---- who wins

-- What winning leaves of a member: its log is as it was, and what it has committed; it has told all of that, knows of
-- no place that another one has, and calls each one next behind its log.
pub record HasJustWon (before after : AllocatorState) : Type 0 where
  pub log : after.raft_server.store.log ≡ before.raft_server.store.log
  pub commit : after.raft_server.store.commit ≡ before.raft_server.store.commit
  pub told : after.raft_server.memory.told ≡ before.raft_server.store.commit
  pub matched : (m : ℕ) → after.raft_server.memory.matched m ≡ 0
  pub next : (m : ℕ) → after.raft_server.memory.next m ≡ length before.raft_server.store.log + 1

-- So it is in a row that does no harm, in which a member of a cluster of two or more comes to lead in the term that it
-- had. It knows all members, and waits with its blank until a quorum has its log.
abbrev pub WinnersBeginAnew : Type 0
WinnersBeginAnew = (n : ℕ) (w : Cluster) (row : Row) (before after : AllocatorState) → DoesNoHarm w row →
    (w.member n).status ≡ Up before → ((after_row w row).member n).status ≡ Up after → 2 ≤ before.size →
    knows_all before ≡ true → before.times.waits ≡ true → before.raft_server.memory.role ≢ Leader →
    after.raft_server.memory.role ≡ Leader → after.raft_server.store.term ≡ before.raft_server.store.term →
    HasJustWon before after
