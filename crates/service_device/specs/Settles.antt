-- What it is that a leader settles in a calm, in time, whether it has just come to lead or leads already.
use Rattle.std.specs.Prelude.{◌≡◌, ◌≢◌, ◌⊎◌, ℕ, ◌+◌, ◌*◌, ◌<◌, ◌≤◌, false, true, List, [], ◌∷◌, ◌++◌, length}
use Rattle.alloc_exchange.specs.Exchange.{last_moment}
use Rattle.can_frame.specs.declared.entry.Entry.{Entry}
use Rattle.can_frame.specs.Log.{blank, last_term, log_limit}
use Rattle.can_frame.specs.Timing.{call_timeout}
use Rattle.cluster_discovery.specs.Members.{owes}
use Rattle.disk_model.specs.Memory.{nothing_set}
use Rattle.dsdl_codec.specs.declared.allocation.Allocation.{Allocation}
use Rattle.node_discovery.specs.History.{is_online}
use Rattle.node_discovery.specs.Watch.{history}
use Rattle.raft_model.specs.Lists.{In, how_many}
use Rattle.raft_model.specs.Server.{quorum}
use Rattle.raft_model.specs.Server.Role.{Leader}
use Rattle.bus_rows.specs.declared.row.Row.{Row}
use Rattle.alloc_spec.specs.AllocatorState.{AllocatorState, is_known, start_of}
use Rattle.alloc_spec_laws.specs.Blanks.{IsHeard}
use Rattle.bus_rows.specs.Timed.{Timed, rows_in}
use Rattle.service_alone.specs.Calm.{HasSettled, Pace, end_of}
use Rattle.service_calm.specs.Calm.{Member, Party}
use Rattle.service_leader.specs.Entries.{KeepsCalling, calls_left, come_within, is_one_of}
use Rattle.service_leader.specs.NoElection.{CallsFit}
use Rattle.service_device.specs.Recorded.{Grows}
use Rattle.service_device.specs.ServedTold.{HasRoomInSteps}
use Rattle.service_device.specs.Settled.{IsAsked, IsCalmUnder, NobodyAsks}
use Rattle.bus_spec.specs.Cluster.{Cluster, after_rows, world_of}
use Rattle.bus_spec.specs.Members.MemberStatus.{Up}

-- ---- who has come to lead

-- The leader has yet to add its blank. It was told its list of members, so it waits with it until it knows a quorum to
-- have its log, and this is not so yet. The last entry is of an earlier term, and there is room for a blank.
pub record WaitsWithBlank (ids : List ℕ) (n : ℕ) (log : List Entry) (server : AllocatorState) : Type 0 where
  pub waits : server.times.waits ≡ true
  pub not_yet : IsHeard ids n server.raft_server → ⊥
  pub earlier : last_term log < server.raft_server.store.term
  pub room : length log < log_limit

-- Member n leads with this log, and has told no more than it has committed. Where that is not the whole log, it waits
-- with its blank; or the last entry is of its own term, as the blank is that it has added. No request that it has
-- accepted is of a later moment, no call of its disk is set to fail, its clock has not fallen, no node is online that
-- it does not know, and it owes no Discovery. How long it has led is not asked.
pub record HasComeToLead (ids : List ℕ) (n : ℕ) (log : List Entry) (now : ℕ) (w : Cluster) : Type 0 where
  pub server : AllocatorState
  pub runs : (w.member n).status ≡ Up server
  pub faults : ℕ
  pub disk : (w.member n).disk.calls ≡ nothing_set faults
  pub leads : server.raft_server.memory.role ≡ Leader
  pub log_is : server.raft_server.store.log ≡ log
  pub told : server.raft_server.memory.told ≤ server.raft_server.store.commit
  pub waits : server.raft_server.store.commit < length log →
      WaitsWithBlank ids n log server ⊎ (last_term log ≡ server.raft_server.store.term)
  pub requests : last_moment server.accepted ≤ now
  pub clock : server.now ≤ now
  pub status : server.status_at ≤ now
  pub known : (other : ℕ) → is_known server other ≡ false → is_online (history other server.watch) server.now ≡ false
  pub discovery : owes (start_of server) server.heard ≡ false

-- Whoever leads in the world of these rows has added its blank as soon as it might: all of its log is committed, or the
-- last entry is of its own term, or it waits with its blank. Its log has room, where something of it is not committed.
abbrev pub LeadersAddTheirBlanks : List ℕ → List Row → Type 0
LeadersAddTheirBlanks ids rows = (n : ℕ) (server : AllocatorState) → In n ids →
    ((world_of ids rows).member n).status ≡ Up server → server.raft_server.memory.role ≡ Leader →
    let log = server.raft_server.store.log in let commit = server.raft_server.store.commit in
    (commit < length log → length log < log_limit) →
    (commit ≡ length log)
    ⊎ (WaitsWithBlank ids n log server ⊎ (last_term log ≡ server.raft_server.store.term))

-- Some others of the group are with n a quorum of the cluster's members. Of the rows the first begin in the world w,
-- and behind them n leads. There n keeps calling each of the others, its calls come back within four such delays, and
-- so many calls at most are left until n knows it to have its whole log.
pub record CanCatchUp (ids : List ℕ) (group : List Party) (n more delay : ℕ) (others : List ℕ)
    (leader : AllocatorState) (w : Cluster) (first later : List Timed) : Type 0 where
  pub apart : (m : ℕ) → In m others → In (Member m) group × (m ≢ n)
  pub many : quorum ids ≤ how_many (is_one_of n others) ids
  pub calling : (m : ℕ) → In m others → KeepsCalling n m delay w first later
  pub few : (m : ℕ) → In m others → calls_left leader m ≤ more

-- ---- it settles

-- this log, or a blank of the term behind it
abbrev pub MayHaveBlank : (log : List Entry) (term : ℕ) → List Entry → Type 0
MayHaveBlank log term log_then = (log_then ≡ log) ⊎ (log_then ≡ log ++ blank term ∷ [])

-- Behind some front of these rows, which ends by this moment, member n has settled: with this log, or with a blank of
-- its term behind it.
pub record HasSettledBy (n term : ℕ) (log : List Entry) (ahead start last : ℕ) (w : Cluster)
    (whole : List Timed) : Type 0 where
  pub front : List Timed
  pub rest : List Timed
  pub split : whole ≡ front ++ rest
  pub soon : end_of start front ≤ last
  pub log_then : List Entry
  pub its_log : MayHaveBlank log term log_then
  pub settled : HasSettled n log_then (end_of start front + ahead) (after_rows w (rows_in front))

-- In one of these rows, by this moment, a device's request makes the log of member n grow, which is this one, or has a
-- blank behind it. How much of it is committed is not asked: a unique ID that is made whole may have been begun before
-- the rows.
pub record GrowsBy (n term : ℕ) (log : List Entry) (ahead start last : ℕ) (w : Cluster)
    (whole : List Timed) : Type 0 where
  pub front : List Timed
  pub timed : Timed
  pub rest : List Timed
  pub split : whole ≡ front ++ timed ∷ rest
  pub soon : timed.at ≤ last
  pub log_then : List Entry
  pub its_log : MayHaveBlank log term log_then
  pub message : Allocation
  pub asked : IsAsked n message (after_rows w (rows_in front)) timed.row
  pub grows : Grows n log_then (timed.at + ahead) message (after_rows w (rows_in front)) timed.row asked

-- In milliseconds, so long it takes at most: until a quorum has the log, until the blank is committed, which takes a
-- call more, and until all is told that was not told, a place in each step.
abbrev pub settle_within : Pace → (more untold : ℕ) → ℕ
settle_within pace more untold =
    come_within pace more + come_within pace 1 + (untold + 1) * pace.period

-- In this calm a leader is to settle, which has come to lead by the end of the first rows, in the world `there`. Of its
-- log at most so many places are not told; its calls find room in its queue, and it has room in each of its steps for
-- the frames of the next pair; others, which with it are a quorum, can catch up with it; and the calm is not over by
-- then.
pub record IsToSettle (ids : List ℕ) (rows : List Row) (group : List Party) (clocks : Party → ℕ) (pace : Pace)
    (start n term : ℕ) (log : List Entry) (more untold : ℕ) (others : List ℕ)
    (first later : List Timed) : Type 0 where
  pub under : IsCalmUnder ids rows group clocks pace start n term first later
  pub new : HasComeToLead ids n log (end_of start first + clocks (Member n))
      (after_rows (world_of ids rows) (rows_in first))
  pub few : length log ≤ new.server.raft_server.memory.told + untold
  pub fits : CallsFit n (world_of ids rows) (first ++ later)
  pub room : HasRoomInSteps n (after_rows (world_of ids rows) (rows_in first)) later
  pub short : 4 * pace.delay < call_timeout
  pub catch_up : CanCatchUp ids group n more pace.delay others new.server (world_of ids rows) first later
  pub long : end_of start first + settle_within pace more untold < end_of start (first ++ later)

-- It settles in time, with one other or more; or by then a device's request makes its log grow.
abbrev pub LeadersSettle : List ℕ → List Row → Type 0
LeadersSettle ids rows = (group : List Party) (clocks : Party → ℕ) (pace : Pace) (start n term : ℕ) (log : List Entry)
    (more untold one : ℕ) (next : List ℕ) (first later : List Timed) →
    let there = after_rows (world_of ids rows) (rows_in first) in let ahead = clocks (Member n) in
    let begins = end_of start first in let last = begins + settle_within pace more untold in
    IsToSettle ids rows group clocks pace start n term log more untold (one ∷ next) first later →
    HasSettledBy n term log ahead begins last there later ⊎ GrowsBy n term log ahead begins last there later

-- where nobody asks, it settles in time
abbrev pub LeadersSettleUnasked : List ℕ → List Row → Type 0
LeadersSettleUnasked ids rows = (group : List Party) (clocks : Party → ℕ) (pace : Pace) (start n term : ℕ)
    (log : List Entry) (more untold one : ℕ) (next : List ℕ) (first later : List Timed) →
    let there = after_rows (world_of ids rows) (rows_in first) in let begins = end_of start first in
    IsToSettle ids rows group clocks pace start n term log more untold (one ∷ next) first later →
    NobodyAsks n there later →
    HasSettledBy n term log (clocks (Member n)) begins (begins + settle_within pace more untold) there later
