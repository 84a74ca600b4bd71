-- What it is that elections end in time, in a calm in which the members of a group have just been opened.
use Rattle.std.specs.Prelude.{◌≡◌, ◌≢◌, ◌⊎◌, ℕ, ◌+◌, ◌-◌, ◌*◌, ◌<◌, ◌≤◌, true, List, ◌∷◌, ◌++◌, length}
use Rattle.can_frame.specs.Log.{last_term}
use Rattle.can_frame.specs.Timing.{call_timeout, election_spread, election_wait}
use Rattle.disk_model.specs.Memory.{nothing_set}
use Rattle.raft_core.specs.Times.{wait}
use Rattle.raft_model.specs.Lists.{In, how_many}
use Rattle.raft_model.specs.Log.{NotAbove}
use Rattle.raft_model.specs.Server.{Store, quorum}
use Rattle.raft_model.specs.Server.Role.{Follower, Leader}
use Rattle.bus_rows.specs.declared.row.Row.{Row}
use Rattle.alloc_spec.specs.AllocatorState.{AllocatorState}
use Rattle.alloc_spec.specs.Rules.{opening_by}
use Rattle.bus_rows.specs.Timed.{Timed, rows_in}
use Rattle.service_alone.specs.Calm.{Pace, end_of}
use Rattle.service_candidate.specs.Terms.{NobodyLeads}
use Rattle.service_candidate.specs.Votes.{Stands}
use Rattle.service_candidate.specs.Waits.{HasTermLeft}
use Rattle.service_candidate.specs.Wins.{VoteRequestsFit, WinsBy, is_of}
use Rattle.service_leader.specs.CallsComeBack.{HasPlace}
use Rattle.service_calm.specs.Calm.{AreCalm, Member, Party, no_traffic}
use Rattle.service_calm.specs.Comes.{HasMemory, Throughout}
use Rattle.bus_spec.specs.Cluster.{Cluster, after_row, after_rows, rules_of, world_of}
use Rattle.bus_spec.specs.Lawful.{DoNoHarm}
use Rattle.bus_spec.specs.Members.MemberStatus.{Up}

-- ---- where a calm begins

-- Member m has just been opened: it was told the members of the cluster, and has taken no step. No call of its disk is
-- set to fail.
pub record HasJustOpened (ids : List ℕ) (m now : ℕ) (w : Cluster) : Type 0 where
  pub store : Store
  pub moment : ℕ
  pub word : ℕ
  pub runs : (w.member m).status ≡ Up (opening_by m (rules_of ids true) store moment word)
  pub clock : moment ≤ now
  pub faults : ℕ
  pub disk : (w.member m).disk.calls ≡ nothing_set faults

-- Two members of the group that stand for election in these rows do so more than `gap` ms apart.
abbrev pub StandApart : List Party → (gap : ℕ) → Cluster → List Timed → Type 0
StandApart group gap w whole = (front middle rest : List Timed) (one other : Timed) (n m term later : ℕ) →
    whole ≡ front ++ one ∷ (middle ++ other ∷ rest) → In (Member n) group → In (Member m) group → n ≢ m →
    Stands n term (after_rows w (rows_in front)) one.row →
    Stands m later (after_rows w (rows_in (front ++ one ∷ middle))) other.row → one.at + gap < other.at

-- A calm of rows that do no harm, of a group that has a quorum of the cluster's members. When it begins each member of
-- the group has just been opened. In each of the rows each of them has memory for what it receives, a place in its
-- queue, room for the vote requests that it offers, and a term left. No two of them stand for election within four
-- delays, which are shorter than the call timeout.
pub record IsCalmRestart (ids : List ℕ) (rows : List Row) (group : List Party) (clocks : Party → ℕ) (pace : Pace)
    (start : ℕ) (whole : List Timed) : Type 0 where
  pub listed : (m : ℕ) → In (Member m) group → In m ids
  pub many : quorum ids ≤ how_many (is_of group) ids
  pub others : 2 ≤ length ids
  pub opened : (m : ℕ) → In (Member m) group → HasJustOpened ids m (start + clocks (Member m)) (world_of ids rows)
  pub calm : AreCalm group clocks pace (no_traffic start) (world_of ids rows) whole
  pub harmless : DoNoHarm (world_of ids rows) (rows_in whole)
  pub memory : (m : ℕ) → In (Member m) group → Throughout (HasMemory m) (world_of ids rows) whole
  pub place : (m : ℕ) → In (Member m) group → Throughout (HasPlace m) (world_of ids rows) whole
  pub fit : (m : ℕ) → In (Member m) group → VoteRequestsFit m (world_of ids rows) whole
  pub left : (m : ℕ) → In (Member m) group → Throughout (HasTermLeft m) (world_of ids rows) whole
  pub apart : StandApart group (4 * pace.delay) (world_of ids rows) whole
  pub quick : 4 * pace.delay < call_timeout

-- ---- somebody stands

-- no wait for an election is longer, in milliseconds
abbrev pub longest_wait : ℕ
longest_wait = election_wait + election_spread - 1

-- In one of these rows, by this moment, a member of the group stands for election. Nobody leads before.
pub record AMemberStands (group : List Party) (last : ℕ) (w : Cluster) (whole : List Timed) : Type 0 where
  pub front : List Timed
  pub timed : Timed
  pub rest : List Timed
  pub split : whole ≡ front ++ timed ∷ rest
  pub soon : timed.at ≤ last
  pub nobody_led : Throughout (NobodyLeads group) w front
  pub nobody_leads : NobodyLeads group (after_rows w (rows_in front))
  pub c : ℕ
  pub member : In (Member c) group
  pub term : ℕ
  pub stands : Stands c term (after_rows w (rows_in front)) timed.row

-- In each such calm a member of the group stands within the longest wait and a period, or the calm is over by then.
abbrev pub SomebodyStands : List ℕ → List Row → Type 0
SomebodyStands ids rows = (group : List Party) (clocks : Party → ℕ) (pace : Pace) (start : ℕ) (whole : List Timed) →
    IsCalmRestart ids rows group clocks pace start whole → start + longest_wait + pace.period < end_of start whole →
    AMemberStands group (start + longest_wait + pace.period) (world_of ids rows) whole

-- ---- one whose log is furthest stands, or somebody leads

-- no log of a member of the group that runs is above that of member c
abbrev pub IsFurthest : List Party → (c : ℕ) → Cluster → Type 0
IsFurthest group c w = (m : ℕ) (server other : AllocatorState) → In (Member m) group →
    (w.member c).status ≡ Up server → (w.member m).status ≡ Up other →
    NotAbove (last_term other.raft_server.store.log) (length other.raft_server.store.log)
    (last_term server.raft_server.store.log) (length server.raft_server.store.log)

-- In one of these rows, by this moment, a member stands whose log is furthest, and nobody leads before.
pub record FurthestStands (group : List Party) (last : ℕ) (w : Cluster) (whole : List Timed) : Type 0 where
  pub stands_so : AMemberStands group last w whole
  pub furthest : IsFurthest group stands_so.c w

-- Behind a front of these rows, which begin at the moment `start`, and by the moment `last`, a member of the group
-- leads. Nobody leads before.
pub record SomebodyLeads (group : List Party) (start last : ℕ) (w : Cluster) (whole : List Timed) : Type 0 where
  pub front : List Timed
  pub rest : List Timed
  pub split : whole ≡ front ++ rest
  pub soon : end_of start front ≤ last
  pub nobody_led : Throughout (NobodyLeads group) w front
  pub n : ℕ
  pub member : In (Member n) group
  pub server : AllocatorState
  pub runs : ((after_rows w (rows_in front)).member n).status ≡ Up server
  pub leads : server.raft_server.memory.role ≡ Leader

-- In each such calm, whatever terms and logs the members have stored: a member whose log is furthest stands within the
-- longest wait and a period, or somebody leads by then, or the calm is over by then.
abbrev pub WhoIsFurthestStands : List ℕ → List Row → Type 0
WhoIsFurthestStands ids rows = (group : List Party) (clocks : Party → ℕ) (pace : Pace) (start : ℕ)
    (whole : List Timed) → IsCalmRestart ids rows group clocks pace start whole →
    start + longest_wait + pace.period < end_of start whole →
    FurthestStands group (start + longest_wait + pace.period) (world_of ids rows) whole
    ⊎ SomebodyLeads group start (start + longest_wait + pace.period) (world_of ids rows) whole

-- ---- who stands first wins

-- No member of the group that runs has stored a higher term than member c, and no log is above that of c.
abbrev pub IsAhead : List Party → (c : ℕ) → Cluster → Type 0
IsAhead group c w = (m : ℕ) (server other : AllocatorState) → In (Member m) group → (w.member c).status ≡ Up server →
    (w.member m).status ≡ Up other → (other.raft_server.store.term ≤ server.raft_server.store.term)
    × NotAbove (last_term other.raft_server.store.log) (length other.raft_server.store.log)
    (last_term server.raft_server.store.log) (length server.raft_server.store.log)

-- the wait of member m, if it runs, is over at this moment by its clock
abbrev pub WaitIsOver : (Party → ℕ) → (m moment : ℕ) → Cluster → Type 0
WaitIsOver clocks m moment w = (server : AllocatorState) → (w.member m).status ≡ Up server →
    server.times.since + wait server.times.word ≤ moment + clocks (Member m)

-- the wait of member m, if it runs, goes on at this moment by its clock
abbrev pub WaitGoesOn : (Party → ℕ) → (m moment : ℕ) → Cluster → Type 0
WaitGoesOn clocks m moment w = (server : AllocatorState) → (w.member m).status ≡ Up server →
    moment + clocks (Member m) < server.times.since + wait server.times.word

-- The wait of some member of the group is over at this moment, and that of each member that is not ahead goes on for a
-- period more.
pub record FirstIsAhead (group : List Party) (clocks : Party → ℕ) (pace : Pace) (moment : ℕ)
    (w : Cluster) : Type 0 where
  pub first : ℕ
  pub member : In (Member first) group
  pub over : WaitIsOver clocks first moment w
  pub each : (m : ℕ) → In (Member m) group → IsAhead group m w ⊎ WaitGoesOn clocks m (moment + pace.period) w

-- each member of the group but c follows, if it runs
abbrev pub OthersFollow : List Party → (c : ℕ) → Cluster → Type 0
OthersFollow group c w = (m : ℕ) (server : AllocatorState) → In (Member m) group → m ≢ c →
    (w.member m).status ≡ Up server → server.raft_server.memory.role ≡ Follower

-- In one of these rows a member of the group stands for election, and it wins within four delays, by the moment `last`.
-- Nobody leads before, and where it stands the others follow.
pub record EndsBy (group : List Party) (clocks : Party → ℕ) (delay last : ℕ) (w : Cluster)
    (whole : List Timed) : Type 0 where
  pub front : List Timed
  pub timed : Timed
  pub rest : List Timed
  pub split : whole ≡ front ++ timed ∷ rest
  pub soon : timed.at + 4 * delay ≤ last
  pub nobody_led : Throughout (NobodyLeads group) w front
  pub nobody_leads : NobodyLeads group (after_rows w (rows_in front))
  pub c : ℕ
  pub member : In (Member c) group
  pub term : ℕ
  pub stands : Stands c term (after_rows w (rows_in front)) timed.row
  pub others_follow : OthersFollow group c (after_rows w (rows_in front))
  pub wins : WinsBy group clocks c term timed.at (timed.at + 4 * delay)
      (after_row (after_rows w (rows_in front)) timed.row) rest

-- In each such calm in which a member that is ahead is the first to stand, it wins, a period and four delays behind the
-- end of its wait at the latest, or the calm is over by then.
abbrev pub WhoIsAheadWins : List ℕ → List Row → Type 0
WhoIsAheadWins ids rows = (group : List Party) (clocks : Party → ℕ) (pace : Pace) (start moment : ℕ)
    (whole : List Timed) → IsCalmRestart ids rows group clocks pace start whole → start ≤ moment →
    FirstIsAhead group clocks pace moment (world_of ids rows) →
    moment + pace.period + 4 * pace.delay < end_of start whole →
    EndsBy group clocks pace.delay (moment + pace.period + 4 * pace.delay) (world_of ids rows) whole

-- so long at most an election takes where all members are in step
abbrev pub election_within : Pace → ℕ
election_within pace = longest_wait + pace.period + 4 * pace.delay

-- In each such calm in which all members of the group are in step when it begins, with one term and no log above
-- another, one of them wins in time, or the calm is over by then.
abbrev pub ElectionsEnd : List ℕ → List Row → Type 0
ElectionsEnd ids rows = (group : List Party) (clocks : Party → ℕ) (pace : Pace) (start : ℕ) (whole : List Timed) →
    IsCalmRestart ids rows group clocks pace start whole →
    ((m : ℕ) → In (Member m) group → IsAhead group m (world_of ids rows)) →
    start + election_within pace < end_of start whole →
    EndsBy group clocks pace.delay (start + election_within pace) (world_of ids rows) whole

-- each member of the group that runs has stored this term
abbrev pub AreInTerm : List Party → (term : ℕ) → Cluster → Type 0
AreInTerm group term w = (m : ℕ) → In (Member m) group → (server : AllocatorState) → (w.member m).status ≡ Up server →
    server.raft_server.store.term ≡ term

-- In one of these rows a member of the group stands for election whose log is furthest when the rows begin, and it wins
-- within four delays, by the moment `last`. Nobody leads before. Where it stands another one may still be a candidate,
-- which stood before it.
pub record WinsInOneTerm (group : List Party) (clocks : Party → ℕ) (delay last : ℕ) (w : Cluster)
    (whole : List Timed) : Type 0 where
  pub front : List Timed
  pub timed : Timed
  pub rest : List Timed
  pub split : whole ≡ front ++ timed ∷ rest
  pub soon : timed.at + 4 * delay ≤ last
  pub nobody_led : Throughout (NobodyLeads group) w front
  pub nobody_leads : NobodyLeads group (after_rows w (rows_in front))
  pub c : ℕ
  pub member : In (Member c) group
  pub furthest : IsFurthest group c w
  pub term : ℕ
  pub stands : Stands c term (after_rows w (rows_in front)) timed.row
  pub wins : WinsBy group clocks c term timed.at (timed.at + 4 * delay)
      (after_row (after_rows w (rows_in front)) timed.row) rest

-- In each such calm in which all members of the group have stored one term when it begins, whatever logs they have: one
-- whose log is furthest wins within the same time, or some member leads by then, or the calm is over by then.
abbrev pub ElectionsEndInOneTerm : List ℕ → List Row → Type 0
ElectionsEndInOneTerm ids rows = (group : List Party) (clocks : Party → ℕ) (pace : Pace) (start term : ℕ)
    (whole : List Timed) → IsCalmRestart ids rows group clocks pace start whole →
    AreInTerm group term (world_of ids rows) → start + election_within pace < end_of start whole →
    WinsInOneTerm group clocks pace.delay (start + election_within pace) (world_of ids rows) whole
    ⊎ SomebodyLeads group start (start + election_within pace) (world_of ids rows) whole
