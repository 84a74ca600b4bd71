-- When the members of a cluster go on calmly, whatever roles, terms and logs they have when the calm begins.
use Rattle.std.specs.Prelude.{⊤, ◌≡◌, ◌≢◌, ℕ, ◌+◌, ◌*◌, ◌<◌, ◌≤◌, true, List, [], ◌∷◌, ◌++◌, length}
use Rattle.can_frame.specs.Timing.{call_timeout, election_wait}
use Rattle.raft_model.specs.Lists.{In, how_many}
use Rattle.raft_model.specs.Server.{quorum}
use Rattle.bus_rows.specs.declared.row.Row.{Row}
use Rattle.alloc_spec.specs.AllocatorState.{AllocatorState, knows_all}
use Rattle.bus_rows.specs.Timed.{Timed, rows_in}
use Rattle.service_alone.specs.Calm.{Pace, end_of}
use Rattle.service_candidate.specs.Elections.{StandApart}
use Rattle.service_candidate.specs.Votes.{CanAsk, Stands}
use Rattle.service_candidate.specs.Waits.{HasTermLeft}
use Rattle.service_candidate.specs.Wins.{VoteRequestsFit, is_of}
use Rattle.service_leader.specs.Entries.{CanExchange}
use Rattle.service_leader.specs.NoElection.{CallsFit, ClocksGoOn, NoElection, greatest_wait}
use Rattle.service_calm.specs.Calm.{AreCalm, AreRunning, Member, Party, no_traffic}
use Rattle.service_calm.specs.Comes.{Throughout}
use Rattle.bus_spec.specs.Cluster.{Cluster, after_row, after_rows, world_of}
use Rattle.bus_spec.specs.Lawful.{DoNoHarm}
use Rattle.bus_spec.specs.Members.MemberStatus.{Up}

-- ---- where a calm begins

-- A calm of rows that do no harm, of a group that has a quorum of the cluster's members, which are two or more. When
-- it begins each member of the group runs, and knows all members of the cluster; no clock has gone back; and each two
-- of the group can ask each other for votes, and can exchange calls and answers. In the rows each member's queue has
-- room for its vote requests and its calls, and a term is left for it. No two members stand for election within eight
-- delays of each other. Four delays are shorter than the call timeout, and calls come before the least wait is over,
-- also where eight delays of it are over before. Which roles, terms and logs the members have when it begins is not
-- asked, nor what each waits for.
pub record IsCalmOf (ids : List ℕ) (rows : List Row) (group : List Party) (clocks : Party → ℕ) (pace : Pace)
    (start : ℕ) (whole : List Timed) : Type 0 where
  pub listed : (m : ℕ) → In (Member m) group → In m ids
  pub many : quorum ids ≤ how_many (is_of group) ids
  pub others : 2 ≤ length ids
  pub running : AreRunning group (world_of ids rows)
  pub complete : (m : ℕ) (server : AllocatorState) → In (Member m) group →
      ((world_of ids rows).member m).status ≡ Up server → knows_all server ≡ true
  pub clock : ClocksGoOn group clocks start (world_of ids rows)
  pub calm : AreCalm group clocks pace (no_traffic start) (world_of ids rows) whole
  pub harmless : DoNoHarm (world_of ids rows) (rows_in whole)
  pub ask : (n m : ℕ) → In (Member n) group → In (Member m) group → n ≢ m → CanAsk n m (world_of ids rows) whole
  pub exchange : (n m : ℕ) → In (Member n) group → In (Member m) group → n ≢ m →
      CanExchange n m (world_of ids rows) whole
  pub asks_fit : (m : ℕ) → In (Member m) group → VoteRequestsFit m (world_of ids rows) whole
  pub calls_fit : (m : ℕ) → In (Member m) group → CallsFit m (world_of ids rows) whole
  pub left : (m : ℕ) → In (Member m) group → Throughout (HasTermLeft m) (world_of ids rows) whole
  pub apart : StandApart group (8 * pace.delay) (world_of ids rows) whole
  pub quick : 4 * pace.delay < call_timeout
  pub soon : 8 * pace.delay + greatest_wait pace < election_wait

-- So long behind the beginning of such a calm no member of the group waits any more for an answer to a call or a vote
-- request that it made before: it has given it up when it ticked last.
abbrev pub quiet_within : Pace → ℕ
quiet_within pace = call_timeout + pace.period

-- ---- what happens in it

-- in none of these rows a member of the group stands for election
abbrev pub NobodyStandsIn : List Party → Cluster → List Timed → Type 0
NobodyStandsIn group w [] = ⊤
NobodyStandsIn group w (timed ∷ rest) =
    ((n term : ℕ) → In (Member n) group → Stands n term w timed.row → ⊥)
    × NobodyStandsIn group (after_row w timed.row) rest

-- Behind a front of these rows, which begin at the moment `start`, and by the moment `last`, a member of the group
-- leads, and no election comes from there on.
pub record IsLedBy (group : List Party) (clocks : Party → ℕ) (pace : Pace) (start last : ℕ) (w : Cluster)
    (whole : List Timed) : Type 0 where
  pub front : List Timed
  pub rest : List Timed
  pub split : whole ≡ front ++ rest
  pub soon : end_of start front ≤ last
  pub n : ℕ
  pub member : In (Member n) group
  pub term : ℕ
  pub calm : NoElection group clocks pace (end_of start front) n term (after_rows w (rows_in front)) rest
