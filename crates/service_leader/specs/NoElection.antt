-- What it is that no election comes where a leader is known, in a calm.
use Rattle.std.specs.Prelude.{⊤, ◌≡◌, ◌≢◌, ℕ, ◌+◌, ◌*◌, ◌<◌, ◌≤◌, true, List, [], ◌∷◌, ◌++◌}
use Rattle.can_frame.specs.declared.step.What.TheVariants.{AppQ}
use Rattle.can_frame.specs.Timing.{call_timeout, election_wait}
use Rattle.raft_model.specs.Lists.{In}
use Rattle.raft_model.specs.Server.Role.{Follower}
use Rattle.bus_rows.specs.declared.row.Row.{Row}
use Rattle.alloc_spec.specs.AllocatorState.{AllocatorState}
use Rattle.alloc_spec.specs.Transfers.{id_of}
use Rattle.bus_rows.specs.Timed.{Timed, rows_in}
use Rattle.service_alone.specs.Calm.{Pace, end_of}
use Rattle.service_calm.specs.Calm.{AreCalm, AreRunning, Member, Party, no_traffic}
use Rattle.service_calm.specs.Calls.{Lists}
use Rattle.service_calm.specs.CallsInTime.{OffersCall}
use Rattle.service_calm.specs.Comes.{AreReady, HasMemory, MayComeFirst, Throughout}
use Rattle.service_leader.specs.LeadsOn.{IsLed, NobodyStands}
use Rattle.bus_spec.specs.Cluster.{Cluster, after_row, after_rows, world_of}
use Rattle.bus_spec.specs.Lawful.{DoNoHarm}
use Rattle.bus_spec.specs.Members.MemberStatus.{Up}

-- ---- how long

-- In a calm, so long at most behind any row a call of the leader comes to each other member. A call that is pending is
-- given up within the call timeout; the leader reads its clock within a period, and calls; and the call comes within
-- two delays. Mostly the wait is much shorter: a heartbeat is due after 400 ms, and a call is pending only until its
-- answer comes.
abbrev pub heard_within : Pace → ℕ
heard_within pace = call_timeout + pace.period + 2 * pace.delay

-- So no wait for an election is older than this, once the first call has come: a call is reckoned from a row, and from
-- one row to the next a period passes at most.
abbrev pub greatest_wait : Pace → ℕ
greatest_wait pace = heard_within pace + pace.period

-- ---- where a calm begins, and behind its first rows

-- No clock has gone back: what each member of the group read last is at most what its clock reads when the calm begins.
abbrev pub ClocksGoOn : List Party → (Party → ℕ) → ℕ → Cluster → Type 0
ClocksGoOn group clocks start w = (p : ℕ) → In (Member p) group → (server : AllocatorState) →
    (w.member p).status ≡ Up server → server.now ≤ start + clocks (Member p)

-- In a calm the leader n can call member m, and m will hear it. This is asked when the calm begins: each is on the
-- other's list. No frame of an earlier call waits in the queue of n, and the session that m has for such calls, if
-- any, does not refuse the ID of the first one. In each of the rows m has memory for what comes. It is asked behind
-- the first rows: the least wait of m is not over when its clock reads `last`, by when it has heard a call that is
-- made there. It is not asked that m has heard the leader before, or knows its term.
pub record WillHear (n m last : ℕ) (w : Cluster) (first later : List Timed) : Type 0 where
  pub calls : Lists n m w
  pub hears : Lists m n w
  pub ready : AreReady n m AppQ m w
  pub first_call : MayComeFirst n AppQ m ready.receiver (id_of ready.sender.ids AppQ m)
  pub memory : Throughout (HasMemory m) w (first ++ later)
  pub waits : (server : AllocatorState) → ((after_rows w (rows_in first)).member m).status ≡ Up server →
      last < server.times.since + election_wait

-- in each of these rows the queue of member n has room for each call that it offers
abbrev pub CallsFit : ℕ → Cluster → List Timed → Type 0
CallsFit n w [] = ⊤
CallsFit n w (timed ∷ rest) = ((m : ℕ) (call : OffersCall n m w timed.row) → call.offer.fitted ≡ true)
    × CallsFit n (after_row w timed.row) rest

-- ---- no election comes

-- Member m follows, and its wait began at most so long ago, when its clock reads this.
pub record HasHeard (m within reading : ℕ) (w : Cluster) : Type 0 where
  pub server : AllocatorState
  pub runs : (w.member m).status ≡ Up server
  pub follows : server.raft_server.memory.role ≡ Follower
  pub lately : reading ≤ server.times.since + within

-- In these calm rows, before which the moment is `start`: after each front of them member n leads in this term, and
-- each other member of the group follows in no higher one; in no row does one of them read its clock when its least
-- wait is over; and after the first call each of them has heard the leader lately.
pub record NoElection (group : List Party) (clocks : Party → ℕ) (pace : Pace) (start n term : ℕ) (w : Cluster)
    (whole : List Timed) : Type 0 where
  pub led : (front rest : List Timed) → whole ≡ front ++ rest → IsLed group n term (after_rows w (rows_in front))
  pub nobody : NobodyStands n w whole
  pub heard : (m : ℕ) (front rest : List Timed) → In (Member m) group → m ≢ n → whole ≡ front ++ rest →
      start + heard_within pace < end_of start front →
      HasHeard m (greatest_wait pace) (end_of start front + clocks (Member m)) (after_rows w (rows_in front))

-- The law: in each calm from the world of these rows on, at a pace at which calls come before the least wait is over,
-- and behind any first rows of it. A member of the group leads there, and the others follow in no higher term and
-- will hear it. No clock has gone back when the calm begins, the rows do no harm, and behind the first ones the
-- leader's calls find room in its queue. Then no election comes there. How long the calm lasts is not limited, nor
-- what devices ask meanwhile, nor who led before, or how many elections came.
abbrev pub NoElectionComes : List ℕ → List Row → Type 0
NoElectionComes ids rows = (group : List Party) (clocks : Party → ℕ) (pace : Pace) (start n term : ℕ)
    (first later : List Timed) → let w = world_of ids rows in let there = after_rows w (rows_in first) in
    ((p : ℕ) → In (Member p) group → In p ids) → AreRunning group w → In (Member n) group → IsLed group n term there →
    greatest_wait pace < election_wait → ClocksGoOn group clocks start w →
    ((m : ℕ) → In (Member m) group → m ≢ n →
    WillHear n m (end_of start first + clocks (Member m) + heard_within pace) w first later) →
    AreCalm group clocks pace (no_traffic start) w (first ++ later) → DoNoHarm w (rows_in (first ++ later)) →
    CallsFit n there later → NoElection group clocks pace (end_of start first) n term there later
