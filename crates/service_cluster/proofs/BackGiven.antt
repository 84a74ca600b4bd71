-- What the return of a cluster stands on, and a leader from which on no election comes.
use Rattle.std.proofs.Common.{◌≡◌, ℕ, ◌<◌, true, List, ◌++◌, length}
use Rattle.std.specs.Prelude.{◌⊎◌}
use Rattle.can_frame.specs.Log.{last_term, log_limit}
use Rattle.raft_model.specs.Invariants.{SoundStore}
use Rattle.raft_model.specs.Lists.{In}
use Rattle.raft_model.specs.Server.Role.{Leader}
use Rattle.bus_rows.specs.declared.row.Row.{Row}
use Rattle.alloc_spec.specs.AllocatorState.{AllocatorState, knows_all, members_of}
use Rattle.bus_rows.specs.Timed.{Timed, rows_in}
use Rattle.service_alone.specs.Calm.{Pace, end_of}
use Rattle.service_calm.specs.Calm.{Member as OfMember, Party}
use Rattle.service_leader.specs.NoElection.{NoElection}
use Rattle.service_cluster.specs.ComeBack.{IsCalmOfFit}
use Rattle.service_elections.specs.Calling.{CallsReturnInRounds, LeadersGoOnCalling}
use Rattle.service_device.specs.Settles.{LeadersSettle, WaitsWithBlank}
use Rattle.service_device.specs.Tidy.{DiscoveriesMissNobody, MembersStayFit}
use Rattle.service_device.proofs.SettlesLaw.{IsFitting}
use Rattle.alloc_spec.specs.ClusterMembers.{AreMembers}
use Rattle.bus_spec.specs.Cluster.{Cluster, after_rows, world_of}
use Rattle.bus_spec.specs.Lawful.{DoNoHarm}
use Rattle.bus_spec.specs.Members.MemberStatus.{Up}

-- a server of a member that runs, behind rows that do no harm
pub record IsFine (t : AllocatorState) : Type 0 where
  pub fitting : IsFitting t
  pub store : SoundStore t.raft_server.store

-- A leader whose log has room where it is not all committed has committed its whole log, or waits with its blank, or has
-- added it.
abbrev pub BlanksAreAdded : List ℕ → List Row → Type 0
BlanksAreAdded ids rows = (more : List Row) (n : ℕ) (t : AllocatorState) → DoNoHarm (world_of ids rows) more → In n ids →
    ((after_rows (world_of ids rows) more).member n).status ≡ Up t → t.raft_server.memory.role ≡ Leader →
    (t.raft_server.store.commit < length t.raft_server.store.log → length t.raft_server.store.log < log_limit) →
    (t.raft_server.store.commit ≡ length t.raft_server.store.log)
    ⊎ (WaitsWithBlank ids n t.raft_server.store.log t ⊎ (last_term t.raft_server.store.log ≡ t.raft_server.store.term))

-- a member that knows all members lists each
abbrev pub WhoKnowsAllListsAll : List ℕ → List Row → Type 0
WhoKnowsAllListsAll ids rows = (more : List Row) (n : ℕ) (t : AllocatorState) → DoNoHarm (world_of ids rows) more → In n ids →
    ((after_rows (world_of ids rows) more).member n).status ≡ Up t → knows_all t ≡ true → (p : ℕ) → In p ids → In p (members_of t)

-- what it stands on
pub record BackGiven (ids : List ℕ) (rows : List Row) : Type 0 where
  pub members : AreMembers ids
  pub fine : (more : List Row) (n : ℕ) (t : AllocatorState) → DoNoHarm (world_of ids rows) more → In n ids →
      ((after_rows (world_of ids rows) more).member n).status ≡ Up t → IsFine t
  pub lists : WhoKnowsAllListsAll ids rows
  pub blanks : BlanksAreAdded ids rows
  pub calling : LeadersGoOnCalling ids rows
  pub return : CallsReturnInRounds ids rows
  pub fit : MembersStayFit ids rows
  pub missed : DiscoveriesMissNobody ids rows
  pub settle : LeadersSettle ids rows

-- ---- where it is

-- Member n leads from a front of a calm on, and no election comes from there on.
pub record Scene : Type 0 where
  pub ids : List ℕ
  pub rows : List Row
  pub given : BackGiven ids rows
  pub group : List Party
  pub clocks : Party → ℕ
  pub pace : Pace
  pub start : ℕ
  pub whole : List Timed
  pub longest : ℕ
  pub calm : IsCalmOfFit ids rows group clocks pace start longest whole
  pub n : ℕ
  pub term : ℕ
  pub member : In (OfMember n) group
  pub front : List Timed
  pub rest : List Timed
  pub split : whole ≡ front ++ rest
  pub led : NoElection group clocks pace (end_of start front) n term (after_rows (world_of ids rows) (rows_in front)) rest

-- the world in which the calm begins, and that behind a front of its rows
abbrev pub w0 : Scene → Cluster
w0 g = world_of g.ids g.rows

abbrev pub there : Scene → List Timed → Cluster
there g a = after_rows (world_of g.ids g.rows) (rows_in a)
