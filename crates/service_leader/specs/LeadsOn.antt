-- What it is that who leads leads on, and that who follows follows on: so terms do not rise in calm.
use Rattle.std.specs.Prelude.{⊤, ◌≡◌, ◌≢◌, ℕ, ◌+◌, ◌<◌, ◌≤◌, max, List, [], ◌∷◌, ◌++◌}
use Rattle.can_frame.specs.Timing.{election_wait}
use Rattle.raft_model.specs.Lists.{In}
use Rattle.raft_model.specs.Server.Role.{Follower, Leader}
use Rattle.bus_rows.specs.declared.row.Row.{Row}
use Rattle.bus_rows.specs.declared.row.Row.TheVariants.{Tick}
use Rattle.alloc_spec.specs.AllocatorState.{AllocatorState}
use Rattle.bus_rows.specs.Timed.{Timed, rows_in}
use Rattle.service_alone.specs.Calm.{Pace}
use Rattle.service_calm.specs.Calm.{AreCalm, AreRunning, Member, Party, no_traffic}
use Rattle.bus_spec.specs.Cluster.{Cluster, after_row, after_rows, world_of}
use Rattle.bus_spec.specs.Lawful.{DoNoHarm}
use Rattle.bus_spec.specs.Members.MemberStatus.{Up}

-- ---- who leads and who follows

-- member n runs and leads, in this term
pub record LeadsIn (n term : ℕ) (w : Cluster) : Type 0 where
  pub server : AllocatorState
  pub runs : (w.member n).status ≡ Up server
  pub leads : server.raft_server.memory.role ≡ Leader
  pub its_term : server.raft_server.store.term ≡ term

-- member m runs and follows, in this term or a lower one
pub record FollowsWithin (m term : ℕ) (w : Cluster) : Type 0 where
  pub server : AllocatorState
  pub runs : (w.member m).status ≡ Up server
  pub follows : server.raft_server.memory.role ≡ Follower
  pub its_term : server.raft_server.store.term ≤ term

-- Member n leads in this term, and each other member of the group follows. It is not asked that the others heard it,
-- nor that members outside the group do not run: no frame comes from them in a calm.
pub record IsLed (group : List Party) (n term : ℕ) (w : Cluster) : Type 0 where
  pub leader : LeadsIn n term w
  pub others : (m : ℕ) → In (Member m) group → m ≢ n → FollowsWithin m term w

-- so it is behind each front of these rows
abbrev pub IsLedThroughout : List Party → (n term : ℕ) → Cluster → List Timed → Type 0
IsLedThroughout group n term w whole = (front rest : List Timed) → whole ≡ front ++ rest →
    IsLed group n term (after_rows w (rows_in front))

-- ---- nobody stands for election

-- Where another member than n reads its clock in this row, its least wait for an election is not over. Of n itself this
-- is not asked: it leads, and a leader does not stand.
abbrev pub WaitsOn : ℕ → Cluster → Row → Type 0
WaitsOn n w (Tick m ms word) = m ≢ n → (server : AllocatorState) → (w.member m).status ≡ Up server →
    max server.now ms < server.times.since + election_wait
WaitsOn n w row = ⊤

-- so in each of these rows, in the world before it
abbrev pub NobodyStands : ℕ → Cluster → List Timed → Type 0
NobodyStands n w [] = ⊤
NobodyStands n w (timed ∷ rest) = WaitsOn n w timed.row × NobodyStands n (after_row w timed.row) rest

-- ---- the law

-- In each calm from the world of these rows on, and behind any first rows of it: where a member of the group leads
-- there, and the others follow in no higher term, so it is after each front of the calm rows behind, where the rows do
-- no harm and nobody stands behind the first ones.
abbrev pub LeadersLeadOn : List ℕ → List Row → Type 0
LeadersLeadOn ids rows = (group : List Party) (clocks : Party → ℕ) (pace : Pace) (start n term : ℕ)
    (first front rest : List Timed) → let w = world_of ids rows in let there = after_rows w (rows_in first) in
    ((p : ℕ) → In (Member p) group → In p ids) → AreRunning group w → In (Member n) group → IsLed group n term there →
    AreCalm group clocks pace (no_traffic start) w (first ++ (front ++ rest)) →
    DoNoHarm w (rows_in (first ++ front)) → NobodyStands n there front →
    IsLed group n term (after_rows there (rows_in front))
