-- What can still come after a list of rows.
use Rattle.std.specs.Prelude.{◌≢◌, ◌+◌, ◌<◌, ◌≤◌, ℕ, Bool, List, length}
use Rattle.can_frame.specs.Log.{HasNodeId, HasUid, log_limit}
use Rattle.can_frame.specs.Zeros.{zeros}
use Rattle.raft_model.specs.Lists.{In}
use Rattle.raft_model.specs.Moves.Elections.{term_limit}
use Rattle.raft_model.specs.Runs.{initial_world, run}
use Rattle.bus_rows.specs.declared.row.Row.{Row}
use Rattle.service_steps.specs.Coming.{CanCome}
use Rattle.service_steps.specs.ComingBack.{IsMajority, IsTold}
use Rattle.bus_spec.specs.Choices.{AgreesWithDisk}
use Rattle.bus_spec.specs.Cluster.{Cluster, cluster, world_of}
use Rattle.bus_spec.specs.Logs.{stored}
use Rattle.bus_spec.specs.Refinement.{events}

-- what these members have stored has a place for a pair: no log has its unique ID or its node ID, each has room for two
-- entries more, and a term is left
pub record HavePlace (choice : ℕ → Bool) (w : Cluster) (group : List ℕ) (uid : List ℕ) (node : ℕ) : Type 0 where
  pub device : uid ≢ zeros
  pub least : 1 ≤ node
  pub most : node ≤ 125
  pub uids : (n : ℕ) → In n group → HasUid (stored choice w n).log uid → ⊥
  pub nodes : (n : ℕ) → In n group → HasNodeId (stored choice w n).log node → ⊥
  pub room : (n : ℕ) → In n group → length (stored choice w n).log + 1 < log_limit
  pub term : (n : ℕ) → In n group → (stored choice w n).term < term_limit

-- for every choice that agrees with the disks, and every majority of the members
abbrev pub AreNeverStuck : List ℕ → List Row → Type 0
AreNeverStuck ids rows = (choice : ℕ → Bool) (group : List ℕ) (uid : List ℕ) (node : ℕ) →
    AgreesWithDisk choice (cluster ids) rows → IsMajority ids group →
    HavePlace choice (world_of ids rows) group uid node →
    CanCome (run (initial_world ids) (events choice (cluster ids) rows)) (λ later. IsTold later uid node)
