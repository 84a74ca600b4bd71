-- What is stored where members stood for election so often, each alone, and heard nobody.
use Rattle.std.specs.Prelude.{◌≡◌, ℕ, ◌==◌, List, [], Option, None, if◌then◌else◌}
use Rattle.disk_model.specs.Memory.{nothing_set}
use Rattle.raft_log.specs.Stored.{Stored}
use Rattle.raft_model.specs.Lists.{In}
use Rattle.bus_rows.specs.declared.row.Row.{Row}
use Rattle.bus_spec.specs.Cluster.{Cluster, cluster, world_of}
use Rattle.bus_spec.specs.Lawful.{AreLawful}
use Rattle.bus_spec.specs.Members.{Member}
use Rattle.bus_spec.specs.Members.MemberStatus.{Down}

-- this term, a vote for the member itself, and nothing else; in term 0 no vote
abbrev pub stored_above : ℕ → ℕ → Stored
stored_above term node = record {
  term = term;
  vote = if term == 0 then 0 else node;
  log = [];
  commit = 0;
  origins = [];
  version = 2;
}

-- a member is stopped, has this stored and synced, and no call of its disk is set to fail
pub record HasStored (state : Stored) (x : Member) : Type 0 where
  pub stopped : x.status ≡ Down
  pub store : x.disk.store ≡ state
  pub synced : x.disk.unsynced ≡ None
  pub faults : ℕ
  pub calls : x.disk.calls ≡ nothing_set faults

-- so is each of these members, each with a term of its own; no frame ever was on the bus, and no device is there
pub record AreAbove (ids : List ℕ) (terms : ℕ → ℕ) (w : Cluster) : Type 0 where
  pub members : (n : ℕ) → In n ids → HasStored (stored_above (terms n) n) (w.member n)
  pub no_frame : w.frames ≡ []
  pub no_device : (a : ℕ) → w.allocatee a ≡ None

-- lawful rows lead there from the beginning of the cluster
pub record ComeAbove (ids : List ℕ) (terms : ℕ → ℕ) : Type 0 where
  pub rows : List Row
  pub lawful : AreLawful (cluster ids) rows
  pub above : AreAbove ids terms (world_of ids rows)
