-- How what two disks have stored is compared.
use Rattle.std.specs.Prelude.{◌≡◌}
use Rattle.disk_model.specs.declared.disk.Disk.{Ghosts}
use Rattle.raft_core.specs.StoredPuts.{store_of}
use Rattle.raft_log.specs.Stored.{Stored}
use Rattle.cmd_node.specs.WholeRun.{HoldsState}

-- what a member goes by, which is term, vote, log and commit index; or all of it, with the origin of each entry and the
-- version of the store
pub data Likeness : Type 0 where
  AsRead : Likeness
  Whole : Likeness

abbrev pub Alike : Likeness → Stored → Stored → Type 0
Alike AsRead a b = store_of a ≡ store_of b
Alike Whole a b = a ≡ b

-- whatever a stop leaves of the disk stands for a state that is like this one
pub record HoldsAlike {D : Type 0} (likeness : Likeness) (disk : Ghosts D) (after : D) (state : Stored) : Type 0 where
  pub held : Stored
  pub holds : HoldsState disk after held
  pub same : Alike likeness state held
