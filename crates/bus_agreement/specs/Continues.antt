-- How a run of the Raft model goes on.
use Rattle.std.specs.Prelude.{ℕ, Bool, List}
use Rattle.raft_model.specs.Runs as raft
use Rattle.raft_model.specs.Runs.{Event}
use Rattle.alloc_spec.specs.Transfers.{SentTransfer}
use Rattle.bus_spec.specs.Cluster.{Cluster}
use Rattle.bus_agreement.specs.Said.{IsRunWritable}
use Rattle.bus_agreement.specs.Shows.{Shows}

-- by these events, each of which may come when its turn is there, to a run that this world shows, and in which all
-- that is stored and said has bytes, and nothing of it a member's node ID
pub record Continues (choice : ℕ → Bool) (made : List SentTransfer) (w : Cluster) (run : raft.World)
    (events : List Event)
    : Type 0 where
  pub lawful : raft.Lawful run events
  pub shows : Shows choice made w (raft.run run events)
  pub writable : IsRunWritable w.ids (raft.run run events)
