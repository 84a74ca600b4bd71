-- What can still come in a run.
use Rattle.std.specs.Prelude.{List}
use Rattle.raft_model.specs.Runs.{Event, Lawful, World, run}

-- lawful events lead from this world to one of which this holds
pub record CanCome (world : World) (Holds : World → Type 0) : Type 0 where
  pub events : List Event
  pub lawful : Lawful world events
  pub holds : Holds (run world events)
