-- What holds along the rows of every world.
use Rattle.std.specs.Prelude.{ℕ, List}
use Rattle.bus_rows.specs.declared.row.Row.{Row}
use Rattle.bus_agreement.specs.Allocatees.{HasAllocatees}
use Rattle.bus_agreement.specs.Headline.{HasHeadline}
use Rattle.bus_agreement.specs.Safe.{AreSafe}

pub record KeepsPromise (ids : List ℕ) (rows : List Row) : Type 0 where
  -- what allocators have committed is always a prefix of one list, which only grows and gives nothing twice
  pub headline : HasHeadline ids rows
  -- what a device has is a pair of that list: an allocatee of the rows, or any other that takes a node ID by the
  -- standard's rule alone. So two with different unique IDs never have one node ID, and one unique ID never has two
  pub allocatees : HasAllocatees ids rows
  -- the run of the Raft model that the rows show is safe, with every leader that wins in a row and stops in it
  pub safe : AreSafe ids rows
