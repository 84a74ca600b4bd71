-- Worlds of the code, from one to another.
use Rattle.std.specs.Prelude.{◌≤◌, ◌+◌, ℕ}
use Rattle.bus_world.specs.declared.world.World.{World}
use Rattle.bus_world.specs.World.{StandsFor, frames_left, rows_taken}
use Rattle.bus_spec.specs.Cluster.{Cluster}

module _ {F G : Type 0} where
  -- for whatever cluster the world stood for, it now stands for one that is reached from it
  abbrev pub Reaches : World F G → World F G → (Cluster → Cluster → Type 0) → Type 0
  Reaches before now IsReached = (first : Cluster) → StandsFor before first → (last : Cluster)
      × StandsFor now last × IsReached first last

  -- at most so many rows were taken, and the bus has room for a frame of each of the others
  pub record HasRoom (limit : ℕ) (world : World F G) : Type 0 where
    pub within : rows_taken world ≤ limit
    pub frames : limit ≤ frames_left world + rows_taken world
