-- What contracts see of a world, and what it stands for.
use Rattle.std.specs.Prelude.{◌≡◌, ℕ}
use Rattle.bus_spec.specs.Cluster.{Cluster}
use Rattle.bus_world.specs.Members as members
use Rattle.bus_world.specs.Seats.{AreSeatsOf}
use Rattle.bus_world.specs.declared.world.World.{World}

module _ {F G : Type 0} where
  -- how many frames the bus still takes
  abbrev pub frames_left : World F G → ℕ
  frames_left world = members.frames_left world.members

  -- how many it was made for
  abbrev pub frame_room : World F G → ℕ
  frame_room world = members.frame_room world.members

  abbrev pub rows_taken : World F G → ℕ
  rows_taken world = members.rows_taken world.members

  -- the closures that were given to it: of the members, and of the allocatees
  abbrev pub accepts : World F G → F
  accepts world = members.accepts world.members

  abbrev pub allocatees_accept : World F G → G
  allocatees_accept world = world.accept

  -- the members, their bus, and the allocatees
  pub record StandsFor (world : World F G) (c : Cluster) : Type 0 where
    pub members : members.StandsFor world.members c
    pub allocatees : AreSeatsOf world.seats.items c.allocatee

  -- a world was given the closures that another one was given
  pub record AcceptsAs (new old : World F G) : Type 0 where
    pub members : accepts new ≡ accepts old
    pub allocatees : allocatees_accept new ≡ allocatees_accept old
