-- What a row of a world answers and leaves, for every state that the world stands for.
use Rattle.std.specs.Prelude.{◌≡◌, None, Some}
use Rattle.bus_rows.specs.declared.row.Row.{Row}
use Rattle.bus_rows.specs.declared.told.Told.{Told}
use Rattle.bus_spec.specs.declared.unlawful.Unlawful.{Unlawful}
use Rattle.bus_spec.specs.Cluster.{Cluster, effect_of}
use Rattle.bus_spec.specs.Lawful.{cause}
use Rattle.bus_spec.specs.Report.{line_of_row as told_by}
use Rattle.bus_rows.specs.ReportLine.{report_line_of}
use Rattle.bus_world.specs.MemberRows as members
use Rattle.bus_world.specs.Members.{Holds}
use Rattle.bus_world.specs.Seats.{AreSeatsOf}
use Rattle.bus_world.specs.World.{StandsFor}
use Rattle.bus_world.specs.declared.world.World.{World}

module _ {F G : Type 0} where
  -- the row is refused for this cause
  abbrev pub Refuses : World F G → Row → Unlawful → Type 0
  Refuses world row why = (c : Cluster) → StandsFor world c → cause c row ≡ Some why

  -- the row is lawful, and tells this
  abbrev pub Tells : World F G → Row → Told → Type 0
  Tells world row told = (c : Cluster) → StandsFor world c → (cause c row ≡ None)
      × (report_line_of told ≡ told_by c row)

  -- the row leaves this, but for the count of rows
  abbrev pub Leaves : World F G → World F G → Row → Type 0
  Leaves old new row = (c : Cluster) → StandsFor old c
      → (Holds new.members.members.items new.members.frames.items (effect_of c row))
      × AreSeatsOf new.seats.items (effect_of c row).allocatee

  -- all but the members, the allocatees and the bus stays, and the bus has one frame more at most
  pub record Keeps (old new : World F G) : Type 0 where
    pub members : members.Keeps old.members new.members
    pub accept : new.accept ≡ old.accept
