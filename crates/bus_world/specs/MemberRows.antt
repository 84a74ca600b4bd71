-- What a row for the members answers and leaves, for every state that they stand for.
use Rattle.std.specs.Prelude.{◌≡◌, ◌≤◌, ◌+◌, None, Some, length}
use Rattle.bus_rows.specs.declared.row.Row.{Row}
use Rattle.bus_rows.specs.declared.told.Told.{Told}
use Rattle.bus_spec.specs.declared.unlawful.Unlawful.{Unlawful}
use Rattle.bus_spec.specs.Cluster.{Cluster, effect_of}
use Rattle.bus_spec.specs.Lawful.{cause}
use Rattle.bus_spec.specs.Report.{line_of_row as told_by}
use Rattle.bus_rows.specs.ReportLine.{report_line_of}
use Rattle.bus_world.specs.Members.{Holds, StandsFor}
use Rattle.bus_world.specs.declared.members.Members.{Members}

module _ {F : Type 0} where
  -- the row is refused for this cause
  abbrev pub Refuses : Members F → Row → Unlawful → Type 0
  Refuses world row why = (c : Cluster) → StandsFor world c → cause c row ≡ Some why

  -- the row is lawful, and tells this
  abbrev pub Tells : Members F → Row → Told → Type 0
  Tells world row told = (c : Cluster) → StandsFor world c → (cause c row ≡ None)
      × (report_line_of told ≡ told_by c row)

  -- the row leaves this, but for the count of rows
  abbrev pub Leaves : Members F → Members F → Row → Type 0
  Leaves old new row = (c : Cluster) → StandsFor old c → Holds new.members.items new.frames.items (effect_of c row)

  -- all but the members and the bus stays, and the bus has one frame more at most
  pub record Keeps (old new : Members F) : Type 0 where
    pub taken : new.taken ≡ old.taken
    pub room : new.room ≡ old.room
    pub accept : new.accept ≡ old.accept
    pub most : length new.frames.items ≤ length old.frames.items + 1
