-- Rows that meet the premises of calm: an allocator that is alone leads, and a device comes and hears a NodeStatus; and
-- rows that meet those of a quiet bus.
use Rattle.std.specs.Prelude.{ℕ, false, List, [], ◌∷◌, replicate}
use Rattle.bus_rows.specs.declared.row.Row.{Row}
use Rattle.bus_rows.specs.declared.row.Row.TheVariants.{AOpen, ARx, ATick, Open, Send, Tick}
use Rattle.bus_rows.specs.Timed.{Timed}
use Rattle.service_alone.specs.Calm.{Clocks, Pace}
use Rattle.bus_spec.specs.Cluster.{Cluster, after_row, world_of}

-- the allocator opens, leads at its tick after its wait, and its NodeStatus goes out
abbrev pub first_rows : List Row
first_rows = Open 1 false 0 0 ∷ Tick 1 2000 0 ∷ Send 1 ∷ []

-- the device's clock is 40 ms ahead
abbrev pub clocks : Clocks
clocks = record { allocator = 0; device = 40 }

abbrev pub pace : Pace
pace = record { period = 60; delay = 10 }

abbrev pub some_uid : List ℕ
some_uid = replicate 16 7

-- the device comes at the moment 2,950
abbrev pub then_world : Cluster
then_world = after_row (world_of (1 ∷ []) first_rows) (AOpen 1 some_uid 0 2990 0)

-- the next NodeStatus goes out and comes to the device, which reads its clock
abbrev pub calm_rows : List Timed
calm_rows = record { at = 3000; row = Tick 1 3000 0 }
    ∷ record { at = 3005; row = Send 1 }
    ∷ record { at = 3009; row = ARx 1 2 3049 0 }
    ∷ record { at = 3010; row = ATick 1 3050 0 }
    ∷ []

-- ---- rows of a quiet bus: an allocator that never ran is opened at the moment 0

abbrev pub quiet_pace : Pace
quiet_pace = record { period = 2000; delay = 10 }

-- the allocator leads at its first tick, and its NodeStatus goes out; it tells another one at its second tick
abbrev pub quiet_rows : List Timed
quiet_rows = record { at = 2000; row = Tick 1 2000 0 }
    ∷ record { at = 2005; row = Send 1 }
    ∷ record { at = 4000; row = Tick 1 4000 0 }
    ∷ record { at = 4008; row = Send 1 }
    ∷ []
