-- The transfers that an allocatee receives: Allocations without a source, which are requests of devices, and those with
-- one, which are answers of allocators.
use Rattle.std.specs.Prelude.{List, [], ◌∷◌}
use Rattle.can_frame.specs.declared.identifier.Kind.TheVariants.{Anonymous, Message}
use Rattle.can_frame.specs.DataTypes.{allocation}
use Rattle.transfer_rx.specs.declared.accept.AcceptRow.{AcceptRow}
use Rattle.transfer_rx.specs.Reassembly.{Setting}

unfoldable pub rows : List AcceptRow
rows = record { kind = Anonymous; number = allocation.number; signature = allocation.signature }
    ∷ record { kind = Message; number = allocation.number; signature = allocation.signature }
    ∷ []

-- the receiver of an allocatee: without a node ID of its own it drops no frame as its own
abbrev pub setting : Setting
setting = record { rows = rows; me = 0; sessions = 8; blocks = 8 }
