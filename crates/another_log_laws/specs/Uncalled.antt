-- That no frame which comes to a member brings it a call of another log.
use Rattle.std.specs.Prelude.{◌≡◌, ℕ, List, ◌∷◌, ◌++◌, None}
use Rattle.bus_rows.specs.declared.row.Row.{Row}
use Rattle.bus_rows.specs.declared.row.Row.TheVariants.{Rx}
use Rattle.alloc_server.specs.AnotherLog.{another_log}
use Rattle.alloc_spec.specs.AllocatorState.{AllocatorState}
use Rattle.bus_spec.specs.Cluster.{receipt_of, world_of}
use Rattle.bus_spec.specs.Members.MemberStatus.{Up}

-- Of a list of rows: whichever row brings a member that runs a frame of the bus, the frame does not complete a call
-- that contradicts what this member has committed by then.
abbrev pub HearNoOtherLog : List ℕ → List Row → Type 0
HearNoOtherLog ids rows = (first rest : List Row) (n k ms : ℕ) (server : AllocatorState)
    → rows ≡ first ++ (Rx n k ms ∷ rest) → ((world_of ids first).member n).status ≡ Up server
    → another_log server (receipt_of (world_of ids first) k ms) ≡ None
