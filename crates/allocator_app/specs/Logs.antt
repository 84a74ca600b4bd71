-- The log of a running member.
use Rattle.std.specs.Prelude.{◌≡◌, ℕ, nat_lt, List, ◌++◌, codes, decimal, length, Option, None, Some, if◌then◌else◌}
use Rattle.can_frame.specs.declared.entry.Entry.{Entry}
use Rattle.can_frame.specs.Log.{entry_at}
use Rattle.bus_spec.specs.Cluster.{Cluster}
use Rattle.bus_spec.specs.Report as world

-- the entry at a place of 0 to last
abbrev pub entry_in : List Entry → ℕ → Option Entry
entry_in log place = if nat_lt (length log) place then None else Some (entry_at log place)

-- the member shows the entries of this log
abbrev pub HasLog : Cluster → ℕ → List Entry → Type 0
HasLog w id log = (place : ℕ) → world.entry_of w id place ≡ entry_in log place

-- the line of its commit index
abbrev pub log_head : ℕ → ℕ → List ℕ
log_head n commit = codes "log " ++ decimal n ++ codes " " ++ decimal commit ++ codes "\n"
