-- What stands in a log.
use Rattle.std.specs.Prelude.{◌≢◌, ◌⊎◌, ℕ, List}
use Rattle.can_frame.specs.declared.entry.Entry.{Entry}
use Rattle.can_frame.specs.Log.{HasNodeId, HasUid}
use Rattle.can_frame.specs.Zeros.{zeros}

-- the log has the node ID, or a unique ID that is not all zeros
abbrev pub IsTaken : List Entry → List ℕ → ℕ → Type 0
IsTaken log uid node = HasNodeId log node ⊎ ((uid ≢ zeros) × HasUid log uid)

-- the entry by which a leader of a term gives a node ID to a unique ID, or with zeros reserves it
abbrev pub proposal : ℕ → List ℕ → ℕ → Entry
proposal term uid node = record { term = term; uid = uid; node = node }
