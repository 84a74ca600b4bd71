-- The unique IDs that nodes told, and those that a step records.
use Rattle.std.specs.Prelude.{◌≡◌, ℕ, List, length}
use Rattle.can_frame.specs.declared.entry.Entry.{Entry}
use Rattle.node_discovery.specs.History.{Taken}
use Rattle.node_discovery.specs.Watch.{Watched, of_node}
use Rattle.raft_model.specs.Lists.{In}
use Rattle.raft_model.specs.Moves.Move.{ProposeEntry}
use Rattle.alloc_spec.specs.StepState.{StepState}

-- each unique ID that a node told has 16 bytes
abbrev pub HasUids : List Watched → Type 0
HasUids watch = (node : ℕ) (uid : List ℕ) (moment : ℕ) → In (of_node node (Taken uid moment)) watch →
    length uid ≡ 16

-- the unique ID of each entry that a step records has 16 bytes
abbrev pub RecordsUids : StepState → Type 0
RecordsUids step_state = (entry : Entry) → In (ProposeEntry entry) step_state.moves → length entry.uid ≡ 16
