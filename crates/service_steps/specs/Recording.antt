-- What a leader does about nodes that it does not know.
use Rattle.std.specs.Prelude.{◌≡◌, ◌≤◌, ℕ, true, false, max, List}
use Rattle.can_frame.specs.declared.entry.Entry.{Entry}
use Rattle.node_discovery.specs.History.{IsSilent}
use Rattle.node_discovery.specs.Watch.{history}
use Rattle.raft_model.specs.Lists.{In}
use Rattle.raft_model.specs.Moves.{Move}
use Rattle.raft_model.specs.Moves.Move.{ProposeEntry}
use Rattle.alloc_spec.specs.AllocatorState.{AllocatorState, is_known, may_propose}
use Rattle.alloc_spec.specs.Step.{at_moment, step}
use Rattle.alloc_spec.specs.Step.Event.{Tick}
use Rattle.alloc_spec.specs.Tick.{is_candidate}

-- an entry is put into the log that has this node ID or a lower one; so it is no blank
pub record RecordsUpTo (node : ℕ) (moves : List Move) : Type 0 where
  pub entry : Entry
  pub proposed : In (ProposeEntry entry) moves
  pub least : 1 ≤ entry.node
  pub most : entry.node ≤ node

-- a tick of a leader whose log has room, at which a node told its unique ID or is silent, and is not known
abbrev pub RecordsNodes : Type 0
RecordsNodes = (t : AllocatorState) (number now word node : ℕ) → may_propose t ≡ true → 1 ≤ node → node ≤ 125 →
    is_candidate (at_moment now t) node ≡ true → RecordsUpTo node (step t number (Tick now word)).step_state.moves

-- so where it is silent
abbrev pub RecordsSilentNodes : Type 0
RecordsSilentNodes = (t : AllocatorState) (number now word node : ℕ) → may_propose t ≡ true → 1 ≤ node → node ≤ 125 →
    is_known t node ≡ false → IsSilent t.counting (history node t.watch) (max t.now now) →
    RecordsUpTo node (step t number (Tick now word)).step_state.moves
