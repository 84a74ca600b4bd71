-- When a step may add a leader's blank.
use Rattle.std.specs.Prelude.{◌≡◌, ◌≢◌, ℕ, ◌<◌, ◌≤◌, true, false, List, ◌∷◌, ◌++◌, length}
use Rattle.can_frame.specs.declared.entry.Entry.{Entry}
use Rattle.can_frame.specs.Log.{blank, last_term}
use Rattle.raft_model.specs.Handlers.{server_after_all}
use Rattle.raft_model.specs.Lists.{how_many}
use Rattle.raft_model.specs.Moves.{Move}
use Rattle.raft_model.specs.Moves.Leading.{has_matched}
use Rattle.raft_model.specs.Moves.Move.{ProposeEntry}
use Rattle.raft_model.specs.Server.{RaftServer, quorum}
use Rattle.raft_model.specs.Server.Role.{Leader}
use Rattle.alloc_spec.specs.AllocatorState.{AllocatorState, members_of}
use Rattle.alloc_spec.specs.Step.{Event, step}

-- a quorum of these members, the leader included, has matched the leader's whole log, and its last entry is of an
-- earlier term
pub record IsHeard (members : List ℕ) (me : ℕ) (server : RaftServer) : Type 0 where
  pub earlier : last_term server.store.log < server.store.term
  pub matched : quorum members ≤ how_many (has_matched me server (length server.store.log)) members

-- the server after the first moves of a step
abbrev pub server_behind : AllocatorState → ℕ → List Move → RaftServer
server_behind t number moves = server_after_all (members_of t) t.me number t.raft_server moves

-- a step adds a blank behind some of its moves: the server leads by then, and the blank is of its term. One that waits
-- is heard by then; any other did not lead before the step
pub record AddsBlank (t : AllocatorState) (number : ℕ) (event : Event) (entry : Entry) : Type 0 where
  pub before : List Move
  pub rest : List Move
  pub split : (step t number event).step_state.moves ≡ before ++ ProposeEntry entry ∷ rest
  pub leads : (server_behind t number before).memory.role ≡ Leader
  pub is : entry ≡ blank (server_behind t number before).store.term
  pub heard : t.times.waits ≡ true → IsHeard (members_of t) t.me (server_behind t number before)
  pub won : t.times.waits ≡ false → t.raft_server.memory.role ≢ Leader
