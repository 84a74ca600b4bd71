-- A step as it goes: whole moves, and a stop, which leaves a prefix of the puts of the move in which it falls.
use Rattle.std.specs.Prelude.{⊤, ℕ, List, [], ◌∷◌, ◌++◌, take}
use Rattle.raft_model.specs.Messages.{Message}
use Rattle.raft_model.specs.Server.{RaftServer, put_all, memory_when_down}
use Rattle.raft_model.specs.History.{History}
use Rattle.raft_model.specs.Ledger.{Ledger, ledger_through}
use Rattle.raft_model.specs.Moves.{Move, IsEnabled, puts, memory_after, offers, calls, puts_history, move_history}

-- a server in its step: itself, the model's memory and the ledger, the messages that the step has offered and the
-- peers that it has called
pub record LocalState : Type 0 where
  pub raft_server : RaftServer
  pub history : History
  pub ledger : Ledger
  pub offered : List Message
  pub called : List ℕ

-- after a whole move
abbrev pub state_after_move : List ℕ → ℕ → ℕ → LocalState → Move → LocalState
state_after_move members member step local_state move = record {
  raft_server = record {
    store = put_all local_state.raft_server.store (puts members member local_state.raft_server move);
    memory = memory_after members member step local_state.raft_server move;
  };
  history = move_history members member local_state.raft_server move
      (puts_history member move local_state.raft_server.store (puts members member local_state.raft_server move)
      local_state.history);
  ledger = ledger_through local_state.ledger local_state.raft_server.store
      (puts members member local_state.raft_server move);
  offered = offers member step local_state.raft_server move ++ local_state.offered;
  called = calls move ++ local_state.called;
}

-- after a stop inside a move of which so many first puts are done
abbrev pub state_after_stop_within : List ℕ → ℕ → ℕ → LocalState → Move → LocalState
state_after_stop_within members member count local_state move = record {
  raft_server = record {
    store = put_all local_state.raft_server.store
        (take count (puts members member local_state.raft_server move));
    memory = memory_when_down;
  };
  history = puts_history member move local_state.raft_server.store
      (take count (puts members member local_state.raft_server move)) local_state.history;
  ledger = ledger_through local_state.ledger local_state.raft_server.store
      (take count (puts members member local_state.raft_server move));
  offered = [];
  called = [];
}

-- after a stop between two moves
abbrev pub state_after_stop : LocalState → LocalState
state_after_stop local_state = record {
  raft_server = record { store = local_state.raft_server.store; memory = memory_when_down };
  history = local_state.history;
  ledger = local_state.ledger;
  offered = [];
  called = [];
}

-- after these moves, one after another
abbrev pub state_after_moves : List ℕ → ℕ → ℕ → LocalState → List Move → LocalState
state_after_moves members member step local_state [] = local_state
state_after_moves members member step local_state (move ∷ moves) =
    state_after_moves members member step (state_after_move members member step local_state move) moves

-- each of these moves may come when its turn is there
abbrev pub AllEnabled : List ℕ → ℕ → ℕ → List Message → LocalState → List Move → Type 0
AllEnabled members member step bag local_state [] = ⊤
AllEnabled members member step bag local_state (move ∷ moves) =
    IsEnabled members member bag local_state.called local_state.raft_server move
    × AllEnabled members member step bag (state_after_move members member step local_state move) moves
