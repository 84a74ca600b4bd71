-- The plain server after moves, their puts and the messages that they offer: a step without the model's memory.
use Rattle.std.specs.Prelude.{◌≡◌, ℕ, ◌+◌, ◌<◌, ◌≤◌, List, [], ◌∷◌, ◌++◌, length, take}
use Rattle.raft_model.specs.Messages.{Message}
use Rattle.raft_model.specs.Server.{RaftServer, Put, put_all}
use Rattle.raft_model.specs.Moves.{Move, puts, memory_after, offers, calls}

-- the server after one move, and after these
abbrev pub server_after : List ℕ → ℕ → ℕ → RaftServer → Move → RaftServer
server_after members member step server move = record {
  store = put_all server.store (puts members member server move);
  memory =
      memory_after members member step server move;
}

abbrev pub server_after_all : List ℕ → ℕ → ℕ → RaftServer → List Move → RaftServer
server_after_all members member step server [] = server
server_after_all members member step server (move ∷ moves) = server_after_all members member step
    (server_after members member step server move) moves

-- all their puts, in order
abbrev pub puts_of_all : List ℕ → ℕ → ℕ → RaftServer → List Move → List Put
puts_of_all members member step server [] = []
puts_of_all members member step server (move ∷ moves) = puts members member server move
    ++ puts_of_all members member step (server_after members member step server move) moves

-- the messages that they offer, the latest first
abbrev pub offers_of_all : List ℕ → ℕ → ℕ → RaftServer → List Move → List Message
offers_of_all members member step server [] = []
offers_of_all members member step server (move ∷ moves) = offers_of_all members member step
    (server_after members member step server move) moves
    ++ offers member step server move

-- the peers that they call, the latest first
abbrev pub calls_of_all : List Move → List ℕ
calls_of_all [] = []
calls_of_all (move ∷ moves) = calls_of_all moves ++ calls move

-- where so many puts of a step end: behind all puts of the moves before one of them, and so many of that one's, at
-- most all
pub record IsCut (members : List ℕ) (member step : ℕ) (server : RaftServer) (moves : List Move)
    (count : ℕ) : Type 0 where
  pub before : List Move
  pub next : Move
  pub rest : List Move
  pub within : ℕ
  pub split : moves ≡ before ++ (next ∷ rest)
  pub inside : within ≤ length (puts members member (server_after_all members member step server before) next)
  pub done : take count (puts_of_all members member step server moves)
      ≡ puts_of_all members member step server before
      ++ take within (puts members member (server_after_all members member step server before) next)

-- where the put stands that failed after so many others: in one of the moves, behind so many puts of it; whether it
-- is found undone or done, the puts that are done end within this move
pub record IsBreak (members : List ℕ) (member step : ℕ) (server : RaftServer) (moves : List Move)
    (done : ℕ) : Type 0 where
  pub before : List Move
  pub next : Move
  pub rest : List Move
  pub within : ℕ
  pub split : moves ≡ before ++ (next ∷ rest)
  pub inside : within < length (puts members member (server_after_all members member step server before) next)
  pub ends : (more : ℕ) → more ≤ 1
      → take (done + more) (puts_of_all members member step server moves)
      ≡ puts_of_all members member step server before
      ++ take (within + more) (puts members member (server_after_all members member step server before) next)
