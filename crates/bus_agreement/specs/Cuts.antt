-- Where a step that was cut off ends, in the Raft model.
use Rattle.std.specs.Prelude.{◌≡◌, ℕ, ◌+◌, ◌<◌, List, [], ◌∷◌, ◌++◌, length, take}
use Rattle.raft_model.specs.Handlers.{server_after_all, puts_of_all}
use Rattle.raft_model.specs.Moves.{Move, puts}
use Rattle.raft_model.specs.Runs.{Event}
use Rattle.raft_model.specs.Runs.Event.{StopsWithin}
use Rattle.raft_model.specs.Server.{RaftServer, put_all}

-- these events are one: a stop within the move in which so many puts of all the moves end, and one more of them where
-- `more` is 1; what is stored then is what is stored after that many of all the puts
pub record IsOneStop (members : List ℕ) (m number : ℕ) (raft_server : RaftServer) (earlier moves : List Move)
    (done more : ℕ) (events : List Event) : Type 0 where
  pub before : List Move
  pub next : Move
  pub rest : List Move
  pub count : ℕ
  pub split : moves ≡ before ++ (next ∷ rest)
  pub inside : count < length (puts members m (server_after_all members m number raft_server before) next)
  pub one : events ≡ StopsWithin m number (earlier ++ before) next (count + more) ∷ []
  pub stored : put_all raft_server.store (take (done + more) (puts_of_all members m number raft_server moves))
      ≡ put_all (server_after_all members m number raft_server before).store
      (take (count + more) (puts members m (server_after_all members m number raft_server before) next))
