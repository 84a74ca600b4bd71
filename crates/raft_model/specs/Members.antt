-- A server counts over the members that it knows; the Raft model counts over all of them.
use Rattle.std.specs.Prelude.{◌≡◌, ◌≢◌, ⊤, ℕ, Bool, true, false, List, [], ◌∷◌, length}
use Rattle.raft_model.specs.Lists.{In}
use Rattle.raft_model.specs.Server.{RaftServer}
use Rattle.raft_model.specs.Server.Role.{Follower}
use Rattle.raft_model.specs.Moves.{Move, counts}
use Rattle.raft_model.specs.Moves.Move.{TimeOut, TakeVoteAnswer}

-- no node ID stands twice
abbrev pub HasNoneTwice : List ℕ → Type 0
HasNoneTwice [] = ⊤
HasNoneTwice (first ∷ rest) = (In first rest → ⊥) × HasNoneTwice rest

-- the list has all members, in whatever order
pub record IsAll (list members : List ℕ) : Type 0 where
  pub once : HasNoneTwice list
  pub among : (node : ℕ) → In node list → In node members
  pub as_many : length list ≡ length members

-- the move counts votes
abbrev pub counts_votes : RaftServer → Move → Bool
counts_votes server TimeOut = true
counts_votes server (TakeVoteAnswer answer) = counts server answer
counts_votes server move = false

-- the list has all members wherever these moves count over it: the server is a Follower or has all, and who stands
-- for election has all; a Follower that does not stand needs no list
pub record KnowsEnough (list members : List ℕ) (server : RaftServer) (moves : List Move) : Type 0 where
  pub counting : server.memory.role ≢ Follower → IsAll list members
  pub standing : In TimeOut moves → IsAll list members
