-- What a server's memory is beside what it has stored; every move keeps it.
use Rattle.std.specs.Prelude.{◌≡◌, ◌≢◌, ℕ, ◌+◌, ◌≤◌, length, Option, Some}
use Rattle.raft_model.specs.Messages.{Request, reach}
use Rattle.raft_model.specs.Server.{RaftServer}
use Rattle.raft_model.specs.Server.Role.{Follower, Leader}

-- what a Leader keeps of a peer lies within its log, of which this is the last index
pub record IsWithin (last next matched : ℕ) (pending : Option Request) : Type 0 where
  pub least : 1 ≤ next
  pub most : next ≤ last + 1
  pub acknowledged : matched ≤ last
  pub reached : (request : Request) → pending ≡ Some request → reach request ≤ last

pub record IsFit (member : ℕ) (server : RaftServer) : Type 0 where
  -- told is at most commit
  pub told : server.memory.told ≤ server.store.commit
  -- a Candidate or Leader voted for itself, in a term of at least 1
  pub vote : server.memory.role ≢ Follower → server.store.vote ≡ Some member
  pub term : server.memory.role ≢ Follower → 1 ≤ server.store.term
  pub peers : server.memory.role ≡ Leader → (peer : ℕ)
      → IsWithin (length server.store.log) (server.memory.next peer) (server.memory.matched peer)
      (server.memory.pending peer)
