-- The calls that a member owes its peers.
use Rattle.std.specs.Prelude.{◌≡◌, ⊤, ℕ, ◌-◌, ◌<◌, ◌||◌, true, IfSome, if◌then◌else◌, nat_le, List, Option, Some, None, length}
use Rattle.dsdl_codec.specs.declared.append_request.AppendRequest.{AppendRequest}
use Rattle.dsdl_codec.specs.declared.vote_request.VoteRequest.{VoteRequest}
use Rattle.raft_model.specs.Messages.{Request}
use Rattle.raft_model.specs.Moves.{Move}
use Rattle.raft_model.specs.Moves.Leading.{append_request, vote_request}
use Rattle.raft_model.specs.Moves.Move.{CallForVote, CallToAppend}
use Rattle.raft_model.specs.Server.{RaftServer, Role}
use Rattle.raft_model.specs.Server.Role.{Follower, Candidate, Leader}
use Rattle.raft_log.specs.Stored.{Stored}
use Rattle.raft_core.specs.declared.calls.Call.{Call}
use Rattle.raft_core.specs.declared.calls.Call.TheVariants.{Vote, Append}
use Rattle.raft_core.specs.declared.calls.Pending.{Pending}
use Rattle.raft_core.specs.declared.raft.Raft.{Raft}
use Rattle.raft_core.specs.RaftViews.{raft_me}
use Rattle.raft_core.specs.Stands.{StandsFor}
use Rattle.raft_core.specs.Times.{Sending, Times, is_silent}

-- a Candidate calls each peer that has not answered in this term; a Leader one that it has something new
-- for, or that it was silent to
abbrev pub due : Role → RaftServer → Times → ℕ → ℕ → Option Move
due Follower server times node now = None
due Candidate server times node now = if times.answered node then None else Some (CallForVote node)
due Leader server times node now =
    if nat_le (server.memory.next node) (length server.store.log) || is_silent (times.appended node) now
    then Some (CallToAppend node (server.memory.next node - 1) true) else None

-- none while a call is pending to the peer
abbrev pub due_unless : Option Request → Option Move → Option Move
due_unless None move = move
due_unless (Some request) move = None

abbrev pub owed : RaftServer → Times → ℕ → ℕ → Option Move
owed server times node now = due_unless (server.memory.pending node) (due server.memory.role server times node now)

-- what a call says is the request that the move sends
pub record SaysVote (request : VoteRequest) (sent : Request) : Type 0 where
  pub term : request.term ≡ sent.term
  pub last_term : request.last_term ≡ sent.previous_term
  pub last : request.last_index ≡ sent.previous

pub record SaysAppend (request : AppendRequest) (sent : Request) : Type 0 where
  pub term : request.term ≡ sent.term
  pub previous_term : request.prev_term ≡ sent.previous_term
  pub previous : request.prev_index ≡ sent.previous
  pub commit : request.commit ≡ sent.commit
  pub entry : request.entry ≡ sent.entry

abbrev pub Says : ℕ → ℕ → RaftServer → ℕ → Call → Move → Type 0
Says member step server node (Vote request) move = (move ≡ CallForVote node)
    × SaysVote request (vote_request member step server.store node)
Says member step server node (Append request) move = (previous : ℕ) × (move ≡ CallToAppend node previous true)
    × SaysAppend request (append_request member step server.store node previous true)

-- the member owes the peer this call
abbrev pub Owes : Raft → Stored → ℕ → ℕ → Call → Type 0
Owes raft state node now call = (members : List ℕ) (step : ℕ) (server : RaftServer) (times : Times) →
    StandsFor raft members state server times →
    (move : Move) × (owed server times node now ≡ Some move) × Says (raft_me raft) step server node call move

-- and it owes it none
abbrev pub OwesNone : Raft → Stored → ℕ → ℕ → Type 0
OwesNone raft state node now = (members : List ℕ) (server : RaftServer) (times : Times) →
    StandsFor raft members state server times → owed server times node now ≡ None

-- what is told of a pending call: its service, 31 for votes and 30 for appends, its transfer ID, its step and its
-- moment
pub record IsPending (pending : Pending) (request : Request) (sending : Sending) : Type 0 where
  pub service : pending.service ≡ (if request.append then 30 else 31)
  pub id : pending.id ≡ sending.id
  pub step : pending.step ≡ request.step
  pub sent : pending.sent ≡ sending.moment

-- what a call carries can be written: the node ID of its entry has seven bits
abbrev pub IsWritable : Call → Type 0
IsWritable (Vote request) = ⊤
IsWritable (Append request) = IfSome request.entry (λ entry. entry.node < 128)
