-- Which server of the Raft model, and which times, a member of the code stands for.
use Rattle.std.specs.Prelude.{◌≡◌, ◌≢◌, ⊤, ℕ, ◌<◌, true, false, List, Option, Some, None, slice_index_or}
use Rattle.can_frame.specs.declared.step.Role.{Role}
use Rattle.can_frame.specs.declared.step.Role.TheVariants.{Follower, Candidate, Leader}
use Rattle.can_frame.specs.Sizes.{node_ids}
use Rattle.raft_log.specs.Stored.{Stored}
use Rattle.raft_model.specs.Messages.{Request, reach}
use Rattle.raft_model.specs.Server.{RaftServer, Role as ModelRole}
use Rattle.raft_core.specs.declared.peer.Asked.{Asked}
use Rattle.raft_core.specs.declared.peer.Asked.TheVariants.{Vote, Append}
use Rattle.raft_core.specs.declared.peer.Waiting.{Waiting}
use Rattle.raft_core.specs.declared.peer.Peer.{Peer}
use Rattle.raft_core.specs.declared.raft.Raft.{Raft}
use Rattle.raft_core.specs.RaftViews.{raft_members, raft_peers, raft_role, raft_since, raft_told, raft_waits, raft_word}
use Rattle.raft_core.specs.StoredPuts.{store_of}
use Rattle.raft_core.specs.Times.{Sending, Times}

abbrev pub role_of : Role → ModelRole
role_of Follower = ModelRole.Follower
role_of Candidate = ModelRole.Candidate
role_of Leader = ModelRole.Leader

-- the request asks for this
abbrev pub Asks : Asked → Request → Type 0
Asks Vote request = request.append ≡ false
Asks (Append place) request = (request.append ≡ true) × (reach request ≡ place)

pub record IsWaiting (call : Waiting) (request : Request) (sending : Sending) : Type 0 where
  pub asks : Asks call.asked request
  pub step : request.step ≡ call.step
  pub id : sending.id ≡ call.id
  pub moment : sending.moment ≡ call.sent

-- what waits for an answer: nothing on each side, or the same call
abbrev pub Waits : Option Waiting → Option Request → Option Sending → Type 0
Waits None None None = ⊤
Waits None None (Some sending) = ⊥
Waits None (Some request) sending = ⊥
Waits (Some call) None sending = ⊥
Waits (Some call) (Some request) None = ⊥
Waits (Some call) (Some request) (Some sending) = IsWaiting call request sending

-- what is kept of a peer: votes and answers are a Candidate's, places of the log a Leader's
pub record Tells (peer : Peer) (server : RaftServer) (times : Times) (node : ℕ) : Type 0 where
  pub call : Waits peer.call (server.memory.pending node) (times.sending node)
  pub voted : server.memory.role ≡ ModelRole.Candidate → server.memory.votes node ≡ peer.voted
  pub answered : server.memory.role ≡ ModelRole.Candidate → times.answered node ≡ peer.answered
  pub next : server.memory.role ≡ ModelRole.Leader → server.memory.next node ≡ peer.next
  pub matched : server.memory.role ≡ ModelRole.Leader → server.memory.matched node ≡ peer.matched
  pub appended : server.memory.role ≡ ModelRole.Leader → times.appended node ≡ peer.appended

-- the member with what it has stored; a Candidate or Leader counts these members
pub record StandsFor (raft : Raft) (members : List ℕ) (state : Stored) (server : RaftServer) (times : Times)
    : Type 0 where
  pub store : server.store ≡ store_of state
  pub role : server.memory.role ≡ role_of (raft_role raft)
  pub told : server.memory.told ≡ raft_told raft
  pub known : raft_role raft ≢ Follower → raft_members raft ≡ members
  pub since : times.since ≡ raft_since raft
  pub word : times.word ≡ raft_word raft
  pub waits : times.waits ≡ raft_waits raft
  pub peers : (node : ℕ) (none : Peer) → node < node_ids →
      Tells (slice_index_or (raft_peers raft) node none) server times node
