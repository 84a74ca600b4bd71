-- A member fits what it has stored.
use Rattle.std.specs.Prelude.{◌≡◌, ◌≢◌, ⊤, ℕ, ◌+◌, ◌<◌, ◌≤◌, Option, Some, None, length, slice_index_or}
use Rattle.can_frame.specs.declared.step.Role.TheVariants.{Follower, Leader}
use Rattle.can_frame.specs.Sizes.{node_ids}
use Rattle.raft_log.specs.Stored.{Stored}
use Rattle.raft_core.specs.declared.peer.Asked.{Asked}
use Rattle.raft_core.specs.declared.peer.Asked.TheVariants.{Vote, Append}
use Rattle.raft_core.specs.declared.peer.Waiting.{Waiting}
use Rattle.raft_core.specs.declared.peer.Peer.{Peer}
use Rattle.raft_core.specs.declared.raft.Raft.{Raft}
use Rattle.raft_core.specs.RaftViews.{raft_me, raft_peers, raft_role, raft_told}

-- an append call reaches at most this place
abbrev pub AsksUpTo : ℕ → Asked → Type 0
AsksUpTo last Vote = ⊤
AsksUpTo last (Append place) = place ≤ last

abbrev pub ReachesUpTo : ℕ → Option Waiting → Type 0
ReachesUpTo last None = ⊤
ReachesUpTo last (Some call) = AsksUpTo last call.asked

-- what a Leader keeps of a peer lies within its log
pub record IsWithin (peer : Peer) (last : ℕ) : Type 0 where
  pub least : 1 ≤ peer.next
  pub next : peer.next ≤ last + 1
  pub matched : peer.matched ≤ last
  pub reach : ReachesUpTo last peer.call

pub record Fits (raft : Raft) (state : Stored) : Type 0 where
  pub told : raft_told raft ≤ state.commit
  -- a Candidate or Leader is itself the stored vote
  pub vote : raft_role raft ≢ Follower → state.vote ≡ raft_me raft
  pub peers : raft_role raft ≡ Leader → (node : ℕ) (none : Peer) → node < node_ids →
      IsWithin (slice_index_or (raft_peers raft) node none) (length state.log)
