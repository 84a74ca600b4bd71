-- A leader and a peer that it calls, one call after another, where each call and each answer comes.
use Rattle.std.specs.Prelude.{◌≡◌, ◌≢◌, ℕ, zero, suc, ◌+◌, ◌-◌, ◌<◌, ◌≤◌, true, List, length}
use Rattle.raft_model.specs.Decisions.{verdict_on}
use Rattle.raft_model.specs.Handlers.{server_after}
use Rattle.raft_model.specs.Invariants.{SoundStore}
use Rattle.raft_model.specs.Log.{Same, term_at}
use Rattle.raft_model.specs.Messages.{Answer, Request}
use Rattle.raft_model.specs.Moves.Appending.{Verdict, is_accepted}
use Rattle.raft_model.specs.Moves.Elections.{with_term}
use Rattle.raft_model.specs.Moves.Leading.{answer_to, append_request}
use Rattle.raft_model.specs.Moves.Move.{CallToAppend, TakeAppendAnswer, TakeAppendRequest}
use Rattle.raft_model.specs.Runs.{InEveryRun, World}
use Rattle.raft_model.specs.Server.{RaftServer}
use Rattle.raft_model.specs.Server.Role.{Leader}

pub record Two : Type 0 where
  pub leader : RaftServer
  pub peer : RaftServer

-- `me` is the leader's node ID, `you` the peer's
module _ (members : List ℕ) (me you : ℕ) where
  -- the place before the peer's next one
  abbrev pub previous_of : Two → ℕ
  previous_of two = two.leader.memory.next you - 1

  -- Each call is of three steps, with the numbers behind `number`: the leader calls, the peer takes the call, and the
  -- leader takes its answer.

  -- the call that the leader owes: with the entry at the peer's next place, where there is one
  abbrev pub call_in : ℕ → Two → Request
  call_in number two = append_request me (number + 1) two.leader.store you (previous_of two) true

  abbrev pub verdict_in : ℕ → Two → Verdict
  verdict_in number two = verdict_on two.peer (call_in number two)

  abbrev pub answer_in : ℕ → Two → Answer
  answer_in number two = answer_to you (number + 2) (with_term two.peer.store (call_in number two).term)
      (call_in number two) (is_accepted (verdict_in number two))

  abbrev pub after_call : ℕ → Two → Two
  after_call number two = record {
    leader = server_after members me (number + 3)
        (server_after members me (number + 1) two.leader (CallToAppend you (previous_of two) true))
        (TakeAppendAnswer (answer_in number two));
    peer = server_after members you (number + 2) two.peer
        (TakeAppendRequest (call_in number two) (verdict_in number two));
  }

  abbrev pub after_calls : ℕ → ℕ → Two → Two
  after_calls zero number two = two
  after_calls (suc count) number two = after_calls count (number + 3) (after_call number two)

  -- What holds of a leader and a member whose term is not above its own: it is the only leader of its term, its log is
  -- sound, logs that have one term at one place agree up to there, and what the member committed, and what it is
  -- known to have, stands in both logs.
  pub record AreJoined (two : Two) : Type 0 where
    pub leads : two.leader.memory.role ≡ Leader
    pub sound : SoundStore two.leader.store
    pub term : two.peer.store.term ≤ two.leader.store.term
    pub alone : two.peer.memory.role ≡ Leader → two.peer.store.term < two.leader.store.term
    pub least : 1 ≤ two.leader.memory.next you
    pub next : two.leader.memory.next you ≤ length two.leader.store.log + 1
    pub agree : (place : ℕ) → place ≤ length two.leader.store.log → place ≤ length two.peer.store.log
        → term_at two.leader.store.log place ≡ term_at two.peer.store.log place
        → Same place two.leader.store.log two.peer.store.log
    pub commit : two.peer.store.commit ≤ length two.peer.store.log
    pub commit_here : two.peer.store.commit ≤ length two.leader.store.log
    pub committed : Same two.peer.store.commit two.leader.store.log two.peer.store.log
    pub within : two.leader.memory.matched you ≤ length two.peer.store.log
    pub matched : Same (two.leader.memory.matched you) two.leader.store.log two.peer.store.log

  -- the leader knows that the peer has all its log, and so it is
  pub record IsCaughtUp (two : Two) : Type 0 where
    pub known : two.leader.memory.matched you ≡ length two.leader.store.log
    pub has : Same (length two.leader.store.log) two.leader.store.log two.peer.store.log

  -- so many calls, at most twice as many as a log has places and one more
  pub record CatchesUp (number : ℕ) (two : Two) : Type 0 where
    pub calls : ℕ
    pub few : calls ≤ two.leader.memory.next you + length two.leader.store.log
    pub done : IsCaughtUp (after_calls calls number two)
    -- the leader still leads, with the same log
    pub leads : (after_calls calls number two).leader.memory.role ≡ Leader
    pub same : (after_calls calls number two).leader.store ≡ two.leader.store

abbrev pub PeersCatchUp : Type 0
PeersCatchUp = (members : List ℕ) (me you number : ℕ) (two : Two) → AreJoined members me you two →
    CatchesUp members me you number two

-- ---- in the worlds of runs

abbrev pub two_of : World → ℕ → ℕ → Two
two_of world me you = record { leader = world.server me; peer = world.server you }

-- at each moment of every run of the Raft model, whatever was lost, repeated or late and wherever members stopped:
-- a leader, and another member whose term is not above its own
abbrev pub PeersCatchUpInRuns : Type 0
PeersCatchUpInRuns = InEveryRun (λ world. (me you : ℕ) → you ≢ me → (world.server me).memory.role ≡ Leader →
    (world.server you).store.term ≤ (world.server me).store.term →
    AreJoined world.members me you (two_of world me you)
    × CatchesUp world.members me you world.steps (two_of world me you))
