-- A candidate with votes, which wins with those of a quorum.
use Rattle.std.proofs.Common.{◌≡◌, ℕ, Bool, true, false, List}
use Rattle.std.specs.Prelude.{if◌then◌else◌}
use Rattle.raft_log.specs.Stored.{Stored}
use Rattle.raft_model.specs.Moves.Elections.{has_quorum, win_memory}
use Rattle.raft_model.specs.Server.{RaftServer}
use Rattle.raft_core.specs.declared.raft.Raft.{Raft}
use Rattle.raft_core.specs.Stands.{StandsFor}
use Rattle.raft_core.specs.Times.{Times, win}

module _ (members : List ℕ) (p : RaftServer) (t : Times) (votes : ℕ → Bool) (state : Stored) (raft2 : Raft) where
  abbrev pub CountsVotes : Type 0
  CountsVotes = StandsFor raft2 members state
      (record p { memory = if has_quorum members votes then win_memory p.store (record p.memory { votes = votes }) else record p.memory { votes = votes } })
      (if has_quorum members votes then win t else t)

  pub won_counted : has_quorum members votes ≡ true → StandsFor raft2 members state (record p { memory = win_memory p.store (record p.memory { votes = votes }) }) (win t) → CountsVotes
  won_counted quorum st = rw quorum st

  pub not_won : has_quorum members votes ≡ false → StandsFor raft2 members state (record p { memory = record p.memory { votes = votes } }) t → CountsVotes
  not_won quorum st = rw quorum st
