-- What a leader is to tell next.
use Rattle.std.specs.Prelude.{◌≡◌, ◌≢◌, ◌⊎◌, ⊤, ℕ, ◌+◌, ◌≤◌, Bool, [], ◌∷◌, if◌then◌else◌}
use Rattle.can_frame.specs.Zeros.{zeros}
use Rattle.raft_log.specs.Stored.{Stored}
use Rattle.raft_model.specs.Duty.{tell_phase}
use Rattle.raft_model.specs.Moves.{Move}
use Rattle.raft_model.specs.Moves.Leading.{pair_at}
use Rattle.raft_model.specs.Moves.Move.{TellNothing, TellPair}
use Rattle.raft_model.specs.Server.{RaftServer}
use Rattle.raft_core.specs.declared.raft.Raft.{Raft}
use Rattle.raft_core.specs.declared.tell.Telling.{Telling}
use Rattle.raft_core.specs.declared.tell.Telling.TheVariants.{Nothing, Skip, Pair}
use Rattle.raft_core.specs.RaftViews.{raft_told}

-- what it tells, where it has room for a pair or not: nothing; a place without a unique ID, which is passed over; or
-- the pair of the place
abbrev pub IsToTell : RaftServer → Telling → Type 0
IsToTell server Nothing = (room : Bool) → tell_phase room server ≡ []
IsToTell server (Skip place) = (place ≡ server.memory.told + 1)
    × ((room : Bool) → tell_phase room server ≡ TellNothing ∷ [])
IsToTell server (Pair place uid node) = (place ≡ server.memory.told + 1)
    × ((room : Bool) → tell_phase room server ≡ (if room then TellPair ∷ [] else [])) ×
    ((member step : ℕ) → ((pair_at member step server.store server.memory.told).uid ≡ uid)
    × ((pair_at member step server.store server.memory.told).node ≡ node))

-- the place after the last that was told, which is committed
pub record IsNext (raft : Raft) (state : Stored) (place : ℕ) : Type 0 where
  pub next : place ≡ raft_told raft + 1
  pub committed : place ≤ state.commit

-- what it tells lies there, and a pair has a unique ID
abbrev pub TellsNext : Raft → Stored → Telling → Type 0
TellsNext raft state Nothing = ⊤
TellsNext raft state (Skip place) = IsNext raft state place
TellsNext raft state (Pair place uid node) = IsNext raft state place × (uid ≢ zeros)

-- the moves that tell it
abbrev pub IsTelling : Move → Type 0
IsTelling move = (move ≡ TellNothing) ⊎ (move ≡ TellPair)
