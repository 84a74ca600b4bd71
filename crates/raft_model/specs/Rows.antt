-- That the Raft model is not empty: a step of one move, which `law_rows` says of each row of the table, and what
-- `law_example` comes to.
use Rattle.std.specs.Prelude.{◌≡◌, ℕ, ◌<◌, true, List, [], ◌∷◌, length}
use Rattle.can_frame.specs.Log.{IsPair, IsReservation}
use Rattle.raft_model.specs.Lists.{In}
use Rattle.raft_model.specs.Messages.{Message, Pair}
use Rattle.raft_model.specs.Messages.Message.{Pairs}
use Rattle.raft_model.specs.Server.Role.{Leader}
use Rattle.raft_model.specs.Moves.{Move, offers}
use Rattle.raft_model.specs.Runs.{World, MayOccur}
use Rattle.raft_model.specs.Runs.Event.{Steps}
use Rattle.raft_model.specs.Safety.{given}

-- the member is up, and the step has a number above all before
pub record IsReady (world : World) (member step : ℕ) : Type 0 where
  pub up : (world.server member).memory.up ≡ true
  pub later : world.steps < step

-- a step of this one move is a lawful event, whichever of its messages fit
abbrev pub MayTake : World → ℕ → ℕ → Move → Type 0
MayTake world member step move = (fitted : List Message)
    → ((message : Message) → In message fitted → In message (offers member step (world.server member) move))
    → MayOccur world (Steps member step (move ∷ []) fitted)

-- a pair and a reservation are committed; the leader has told the pair, and has passed the reservation over
pub record IsAtWork (world : World) (leader : ℕ) : Type 0 where
  pub ledger : length world.ledger.entries ≡ 2
  pub pair : IsPair (given world 0)
  pub reservation : IsReservation (given world 1)
  pub leads : (world.server leader).memory.role ≡ Leader
  pub told : Pair
  pub tells : In (Pairs told) world.bag
  pub passed_over : (world.server leader).memory.told ≡ 2
