-- A move that may come is a lawful step by itself.
use Rattle.std.proofs.Common.{ℕ, List, [], ◌∷◌, ◌++◌, inl, inr}
use Rattle.raft_model.specs.Lists.{In}
use Rattle.raft_model.specs.Moves.{Move, IsEnabled, offers}
use Rattle.raft_model.specs.Runs.{World}
use Rattle.raft_model.specs.Rows.{IsReady, MayTake}

in_front : {A : Type 0} (x : A) (xs : List A) → In x xs → In x (xs ++ [])
in_front x [] i = elim i [ ]
in_front x (y ∷ ys) (inl e) = inl e
in_front x (y ∷ ys) (inr i) = inr (in_front x ys i)

pub takes : (world : World) (member step : ℕ) (move : Move) → IsReady world member step
    → IsEnabled world.members member world.bag [] (world.server member) move → MayTake world member step move
takes world member step move ready comes fitted inside =
    (ready.up, ready.later, (comes, tt), λ message i. in_front message (offers member step (world.server member) move) (inside message i))
