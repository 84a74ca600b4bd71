-- What goes through a queue in a run of offers and pops.
use Rattle.std.specs.Prelude.{ℕ, nat_eq, List, [], ◌∷◌, ◌++◌, filter, option_to_list}
use Rattle.transfer_tx.specs.Queue.{Queued, left_behind, next_out}

pub data Event : Type 0 where
  -- frames that had room
  Offers : List Queued → Event
  Pops : Event

-- what came out, in order
abbrev pub came_out : List Queued → List Event → List Queued
came_out frames [] = []
came_out frames (Offers more ∷ events) = came_out (frames ++ more) events
came_out frames (Pops ∷ events) = option_to_list (next_out frames) ++ came_out (left_behind frames) events

-- what still waits
abbrev pub still_queued : List Queued → List Event → List Queued
still_queued frames [] = frames
still_queued frames (Offers more ∷ events) = still_queued (frames ++ more) events
still_queued frames (Pops ∷ events) = still_queued (left_behind frames) events

-- what was offered, in order
abbrev pub offered : List Event → List Queued
offered [] = []
offered (Offers more ∷ events) = more ++ offered events
offered (Pops ∷ events) = offered events

-- the frames of one identifier, in their order
abbrev pub of_identifier : ℕ → List Queued → List Queued
of_identifier id frames = filter (λ frame. nat_eq frame.id id) frames
