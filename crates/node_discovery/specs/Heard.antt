-- The nodes that a status was heard of.
use Rattle.std.specs.Prelude.{ℕ, Bool, false, true, if◌then◌else◌, is_none, is_some, ◌&&◌, List, [], ◌∷◌, ◌++◌, count_by}
use Rattle.node_discovery.specs.declared.node.Node.{Node}
use Rattle.node_discovery.specs.History.{Event, Status, Asked, Taken, last_status}
use Rattle.node_discovery.specs.Watch.{Watched, history}

abbrev pub is_status : Event → Bool
is_status (Status moment) = true
is_status (Asked transfer_id moment) = false
is_status (Taken uid moment) = false

-- the event is the first status of its node
abbrev pub is_first_status : List Watched → Watched → Bool
is_first_status events watched = is_status watched.event && is_none (last_status (history watched.node events))

-- the nodes that a status was heard of, in the order of their first one
abbrev pub heard : List Watched → List ℕ
heard [] = []
heard (watched ∷ events) = if is_first_status events watched then heard events ++ watched.node ∷ [] else heard events

-- ---- what the table of the code keeps of it

abbrev pub was_heard : Node → Bool
was_heard node = is_some node.heard

abbrev pub heard_count : List Node → ℕ
heard_count nodes = count_by was_heard nodes
