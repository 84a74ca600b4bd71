-- Which events the table of the code stands for.
use Rattle.std.specs.Prelude.{ℕ, ◌≡◌, ◌<◌, ◌≤◌, List, [], min, slice_index_or}
use Rattle.can_frame.specs.Sizes.{node_ids}
use Rattle.node_discovery.specs.declared.node.Node.{Node}
use Rattle.node_discovery.specs.declared.watch.Watch.{Watch}
use Rattle.node_discovery.specs.Heard.{heard}
use Rattle.node_discovery.specs.History.{Event, last_query, last_status, query_count, since_answer, spell, unanswered, unique_id}
use Rattle.node_discovery.specs.Watch.{HearsDevicesAlone, Watched, history}

-- what the code keeps of a node with these events
pub record Tells (node : Node) (events : List Event) : Type 0 where
  pub heard : node.heard ≡ last_status events
  pub uid : node.uid ≡ unique_id events
  pub pending : node.pending ≡ unanswered (spell events)
  pub asked : node.asked ≡ last_query events
  pub queries : node.queries ≡ min (query_count (spell events)) 255
  pub queries_since_answer : node.queries_since_answer ≡ min (query_count (since_answer events)) 255

-- each node by its place in the table, and the nodes that were heard on the list; a number that has no place has no
-- event, and no status was taken but from 1 to 125
pub record StandsFor (watch : Watch) (events : List Watched) : Type 0 where
  pub nodes : (node : ℕ) (d : Node) → node < node_ids → Tells (slice_index_or watch.nodes node d) (history node events)
  pub others : (node : ℕ) → node_ids ≤ node → history node events ≡ []
  pub strangers : HearsDevicesAlone events
  pub heard : watch.heard.items ≡ heard events
