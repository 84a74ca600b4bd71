-- The devices that a leader has to do with.
use Rattle.std.specs.Prelude.{ℕ, Bool, not, ◌&&◌}
use Rattle.node_discovery.specs.History.{is_online}
use Rattle.node_discovery.specs.Watch.{history}
use Rattle.alloc_spec.specs.AllocatorState.{AllocatorState, is_known}

-- a node that is online and not known
abbrev pub is_stranger : AllocatorState → ℕ → Bool
is_stranger t node = is_online (history node t.watch) t.now && not (is_known t node)
