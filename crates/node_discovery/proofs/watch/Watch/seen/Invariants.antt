use Rattle.std.proofs.Common.{◌≡◌, ◌<◌, ℕ, List, false, length, slice_index_or}
use Rattle.node_discovery.specs.History.{is_online}
use Rattle.node_discovery.specs.Watch.{Watched, history}
use Rattle.node_discovery.specs.Stands.{StandsFor}
use Rattle.node_discovery.proofs.watch.Watch.seen.Given as goal

-- the nodes so far are told
abbrev pub invariant-loop-node : goal.invariant-loop-node
invariant-loop-node l = record {
  size : length l.seen ≡ 128;
  told : (events : List Watched) → StandsFor l.self events → (n : ℕ) → n < l.node → slice_index_or l.seen n false ≡ is_online (history n events) l.now;
}
