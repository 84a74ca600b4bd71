use Rattle.std.proofs.Common.{◌≡◌, ◌<◌, ℕ, List, false}
use Rattle.node_discovery.specs.Watch.{Watched, is_due}
use Rattle.node_discovery.specs.Stands.{StandsFor}
use Rattle.node_discovery.proofs.watch.Watch.next_query.Given as goal

-- no node so far is due
abbrev pub invariant-loop-node : goal.invariant-loop-node
invariant-loop-node l = (events : List Watched) → StandsFor l.self events → (n : ℕ) → n < l.node → is_due events l.known n l.now ≡ false
