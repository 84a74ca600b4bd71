use Rattle.std.proofs.Common.{◌≡◌, ◌≤◌}
use Rattle.bus_world.specs.World.{StandsFor}
use Rattle.bus_spec.specs.Cluster.{Cluster}
use Rattle.cmd_soak.specs.Counts.{pairs_to}
use Rattle.cmd_soak.proofs.pairs.pairs.Given as goal

abbrev pub invariant-loop-place : goal.invariant-loop-place
invariant-loop-place g l = record {
  few : l.pairs ≤ l.place;
  count : (w : Cluster) → StandsFor l.world w → l.pairs ≡ pairs_to w l.n l.place;
}
