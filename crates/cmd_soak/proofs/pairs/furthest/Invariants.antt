use Rattle.std.proofs.Common.{◌≡◌}
use Rattle.bus_world.specs.World.{StandsFor}
use Rattle.bus_spec.specs.Cluster.{Cluster}
use Rattle.cmd_soak.specs.Counts.{furthest}
use Rattle.cmd_soak.proofs.pairs.furthest.Given as goal

abbrev pub invariant-loop-place : goal.invariant-loop-place
invariant-loop-place g l = (w : Cluster) → StandsFor l.world w → l.furthest ≡ furthest w l.place
