use Rattle.std.proofs.Common.{◌≡◌}
use Rattle.allocatee.specs.Stands.{accepts}
use Rattle.alloc_tests.proofs.device_table.play.Given as goal

abbrev pub invariant-loop-i : goal.invariant-loop-i
invariant-loop-i g l = accepts l.device ≡ accepts l.fn.device
