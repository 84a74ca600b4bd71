use Rattle.std.proofs.Common.{◌≡◌}
use Rattle.alloc_server.specs.Server.{accepts}
use Rattle.alloc_tests.proofs.server_table.play.Given as goal

abbrev pub invariant-loop-i : goal.invariant-loop-i
invariant-loop-i g l = accepts l.server ≡ accepts l.fn.server
