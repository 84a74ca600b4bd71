use Rattle.std.proofs.Common.{◌≡◌, ◌-◌, length}
use Rattle.cmd_logs.specs.Walking.{SameBytes, WaitsOn}
use Rattle.cmd_logs.proofs.log.read_next.Given as goal

-- no whole line waits, and what waits came from the source
abbrev pub invariant-reading : goal.invariant-reading
invariant-reading g l = record {
  counted : l.taken ≡ l.fn.taken;
  waits : WaitsOn l.fn.form l.fn.limit l.fn.taken l.input;
  same : SameBytes l.fn.input l.input (g.S.Source.left l.fn.source) (g.S.Source.left l.source);
  kept : g.S.Source.faults l.source ≡ g.S.Source.faults l.fn.source;
}

-- each read brings one byte at least
abbrev pub decreases-reading : goal.decreases-reading
decreases-reading g l = 121 - length l.input
