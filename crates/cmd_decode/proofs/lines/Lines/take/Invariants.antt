use Rattle.std.proofs.Common.{◌≤◌, length}
use Rattle.cmd_decode.specs.Taking.{TakesSome}
use Rattle.cmd_decode.proofs.lines.Lines.take.Given as goal

abbrev pub invariant-lines : goal.invariant-lines
invariant-lines l = record {
  within : l.self.count ≤ 1000;
  some : TakesSome l.fn.self l.self l.fn.input l.input;
}

abbrev pub decreases-lines : goal.decreases-lines
decreases-lines l = length l.input
