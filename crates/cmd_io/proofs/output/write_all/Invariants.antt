use Rattle.std.proofs.Common.{◌≡◌, ◌++◌, List, ℕ, length}
use Rattle.std.specs.Io.KnownBytes.{Appends}
use Rattle.cmd_io.proofs.output.write_all.Given as goal

-- the front of the piece that was written, and the rest
abbrev pub invariant-loop-rest : goal.invariant-loop-rest
invariant-loop-rest g l =
    let written = g.K.Sink.written in
    let faults = g.K.Sink.faults in
    record {
      kept : faults l.sink ≡ faults l.fn.sink;
      front : (front : List ℕ) × (l.piece ≡ front ++ l.rest) × Appends (written l.fn.sink) (written l.sink) front;
    }

abbrev pub decreases-loop-rest : goal.decreases-loop-rest
decreases-loop-rest g l = length l.rest
