use Rattle.std.proofs.Common.{◌≡◌, ◌++◌, ℕ, List, length, map}
use Rattle.std.specs.Io.KnownBytes.{Appends, append_known}
use Rattle.cmd_io.specs.Output.{Grows}
use Rattle.cmd_node.specs.Report.{joined}
use Rattle.cmd_node.specs.Kept.{kept_line}
use Rattle.cmd_node.proofs.steps.write_steps.Given as goal

-- the lines of the steps before those that are left were written or wait to be
abbrev pub invariant-steps : goal.invariant-steps
invariant-steps g l =
    let written = g.K.Sink.written in
    let faults = g.K.Sink.faults in
    record {
      kept : faults l.sink ≡ faults l.fn.sink;
      grew : Grows (written l.fn.sink) (written l.sink);
      told : (front : List ℕ) × (joined (map kept_line l.fn.ring.items) ≡ front ++ joined (map kept_line l.ring.items))
          × Appends (append_known (written l.fn.sink) l.fn.output) (append_known (written l.sink) l.output) front;
    }

abbrev pub decreases-steps : goal.decreases-steps
decreases-steps g l = length l.ring.items
