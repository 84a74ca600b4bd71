use Rattle.std.proofs.Common.{◌≡◌}
use Rattle.std.specs.Io.KnownBytes.{Appends, append_known}
use Rattle.cmd_io.specs.Output.{Grows}
use Rattle.store_audit.specs.Report.{lines_to}
use Rattle.store_audit.specs.Stores.{committed}
use Rattle.store_audit.proofs.lines.write_list.Given as goal

-- the lines of the places so far were written or wait to be
abbrev pub invariant-loop-earlier : goal.invariant-loop-earlier
invariant-loop-earlier g l =
    let written = g.K.Sink.written in
    let faults = g.K.Sink.faults in
    record {
      kept : faults l.sink ≡ faults l.fn.sink;
      grew : Grows (written l.fn.sink) (written l.sink);
      told : Appends (append_known (written l.fn.sink) l.fn.output) (append_known (written l.sink) l.output) (lines_to l.stores (committed l.store) l.earlier);
    }
