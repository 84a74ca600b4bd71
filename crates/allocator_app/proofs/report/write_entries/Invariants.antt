use Rattle.std.proofs.Common.{◌≡◌, ◌≤◌, ◌-◌, List, length, take}
use Rattle.std.specs.Io.KnownBytes.{Appends, append_known}
use Rattle.can_frame.specs.declared.entry.Entry.{Entry}
use Rattle.bus_world.specs.World.{StandsFor}
use Rattle.bus_spec.specs.Cluster.{Cluster}
use Rattle.allocator_app.specs.WorldReport.{entry_lines}
use Rattle.allocator_app.specs.Logs.{HasLog}
use Rattle.cmd_io.specs.Output.{Grows}
use Rattle.allocator_app.proofs.report.write_entries.Given as goal

-- the lines of the entries so far were written or wait to be
abbrev pub invariant-entries : goal.invariant-entries
invariant-entries g l =
    let written = g.K.Sink.written in
    let faults = g.K.Sink.faults in
    record {
      within : l.written ≤ l.commit;
      kept : faults l.sink ≡ faults l.fn.sink;
      grew : Grows (written l.fn.sink) (written l.sink);
      told : (w : Cluster) → StandsFor l.fn.world w → (log : List Entry) → HasLog w l.fn.id log → (l.written ≤ length log)
          × Appends (append_known (written l.fn.sink) l.fn.output) (append_known (written l.sink) l.output) (entry_lines 1 (take l.written log));
    }

abbrev pub decreases-entries : goal.decreases-entries
decreases-entries g l = l.commit - l.written
