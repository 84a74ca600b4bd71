use Rattle.std.proofs.Common.{◌≡◌, ◌≤◌, ◌-◌}
use Rattle.std.specs.Io.KnownBytes.{Appends, append_known}
use Rattle.bus_world.specs.World.{StandsFor}
use Rattle.bus_spec.specs.Cluster.{Cluster}
use Rattle.allocator_app.specs.WorldReport.{log_lines}
use Rattle.cmd_io.specs.Output.{Grows}
use Rattle.allocator_app.proofs.report.write_logs.Given as goal

-- the logs of the nodes so far were written or wait to be
abbrev pub invariant-ids : goal.invariant-ids
invariant-ids g l =
    let written = g.K.Sink.written in
    let faults = g.K.Sink.faults in
    record {
      least : 1 ≤ l.id;
      most : l.id ≤ 126;
      kept : faults l.sink ≡ faults l.fn.sink;
      grew : Grows (written l.fn.sink) (written l.sink);
      told : (w : Cluster) → StandsFor l.fn.world w →
          Appends (append_known (written l.fn.sink) l.fn.output) (append_known (written l.sink) l.output) (log_lines w 1 (l.id - 1));
    }

abbrev pub decreases-ids : goal.decreases-ids
decreases-ids g l = 126 - l.id
