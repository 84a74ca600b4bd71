use Rattle.std.specs.Prelude.{◌+◌}
use Rattle.bus_agreement.proofs.StopsAndOpenings.{failed_stop_shown, may_stop, stop_shown}
use Rattle.bus_agreement.proofs.StillWritable.{stopped_written}
use Rattle.bus_agreement.proofs.rows.stops_are_shown.Goals as goal

pub returns : goal.returns
returns c = record {
  running = λ choice made w run shows written n pattern listed t runs. (
    may_stop choice made w run shows n pattern listed t runs,
    stopped_written w.ids run n (w.rows + 1) written,
    stop_shown choice made w run shows n pattern listed t runs,
  );
  failed = λ choice made w run shows n pattern listed failure runs fits. failed_stop_shown choice made w run shows n pattern listed failure runs fits;
}
