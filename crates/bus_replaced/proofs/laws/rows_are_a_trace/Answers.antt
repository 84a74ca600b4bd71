use Rattle.bus_replaced.proofs.RowsAlone.{agrees_alone, trace_alone, world_alone}
use Rattle.bus_spec.specs.Cluster.{cluster}
use Rattle.bus_replaced.proofs.laws.rows_are_a_trace.Goals as goal

pub returns : goal.returns
returns c = record {
  trace = λ ids rows harmless. trace_alone (cluster ids) rows harmless;
  world = λ ids rows. world_alone (cluster ids) rows;
  agrees = λ choice ids rows fits. agrees_alone choice (cluster ids) rows fits;
}
