use Rattle.bus_spec.specs.Cluster.{cluster}
use Rattle.cmd_node_laws.specs.Traces.{all_rows}
use Rattle.cmd_node_laws.proofs.Final.{same_ids_of, stored_as}
use Rattle.cmd_node_laws.proofs.laws.stores_are_followed.Goals as goal

pub returns : goal.returns
returns c = λ ids trace r members may listed is.
    stored_as ids (all_rows trace (cluster ids)) r (c.traces_do_no_harm.ensures.headline ids trace members may) (same_ids_of ids (all_rows trace (cluster ids))) listed is
