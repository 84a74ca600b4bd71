use Rattle.std.proofs.Common.{[]}
use Rattle.bus_agreement.specs.Continues.{Continues}
use Rattle.service_alone.proofs.AfterRows.{after_rows}
use Rattle.service_alone.proofs.laws.rows_are_never_stuck.Goals as goal
use Rattle.bus_spec.specs.Cluster.{cluster, world_of}
use Rattle.bus_spec.specs.Refinement.{events, transfers_of_rows}
use Rattle.raft_model.specs.Runs.{initial_world, run}

pub returns : goal.returns
returns c = λ ids rows members harmless choice group uid node agrees majority place.
    let shown : Continues choice (transfers_of_rows (cluster ids) rows []) (world_of ids rows) (initial_world ids) (events choice (cluster ids) rows)
    = c.rows_are_shown.ensures choice ids rows members harmless agrees in
    after_rows choice (transfers_of_rows (cluster ids) rows []) ids (world_of ids rows)
    (run (initial_world ids) (events choice (cluster ids) rows)) shown.shows
    (c.rows_grow_by_one.ensures.members (cluster ids) rows) members.once
    (c.new_pairs_can_be_told.ensures ids (events choice (cluster ids) rows) shown.lawful) group uid node majority place
