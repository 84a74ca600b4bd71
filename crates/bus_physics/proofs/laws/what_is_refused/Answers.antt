use Rattle.std.proofs.Common.{sym, subst}
use Rattle.std.specs.Prelude.{[]}
use Rattle.raft_model.specs.Runs.{initial_world, run}
use Rattle.alloc_spec.specs.ClusterMembers.{AreMembers}
use Rattle.bus_spec.specs.Cluster.{cluster, world_of}
use Rattle.bus_spec.specs.Refinement.{events, transfers_of_rows}
use Rattle.bus_agreement.proofs.Concatenations.{ids_stay}
use Rattle.bus_physics.proofs.Rows.{stale_row, torn_row, torn_row_at}
use Rattle.bus_physics.proofs.laws.what_is_refused.Goals as goal

pub returns-clause-torn : goal.returns-clause-torn
returns-clause-torn c = λ ids rows n k ms members lawful e.
    let chosen = c.a_choice_fits.ensures ids rows members (c.lawful_rows_do_no_harm.ensures (cluster ids) rows lawful) in
    torn_row c.what_is_said_of_frames.ensures chosen.0 (transfers_of_rows (cluster ids) rows []) (world_of ids rows)
    (run (initial_world ids) (events chosen.0 (cluster ids) rows)) (subst AreMembers (sym (ids_stay (cluster ids) rows)) members)
    (c.rows_are_shown.ensures chosen.0 ids rows members (c.lawful_rows_do_no_harm.ensures (cluster ids) rows lawful) chosen.1).shows n k ms e

pub returns-clause-torn_at_a_device : goal.returns-clause-torn_at_a_device
returns-clause-torn_at_a_device c = λ ids rows a k ms word members lawful e.
    let chosen = c.a_choice_fits.ensures ids rows members (c.lawful_rows_do_no_harm.ensures (cluster ids) rows lawful) in
    torn_row_at c.what_is_said_of_frames.ensures chosen.0 (transfers_of_rows (cluster ids) rows []) (world_of ids rows)
    (run (initial_world ids) (events chosen.0 (cluster ids) rows)) (subst AreMembers (sym (ids_stay (cluster ids) rows)) members)
    (c.rows_are_shown.ensures chosen.0 ids rows members (c.lawful_rows_do_no_harm.ensures (cluster ids) rows lawful) chosen.1).shows a k ms word e

pub returns-clause-stale : goal.returns-clause-stale
returns-clause-stale c = λ ids rows n k ms members lawful e.
    let chosen = c.a_choice_fits.ensures ids rows members (c.lawful_rows_do_no_harm.ensures (cluster ids) rows lawful) in
    stale_row c.what_is_said_of_frames.ensures chosen.0 (transfers_of_rows (cluster ids) rows []) (world_of ids rows)
    (run (initial_world ids) (events chosen.0 (cluster ids) rows)) (subst AreMembers (sym (ids_stay (cluster ids) rows)) members)
    (c.rows_are_shown.ensures chosen.0 ids rows members (c.lawful_rows_do_no_harm.ensures (cluster ids) rows lawful) chosen.1).shows n k ms e
