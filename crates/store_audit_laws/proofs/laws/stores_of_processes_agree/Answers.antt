use Rattle.std.proofs.Common.{◌≡◌, [], ◌++◌, ap}
use Rattle.raft_core.specs.StoredPuts.{store_of}
use Rattle.raft_log.specs.Stored.{Stored}
use Rattle.cmd_node_laws.specs.Alike.{Alike, AsRead, Likeness, Whole}
use Rattle.cmd_node_laws.specs.Stands.{world_after}
use Rattle.cmd_node_laws.specs.Traces.{all_rows}
use Rattle.bus_spec.specs.Cluster.{cluster, world_of}
use Rattle.store_audit_laws.proofs.Beginnings.{headline_at_end, stored_agree}
use Rattle.store_audit_laws.proofs.laws.stores_of_processes_agree.Goals as goal

pub returns-clause-agree : goal.returns-clause-agree
returns-clause-agree c = λ ids trace nodes stores place a b members may.
    let rows = all_rows trace (cluster ids) in
    let has = c.traces_do_no_harm.ensures.headline ids trace members may in
    stored_agree c.an_image_stands_for_one_state.ensures.state has.some.0 (world_after ids trace) (world_of ids (rows ++ []))
    (headline_at_end ids rows has.some.0 has has.some.1) (c.traces_do_no_harm.ensures.calm ids trace may) nodes stores place a b

-- what is alike is read as one store
as_read : (likeness : Likeness) (a b : Stored) → Alike likeness a b → store_of a ≡ store_of b
as_read AsRead a b e = e
as_read Whole a b e = ap store_of e

pub returns-clause-killed : goal.returns-clause-killed
returns-clause-killed c = λ likeness image w n found. record { state = found.found; stands = found.stands; same = as_read likeness (w.member n).disk.store found.found found.same }
