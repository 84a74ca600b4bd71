use Rattle.std.proofs.Common.{[], ◌++◌}
use Rattle.bus_spec.specs.Cluster.{world_of}
use Rattle.store_audit_laws.proofs.Beginnings.{headline_at_end, left_agree}
use Rattle.store_audit_laws.proofs.laws.stores_of_a_world_agree.Goals as goal

pub returns : goal.returns
returns c = λ ids rows choice nodes stores place a b members harmless fits.
    left_agree c.an_image_stands_for_one_state.ensures.state choice (world_of ids rows) (world_of ids (rows ++ []))
    (headline_at_end ids rows choice (c.the_headline.ensures ids rows members harmless) fits) nodes stores place a b
