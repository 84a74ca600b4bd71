use Rattle.std.proofs.Common.{[], ◌∷◌, refl}
use Rattle.service_alone.specs.Alone.{IsBackWith, found}
use Rattle.service_alone.proofs.Leading.{Laws, comes_back, laws_alone}
use Rattle.service_alone.proofs.Reached.{goes_on}
use Rattle.service_alone.proofs.laws.who_is_alone_leads.Goals as goal
use Rattle.bus_spec.specs.Cluster.{cluster, world_of}

pub returns : goal.returns
returns c = λ n rows members harmless now room terms.
    let ids = n ∷ [] in
    let laws : Laws ids = laws_alone (record {
      done = λ key_disk puts e. (c.the_disk_by_states.ensures.done key_disk puts e).0;
      found_again = c.the_disk_by_states.ensures.found_again;
      keeps_store = c.an_opening_keeps_the_store.ensures;
    }) c.a_choice_fits.ensures c.rows_are_shown.ensures c.law_every_run.ensures.invariants n members in
    goes_on ids rows 7 now 4000 (IsBackWith n (found (world_of ids rows) n).log) harmless
    (comes_back n 1 laws now (world_of ids rows) (c.rows_grow_by_one.ensures.members (cluster ids) rows)
    (record { rows = rows; harmless = harmless; is = refl }) room terms)
