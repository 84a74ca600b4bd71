use Rattle.std.proofs.Common.{ℕ, [], ◌∷◌}
use Rattle.service_alone.proofs.Leading.{Laws, laws_alone}
use Rattle.service_alone.proofs.Recovered.{comes_to_rest_soon, gets_ready, settles_in_time, starts_lawfully, stops_at_once}
use Rattle.service_alone.proofs.laws.who_is_alone_rests_in_time.Goals as goal
use Rattle.alloc_spec.specs.ClusterMembers.{AreMembers}
use Rattle.bus_spec.specs.Cluster.{cluster, world_of}

pub returns : goal.returns
returns c =
    let laws : (n : ℕ) → AreMembers (n ∷ []) → Laws (n ∷ []) = laws_alone (record {
      done = λ key_disk puts e. (c.the_disk_by_states.ensures.done key_disk puts e).0;
      found_again = c.the_disk_by_states.ensures.found_again;
      keeps_store = c.an_opening_keeps_the_store.ensures;
    }) c.a_choice_fits.ensures c.rows_are_shown.ensures c.law_every_run.ensures.invariants in
    record {
      stops = λ n rows members harmless pattern runs. stops_at_once n (world_of (n ∷ []) rows) (c.rows_grow_by_one.ensures.members (cluster (n ∷ [])) rows) pattern runs;
      lawful = λ n rows members harmless s. starts_lawfully n (laws n members) rows harmless (c.rows_grow_by_one.ensures.members (cluster (n ∷ [])) rows) s;
      settled = λ n rows members harmless s. settles_in_time n (laws n members) rows harmless (c.rows_grow_by_one.ensures.members (cluster (n ∷ [])) rows) s;
      ready = λ n rows members harmless s. gets_ready n (laws n members) rows harmless (c.rows_grow_by_one.ensures.members (cluster (n ∷ [])) rows) s;
      soon = λ n rows members harmless s. comes_to_rest_soon n (laws n members) rows harmless (c.rows_grow_by_one.ensures.members (cluster (n ∷ [])) rows) s;
    }
