use Rattle.std.proofs.Common.{ℕ, List, [], ◌∷◌, inl, refl}
use Rattle.bus_rows.specs.declared.row.Row.{Row}
use Rattle.service_alone.proofs.CalmPhases.{CalmLaws}
use Rattle.service_alone.proofs.CalmServed.{serves_known, serves_new}
use Rattle.service_alone.proofs.Reached.{IsShown, laws_say}
use Rattle.service_alone.proofs.laws.who_is_alone_serves_in_time.Goals as goal
use Rattle.alloc_spec.specs.ClusterMembers.{AreMembers}
use Rattle.bus_spec.specs.Cluster.{cluster, world_of}
use Rattle.bus_spec.specs.Lawful.{DoNoHarm}

pub returns : goal.returns
returns c =
    let laws : CalmLaws = record {
      hearing = record {
        ident_read = c.identifiers_both_ways.ensures.read_again;
        piece_read = c.frames_read_as_their_pieces.ensures;
        cut = c.lengths_of_cuttings.ensures.cut;
        carried = c.frames_carry_what_is_cut.ensures.carried;
        whole = c.delivers_what_comes_whole.ensures;
      };
      read = c.allocations_both_ways.ensures.read_again;
      count = c.frames_by_place.ensures.count;
      requests = c.requests_of_devices_are_requests.ensures;
    } in
    let shown : (n : ℕ) (rows : List Row) → AreMembers (n ∷ []) → DoNoHarm (cluster (n ∷ [])) rows → IsShown (world_of (n ∷ []) rows)
    = λ n rows members harmless. laws_say (n ∷ []) (λ list h. c.a_choice_fits.ensures (n ∷ []) list members h)
    (λ choice list h fits. c.rows_are_shown.ensures choice (n ∷ []) list members h fits) c.law_every_run.ensures.invariants
    (world_of (n ∷ []) rows) (record { rows = rows; harmless = harmless; is = refl }) in
    record {
      new = λ n rows members harmless uid log place start clocks rests.
          let node = members.nodes n (inl refl) in
          serves_new laws c.chosen_is_the_choice.ensures.is n node.0 node.1 (world_of (n ∷ []) rows) (shown n rows members harmless)
          (c.rows_grow_by_one.ensures.members (cluster (n ∷ [])) rows) log start clocks rests uid place;
      again = λ n rows members harmless uid log given sixteen pair start clocks rests.
          let node = members.nodes n (inl refl) in
          serves_known laws n node.0 node.1 (world_of (n ∷ []) rows) (shown n rows members harmless)
          (c.rows_grow_by_one.ensures.members (cluster (n ∷ [])) rows) log start clocks rests uid given sixteen pair;
    }
