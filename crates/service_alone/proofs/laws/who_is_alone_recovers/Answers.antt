use Rattle.std.proofs.Common.{ℕ, [], ◌∷◌, inl, refl}
use Rattle.service_alone.proofs.CalmPhases.{CalmLaws}
use Rattle.service_alone.proofs.Leading.{Laws, laws_alone}
use Rattle.service_alone.proofs.Recovered.{recovers_for_known, recovers_for_new}
use Rattle.service_alone.proofs.laws.who_is_alone_recovers.Goals as goal
use Rattle.alloc_spec.specs.ClusterMembers.{AreMembers}
use Rattle.bus_spec.specs.Cluster.{cluster}

pub returns : goal.returns
returns c =
    let laws : (n : ℕ) → AreMembers (n ∷ []) → Laws (n ∷ []) = laws_alone (record {
      done = λ key_disk puts e. (c.the_disk_by_states.ensures.done key_disk puts e).0;
      found_again = c.the_disk_by_states.ensures.found_again;
      keeps_store = c.an_opening_keeps_the_store.ensures;
    }) c.a_choice_fits.ensures c.rows_are_shown.ensures c.law_every_run.ensures.invariants in
    let calm : CalmLaws = record {
      hearing = record {
        ident_read = c.identifiers_both_ways.ensures.read_again;
        piece_read = c.frames_read_as_their_pieces.ensures;
        cut = c.lengths_of_cuttings.ensures.cut;
        carried = c.frames_carry_what_is_cut.ensures.carried;
        whole = c.delivers_what_comes_whole.ensures;
      };
      read = c.allocations_both_ways.ensures.read_again;
      count = c.frames_by_place.ensures.count;
      requests = c.requests_of_devices_are_requests.ensures;
    } in
    record {
      new = λ n rows members harmless s.
          let node = members.nodes n (inl refl) in
          recovers_for_new n (laws n members) rows harmless (c.rows_grow_by_one.ensures.members (cluster (n ∷ [])) rows) s
          c.rows_grow_by_one.ensures.members calm node.0 node.1 c.chosen_is_the_choice.ensures.is;
      again = λ n rows members harmless s.
          let node = members.nodes n (inl refl) in
          recovers_for_known n (laws n members) rows harmless (c.rows_grow_by_one.ensures.members (cluster (n ∷ [])) rows) s
          c.rows_grow_by_one.ensures.members calm node.0 node.1;
    }
