use Rattle.std.proofs.Common.{ℕ, [], ◌∷◌, inl, refl}
use Rattle.bus_agreement.specs.Allocatees.{Holds}
use Rattle.service_alone.specs.Alone.{IsLeft, found}
use Rattle.service_alone.proofs.Leading.{Laws, laws_alone}
use Rattle.service_alone.proofs.Reached.{goes_on}
use Rattle.service_alone.proofs.Served.{ServedLaws, is_served, is_told_again}
use Rattle.service_alone.proofs.laws.who_is_alone_serves_devices.Goals as goal
use Rattle.alloc_spec.specs.ClusterMembers.{AreMembers}
use Rattle.bus_spec.specs.Cluster.{cluster, world_of}

pub returns : goal.returns
returns c =
    let laws : (n : ℕ) → AreMembers (n ∷ []) → Laws (n ∷ []) = laws_alone (record {
      done = λ key_disk puts e. (c.the_disk_by_states.ensures.done key_disk puts e).0;
      found_again = c.the_disk_by_states.ensures.found_again;
      keeps_store = c.an_opening_keeps_the_store.ensures;
    }) c.a_choice_fits.ensures c.rows_are_shown.ensures c.law_every_run.ensures.invariants in
    let served : ServedLaws = record {
      answering = record {
        hearing = record {
          ident_read = c.identifiers_both_ways.ensures.read_again;
          piece_read = c.frames_read_as_their_pieces.ensures;
          cut = c.lengths_of_cuttings.ensures.cut;
          carried = c.frames_carry_what_is_cut.ensures.carried;
          whole = c.delivers_what_comes_whole.ensures;
        };
        read = c.allocations_both_ways.ensures.read_again;
        count = c.frames_by_place.ensures.count;
      };
      blanks = λ log entry blank injective. (c.logs_stay_injective.ensures.blank log entry blank).1 injective;
      requests = c.requests_of_devices_are_requests.ensures;
      choice = c.chosen_is_the_choice.ensures.is;
    } in
    record {
      new = λ n rows members harmless now a uid preferred place few may.
          let w = world_of (n ∷ []) rows in
          let node = members.nodes n (inl refl) in
          goes_on (n ∷ []) rows 33 now 4600 (λ later. (chosen : ℕ) × IsLeft n (found w n).log chosen × Holds later a uid chosen) harmless
          (is_served n a served (laws n members) node.0 node.1 place uid may.whole preferred few now w
          (c.rows_grow_by_one.ensures.members (cluster (n ∷ [])) rows) (record { rows = rows; harmless = harmless; is = refl }) may);
      again = λ n rows members harmless now a uid preferred given place whole few pair room terms.
          let w = world_of (n ∷ []) rows in
          let node = members.nodes n (inl refl) in
          goes_on (n ∷ []) rows 33 now 4600 (λ later. Holds later a uid given) harmless
          (is_told_again n a served (laws n members) node.0 node.1 place uid whole preferred few now w
          (c.rows_grow_by_one.ensures.members (cluster (n ∷ [])) rows) (record { rows = rows; harmless = harmless; is = refl }) given pair room terms);
    }
