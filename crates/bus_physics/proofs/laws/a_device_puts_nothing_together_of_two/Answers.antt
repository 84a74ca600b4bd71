use Rattle.std.proofs.Common.{ℕ, List, sym, subst}
use Rattle.std.specs.Prelude.{[], ◌∷◌, ◌++◌}
use Rattle.raft_model.specs.Runs.{initial_world, run}
use Rattle.allocatee.specs.Accepted as device
use Rattle.alloc_spec.specs.ClusterMembers.{AreMembers}
use Rattle.bus_spec.specs.Cluster.{cluster, frame_at, world_of}
use Rattle.bus_spec.specs.Refinement.{events, transfers_of_rows}
use Rattle.bus_agreement.proofs.Concatenations.{ids_stay}
use Rattle.bus_rows.specs.Timed.{rows_in}
use Rattle.bus_physics.specs.Physics.{ComeInOrderToDevice, ComesInOrderToDevice, device_heard_by}
use Rattle.bus_physics.proofs.FollowingDevices.{follow_device}
use Rattle.bus_physics.proofs.Devices.{SessionLaws, along}
use Rattle.bus_physics.proofs.HeardOnBus.{device_heard_on_bus}
use Rattle.bus_physics.proofs.Single.{IsSingle, single}
use Rattle.bus_physics.proofs.Torn.{of_its_key}
use Rattle.bus_physics.proofs.Untorn.{no_torn_row}
use Rattle.bus_physics.proofs.laws.a_device_puts_nothing_together_of_two.Goals as goal

pub returns : goal.returns
returns c = λ limits ids before now a k ms word members sane back row lawful physical slowly e.
    let rows = rows_in before in
    let chosen = c.a_choice_fits.ensures ids rows members (c.lawful_rows_do_no_harm.ensures (cluster ids) rows lawful) in
    let laws : SessionLaws = record { frame = c.sessions_of_a_step.ensures.frame; tick = c.sessions_of_a_step.ensures.tick } in
    no_torn_row c.what_is_said_of_frames.ensures chosen.0 (transfers_of_rows (cluster ids) rows []) (world_of ids rows)
    (run (initial_world ids) (events chosen.0 (cluster ids) rows)) (subst AreMembers (sym (ids_stay (cluster ids) rows)) members)
    (c.rows_are_shown.ensures chosen.0 ids rows members (c.lawful_rows_do_no_harm.ensures (cluster ids) rows lawful) chosen.1).shows limits (before ++ now ∷ []) sane now a k ms word row back
    (device_heard_by a (cluster ids) rows)
    (along limits (before ++ now ∷ []) laws (λ key b is. of_its_key device.setting key b is) sane a now before (cluster ids) [] []
    (λ x is. absurd (cc (is))) physical) (λ f i. device_heard_on_bus a rows (cluster ids) lawful f i)
    (λ x there what. c.an_allocation_has_at_most_three_frames.ensures ids rows x members lawful there what)
    (ComeInOrderToDevice limits (before ++ now ∷ []) a [] (cluster ids) rows
    × ComesInOrderToDevice limits (before ++ now ∷ []) (device_heard_by a (cluster ids) rows) (frame_at (world_of ids rows).frames k)) slowly
    (λ ordered. ordered.1) (λ ordered. follow_device limits (before ++ now ∷ []) a laws rows (cluster ids) [] (λ y is. absurd (cc (is))) ordered.0)
    (subst (λ (l : List ℕ). IsSingle l (world_of ids rows)) (sym (ids_stay (cluster ids) rows)) (single c.what_is_said_of_frames.ensures ids members (λ rows lawful.
    let chosen = c.a_choice_fits.ensures ids rows members (c.lawful_rows_do_no_harm.ensures (cluster ids) rows lawful) in
    record {
      choice = chosen.0;
      run = run (initial_world ids) (events chosen.0 (cluster ids) rows);
      shows = (c.rows_are_shown.ensures chosen.0 ids rows members (c.lawful_rows_do_no_harm.ensures (cluster ids) rows lawful) chosen.1).shows;
    }) rows lawful)) e
