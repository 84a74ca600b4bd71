use Rattle.std.proofs.Common.{ℕ, List, refl, sym, subst}
use Rattle.std.specs.Prelude.{[], ◌∷◌, ◌++◌}
use Rattle.raft_model.specs.Runs.{initial_world, run}
use Rattle.alloc_spec.specs.ClusterMembers.{AreMembers}
use Rattle.bus_spec.specs.Cluster.{cluster, world_of}
use Rattle.bus_spec.specs.Refinement.{events, transfers_of_rows}
use Rattle.bus_agreement.proofs.Concatenations.{ids_stay}
use Rattle.bus_rows.specs.Timed.{rows_in}
use Rattle.bus_physics.specs.Physics.{heard_by}
use Rattle.bus_physics.proofs.Following.{follow}
use Rattle.bus_physics.proofs.Members.{along}
use Rattle.bus_physics.proofs.Now.{laws_of}
use Rattle.bus_physics.proofs.Single.{IsSingle, single}
use Rattle.bus_physics.proofs.Torn.{of_its_key}
use Rattle.bus_physics.proofs.UntornMembers.{only_gaps}
use Rattle.bus_physics.proofs.laws.a_member_puts_nothing_together_of_two.Goals as goal

pub returns : goal.returns
returns c = λ limits ids before now n k ms members sane back row lawful comes clock order behind apart e.
    let rows = rows_in before in
    let steps = c.what_is_said_of_a_step.ensures in
    let laws = laws_of steps in
    let chosen = c.a_choice_fits.ensures ids rows members (c.lawful_rows_do_no_harm.ensures (cluster ids) rows lawful) in
    let stands = along limits (before ++ now ∷ []) laws of_its_key sane n now before [] (cluster ids) [] refl refl
    (λ t up. absurd (cc (up))) clock comes lawful in
    only_gaps c.what_is_said_of_frames.ensures chosen.0 (transfers_of_rows (cluster ids) rows []) (world_of ids rows)
    (run (initial_world ids) (events chosen.0 (cluster ids) rows)) (subst AreMembers (sym (ids_stay (cluster ids) rows)) members)
    (c.rows_are_shown.ensures chosen.0 ids rows members (c.lawful_rows_do_no_harm.ensures (cluster ids) rows lawful) chosen.1).shows limits (before ++ now ∷ []) sane now n k ms row back stands
    (heard_by n (cluster ids) rows) apart behind
    (λ x there other. c.other_transfers_have_one_frame.ensures ids rows x members lawful there other) (follow limits (before ++ now ∷ []) n laws rows (cluster ids) [] (λ t up. absurd (cc (up))) order)
    (subst (λ (l : List ℕ). IsSingle l (world_of ids rows)) (sym (ids_stay (cluster ids) rows)) (single c.what_is_said_of_frames.ensures ids members
    (λ rows lawful.
    let chosen = c.a_choice_fits.ensures ids rows members (c.lawful_rows_do_no_harm.ensures (cluster ids) rows lawful) in
    record {
      choice = chosen.0;
      run = run (initial_world ids) (events chosen.0 (cluster ids) rows);
      shows = (c.rows_are_shown.ensures chosen.0 ids rows members (c.lawful_rows_do_no_harm.ensures (cluster ids) rows lawful) chosen.1).shows;
    }) rows lawful)) e
