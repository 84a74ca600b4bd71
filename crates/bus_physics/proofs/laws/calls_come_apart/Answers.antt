use Rattle.std.proofs.Common.{ℕ, List, refl, sym, ◌∙◌, subst, inl, inr}
use Rattle.std.specs.Prelude.{[], ◌∷◌, ◌++◌}
use Rattle.raft_model.specs.Lists.{In}
use Rattle.raft_model.specs.Runs.{initial_world, run}
use Rattle.bus_rows.specs.declared.row.Row.{Row}
use Rattle.bus_spec.specs.Cluster.{cluster}
use Rattle.bus_spec.specs.Lawful.{AreLawful}
use Rattle.bus_spec.specs.Refinement.{events}
use Rattle.bus_agreement.proofs.Concatenations.{ids_stay}
use Rattle.bus_rows.specs.Timed.{rows_in}
use Rattle.bus_physics.proofs.Now.{laws_of}
use Rattle.bus_physics.proofs.RoundCalls.{come_apart}
use Rattle.bus_physics.proofs.TurnedAnswers.{ordered}
use Rattle.bus_physics.proofs.Single.{IsShown}
use Rattle.bus_physics.proofs.laws.calls_come_apart.Goals as goal

pub returns : goal.returns
returns c = λ limits ids before now n what members enough lawful slow rests order kind x y i j by what_is what_is_too to to_too id less recent recent_too.
    let shown : (rows : List Row) → AreLawful (cluster ids) rows → IsShown ids rows = λ rows so_far.
    let chosen = c.a_choice_fits.ensures ids rows members (c.lawful_rows_do_no_harm.ensures (cluster ids) rows so_far) in
    record {
      choice = chosen.0;
      run = run (initial_world ids) (events chosen.0 (cluster ids) rows);
      shows = (c.rows_are_shown.ensures chosen.0 ids rows members (c.lawful_rows_do_no_harm.ensures (cluster ids) rows so_far) chosen.1).shows;
    } in
    let caller = subst (λ (l : List ℕ). In x.by l) (ids_stay (cluster ids) (rows_in before)) ((shown (rows_in before) lawful).shows.holds.transfers.makers x i) in
    come_apart c.what_is_said_of_frames.ensures c.what_is_said_of_a_step.ensures.called ids members shown limits before now x.by lawful (slow x.by caller) enough (rests x.by caller) n
    (λ append. ordered c.what_is_said_of_frames.ensures (laws_of c.what_is_said_of_a_step.ensures) c.what_is_said_of_a_step.ensures.responses limits (before ++ now ∷ []) ids members shown
    append n x.by (rows_in before) lawful order)
    x y i j refl (sym by) (what_is ∙ sym what_is_too) to to_too id less (elim kind [ inl e ↦ inl (what_is ∙ e) | inr e ↦ inr (what_is ∙ e) ]) recent
