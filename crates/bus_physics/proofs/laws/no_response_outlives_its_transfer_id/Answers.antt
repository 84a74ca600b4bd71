use Rattle.std.proofs.Common.{◌<◌, arith, refl}
use Rattle.std.specs.Prelude.{[], ◌∷◌, ◌++◌}
use Rattle.bus_spec.specs.Cluster.{cluster, world_of}
use Rattle.bus_spec.specs.Refinement.{transfers_of_rows}
use Rattle.bus_rows.specs.Timed.{rows_in}
use Rattle.bus_physics.specs.Physics.{heard_by, lag}
use Rattle.bus_physics.proofs.Answering.{IsMadeSoon, all_soon}
use Rattle.bus_physics.proofs.Members.{along}
use Rattle.bus_physics.proofs.Now.{laws_of}
use Rattle.can_frame.specs.declared.step.Judged.TheVariants.{Stale}
use Rattle.bus_spec.specs.declared.unlawful.Unlawful.TheVariants as unlawful
use Rattle.bus_physics.proofs.Refusals.{of_stale, refused}
use Rattle.bus_physics.proofs.Torn.{of_its_key}
use Rattle.bus_physics.proofs.Unstale.{not_stale}
use Rattle.bus_physics.proofs.Waiting.{waits_along}
use Rattle.bus_physics.proofs.laws.no_response_outlives_its_transfer_id.Goals as goal

pub returns : goal.returns
returns c = λ limits ids before now n k ms members enough back row lawful comes clock slow orders order rests e.
    let rows = rows_in before in
    let sane : lag limits < 58000 = omega (arith, enough.clock) in
    let waits = c.calls_come_round_late.ensures limits ids before now n members enough lawful slow rests in
    let steps = c.what_is_said_of_a_step.ensures in
    let laws = laws_of steps in
    let answered = c.answers_come_in_order.ensures limits (before ++ now ∷ []) ids rows n k members lawful (refused unlawful.Stale Stale of_stale (world_of ids rows) n k ms e).there orders order in
    let chosen = c.a_choice_fits.ensures ids rows members (c.lawful_rows_do_no_harm.ensures (cluster ids) rows lawful) in
    let shows = (c.rows_are_shown.ensures chosen.0 ids rows members (c.lawful_rows_do_no_harm.ensures (cluster ids) rows lawful) chosen.1).shows in
    let stale = c.what_is_refused.ensures.stale ids rows n k ms members lawful e in
    let stands = along limits (before ++ now ∷ []) laws of_its_key sane n now before [] (cluster ids) [] refl refl
    (λ t up. absurd (cc (up))) clock comes lawful in
    let soon : IsMadeSoon c.what_is_said_of_frames.ensures steps.responses limits (before ++ now ∷ []) stale.response =
    all_soon c.what_is_said_of_frames.ensures steps.responses limits (before ++ now ∷ []) now before [] (cluster ids) [] refl refl
    (λ x i. absurd i) comes stale.response stale.response_made stale.response_kind in
    not_stale limits (before ++ now ∷ []) sane (transfers_of_rows (cluster ids) rows []) shows.holds.transfers.numbered
    (heard_by n (cluster ids) rows) (world_of ids rows) now n k ms waits answered back row stands
    (waits_along steps.called n rows (cluster ids) [] (λ t up. absurd (cc (up))) (λ x i. absurd i)) stale (soon.after, soon.soon)
