use Rattle.std.specs.Prelude.{[]}
use Rattle.bus_spec.specs.Cluster.{cluster}
use Rattle.bus_spec.specs.Refinement.{transfers_of_rows}
use Rattle.bus_physics.proofs.ShortAllocations.{few_frames, made_short}
use Rattle.bus_physics.proofs.laws.an_allocation_has_at_most_three_frames.Goals as goal

pub returns : goal.returns
returns c = λ ids rows x members lawful there what.
    few_frames (transfers_of_rows (cluster ids) rows []) (made_short ids members (λ done so_far.
    let harmless = c.lawful_rows_do_no_harm.ensures (cluster ids) done so_far in
    let chosen = c.a_choice_fits.ensures ids done members harmless in
    (chosen.0, c.rows_are_shown.ensures chosen.0 ids done members harmless chosen.1)) rows lawful) x there what
