use Rattle.raft_model.specs.Runs.{initial_world, run}
use Rattle.bus_spec.specs.Cluster.{cluster}
use Rattle.bus_spec.specs.Refinement.{events}
use Rattle.bus_physics.proofs.RoundCalls.{round_late}
use Rattle.bus_physics.proofs.laws.calls_come_round_late.Goals as goal

pub returns : goal.returns
returns c = λ limits ids before now n members enough lawful slow rests.
    round_late c.what_is_said_of_frames.ensures c.what_is_said_of_a_step.ensures.called ids members (λ rows so_far.
    let chosen = c.a_choice_fits.ensures ids rows members (c.lawful_rows_do_no_harm.ensures (cluster ids) rows so_far) in
    record {
      choice = chosen.0;
      run = run (initial_world ids) (events chosen.0 (cluster ids) rows);
      shows = (c.rows_are_shown.ensures chosen.0 ids rows members (c.lawful_rows_do_no_harm.ensures (cluster ids) rows so_far) chosen.1).shows;
    }) limits before now n lawful slow enough rests
