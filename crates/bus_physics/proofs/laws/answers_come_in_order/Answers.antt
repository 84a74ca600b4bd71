use Rattle.raft_model.specs.Runs.{initial_world, run}
use Rattle.bus_spec.specs.Cluster.{cluster}
use Rattle.bus_spec.specs.Refinement.{events}
use Rattle.bus_physics.proofs.Now.{laws_of}
use Rattle.bus_physics.proofs.TurnedAnswers.{come_in_order}
use Rattle.bus_physics.proofs.laws.answers_come_in_order.Goals as goal

pub returns : goal.returns
returns c = λ limits all ids rows n k members lawful there orders order.
    come_in_order c.what_is_said_of_frames.ensures (laws_of c.what_is_said_of_a_step.ensures) c.what_is_said_of_a_step.ensures.responses limits all ids members (λ done so_far.
    let chosen = c.a_choice_fits.ensures ids done members (c.lawful_rows_do_no_harm.ensures (cluster ids) done so_far) in
    record {
      choice = chosen.0;
      run = run (initial_world ids) (events chosen.0 (cluster ids) done);
      shows = (c.rows_are_shown.ensures chosen.0 ids done members (c.lawful_rows_do_no_harm.ensures (cluster ids) done so_far) chosen.1).shows;
    }) rows n k lawful there orders order
