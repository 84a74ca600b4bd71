use Rattle.std.specs.Prelude.{[]}
use Rattle.raft_model.specs.Runs.{initial_world, run}
use Rattle.bus_spec.specs.Cluster.{cluster}
use Rattle.bus_spec.specs.Refinement.{events, transfers_of_rows}
use Rattle.bus_agreement.proofs.FittingChoices.{a_choice}
use Rattle.bus_agreement.proofs.headline.a_choice_fits.Goals as goal

pub returns : goal.returns
returns c = λ ids rows members harmless.
    a_choice ids (λ choice some each fits. (
      transfers_of_rows (cluster ids) some [],
      run (initial_world ids) (events choice (cluster ids) some),
      (c.rows_are_shown.ensures choice ids some members each fits).shows,
    )) rows harmless
