use Rattle.service_elections.proofs.Returns.{calls_return_in_rounds}
use Rattle.service_elections.proofs.RoundsGrounds.{step_laws}
use Rattle.service_elections.proofs.laws.calls_return_in_rounds.Goals as goal

pub returns : goal.returns
returns c = let below = c.what_rounds_stand_on.ensures in λ ids rows members harmless.
    calls_return_in_rounds ids rows (step_laws below) (record { below = below; members = members; harmless = harmless }) (below.entries ids rows members harmless) below.answers_taken
