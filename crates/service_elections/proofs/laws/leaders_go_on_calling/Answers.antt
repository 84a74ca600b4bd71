use Rattle.service_elections.proofs.Calling.{leaders_go_on_calling}
use Rattle.service_elections.proofs.RoundsGrounds.{step_laws}
use Rattle.service_elections.proofs.laws.leaders_go_on_calling.Goals as goal

pub returns : goal.returns
returns c = let below = c.what_rounds_stand_on.ensures in λ ids rows members harmless.
    leaders_go_on_calling ids rows (step_laws below) (record { below = below; members = members; harmless = harmless }) (below.entries ids rows members harmless)
    below.call below.answers_taken
