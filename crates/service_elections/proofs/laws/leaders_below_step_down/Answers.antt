use Rattle.service_elections.proofs.NobodyBelow.{leaders_below_step_down}
use Rattle.service_elections.proofs.RoundsGrounds.{its_me, step_laws}
use Rattle.service_elections.proofs.laws.leaders_below_step_down.Goals as goal

pub returns : goal.returns
returns c = let below = c.what_rounds_stand_on.ensures in λ ids rows members harmless.
    leaders_below_step_down ids rows (step_laws below) (its_me below ids members rows harmless) below.call below.wins.stay
    (c.callers_learn.ensures ids rows members harmless)
