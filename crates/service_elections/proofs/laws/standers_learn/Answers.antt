use Rattle.service_elections.proofs.LearnsStanders.{stander_learns}
use Rattle.service_elections.proofs.laws.standers_learn.Goals as goal

pub returns : goal.returns
returns c ids rows members harmless = stander_learns ids rows (record { below = c.what_rounds_stand_on.ensures; members = members; harmless = harmless })
    (c.callers_learn.ensures ids rows members harmless) (c.askers_learn.ensures ids rows members harmless)
