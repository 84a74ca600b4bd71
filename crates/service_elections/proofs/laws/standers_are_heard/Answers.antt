use Rattle.service_elections.proofs.StandingAnewHeard.{standers_are_heard}
use Rattle.service_elections.proofs.laws.standers_are_heard.Goals as goal

pub returns : goal.returns
returns c = λ ids rows members harmless. standers_are_heard ids rows (c.who_stands_is_heard.ensures ids rows members harmless)
