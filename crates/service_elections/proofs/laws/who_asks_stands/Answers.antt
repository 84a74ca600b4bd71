use Rattle.service_elections.proofs.AsksGrounds.{who_stands}
use Rattle.service_elections.proofs.laws.who_asks_stands.Goals as goal

pub returns : goal.returns
returns c = λ ids rows members harmless group clocks pace start n m front rest timed calm in_n in_m late asks.
    who_stands c.what_rounds_stand_on.ensures ids members rows harmless group clocks pace start n front rest timed calm in_n m in_m late asks
