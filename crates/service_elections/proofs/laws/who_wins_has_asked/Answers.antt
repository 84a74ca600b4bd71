use Rattle.service_elections.proofs.AsksGrounds.{who_wins}
use Rattle.service_elections.proofs.laws.who_wins_has_asked.Goals as goal

pub returns : goal.returns
returns c = λ ids rows members harmless group clocks pace start n front rest timed server calm in_n leads_not runs leads.
    who_wins c.what_rounds_stand_on.ensures ids members rows harmless group clocks pace start n front rest timed calm in_n leads_not server runs leads
