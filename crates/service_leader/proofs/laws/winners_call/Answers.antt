use Rattle.service_leader.proofs.WinnersCall.{winner_calls}
use Rattle.service_leader.proofs.laws.winners_call.Goals as goal

pub returns : goal.returns
returns c = λ ids rows members harmless group clocks pace start n m front rest timed listed running member other calm fit lists leads_not leads.
    winner_calls ids rows (c.what_entries_stand_on.ensures ids rows members harmless) group clocks pace start n m front rest timed listed running member
    other calm fit lists leads_not leads
