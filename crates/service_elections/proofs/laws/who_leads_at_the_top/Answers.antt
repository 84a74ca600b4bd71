use Rattle.service_elections.proofs.LeadsTop.{leads_at_the_top}
use Rattle.service_elections.proofs.LeadsBelow.{lead_laws}
use Rattle.service_elections.proofs.laws.who_leads_at_the_top.Goals as goal

pub returns : goal.returns
returns c ids rows members harmless = leads_at_the_top ids rows (lead_laws c.what_rounds_stand_on.ensures ids members rows harmless)
