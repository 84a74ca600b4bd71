use Rattle.service_leader.proofs.EntriesReturn.{calls_return}
use Rattle.service_leader.proofs.laws.calls_return_to_who_leads_on.Goals as goal

pub returns : goal.returns
returns c = λ ids rows members harmless. calls_return ids rows (c.calls_come_back.ensures ids rows members harmless)
