use Rattle.service_steps.proofs.LeadsOn.{leads_on_at_frames, leads_on_at_ticks}
use Rattle.service_steps.proofs.laws.leaders_lead_on.Goals as goal

pub returns : goal.returns
returns c = record { ticks = leads_on_at_ticks; frames = leads_on_at_frames }
