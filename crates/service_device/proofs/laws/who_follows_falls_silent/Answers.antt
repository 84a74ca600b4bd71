use Rattle.service_device.proofs.SilentLaw.{who_follows_is_silent}
use Rattle.service_device.proofs.laws.who_follows_falls_silent.Goals as goal

pub returns : goal.returns
returns c = λ ids rows members harmless. who_follows_is_silent c.what_service_stands_on.ensures ids members rows harmless
