use Rattle.service_device.proofs.AskingLaw.{asking_heard}
use Rattle.service_device.proofs.laws.asking_devices_are_heard_out_in_calm.Goals as goal

pub returns : goal.returns
returns c = λ ids rows members harmless.
    asking_heard c.what_service_stands_on.ensures ids members rows harmless (c.who_has_settled_stays_settled.ensures.row ids rows members harmless)
