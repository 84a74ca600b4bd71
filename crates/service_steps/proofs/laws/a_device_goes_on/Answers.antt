use Rattle.service_steps.proofs.Devices.{begins, follows_up, holds, waits}
use Rattle.service_steps.proofs.laws.a_device_goes_on.Goals as goal

pub returns : goal.returns
returns c = record { first = begins; waits = waits; follows_up = follows_up; holds = holds }
