use Rattle.service_device.proofs.AllocationsMade.{all_made_sized}
use Rattle.service_device.proofs.RequestsCalm.{are_the_devices, goes_on_telling, wholes_are}
use Rattle.service_device.proofs.RequestsDevice.{comes_telling}
use Rattle.service_device.proofs.RequestsHeard.{all_tell}
use Rattle.service_device.proofs.RequestsTell.{begin_behind, whole_is}
use Rattle.service_device.proofs.laws.requests_are_the_devices.Goals as goal

pub returns : goal.returns
returns c = let below = c.what_service_stands_on.ensures in record {
  joined = λ uid accepted message moment follows whole tells begins.
      (begin_behind uid whole message tells accepted begins moment follows, whole_is uid whole message tells accepted begins moment follows);
  made = λ ids rows members harmless. all_made_sized below ids members rows harmless;
  comes = comes_telling;
  always = λ ids rows members harmless a. all_tell below ids members a rows harmless;
  accepted = λ ids rows members harmless. are_the_devices below ids members rows harmless;
  tells = λ ids rows members harmless. goes_on_telling below ids members rows harmless;
  whole = λ ids rows members harmless. wholes_are below ids members rows harmless;
}
