use Rattle.std.proofs.Common.{◌+◌, []}
use Rattle.service_device.specs.Dialog.{time_to_be_heard}
use Rattle.service_device.proofs.Served.{is_recorded_by}
use Rattle.service_device.proofs.ServiceFronts.{lists_behind, served_laws}
use Rattle.service_device.proofs.laws.new_devices_are_recorded_in_calm.Goals as goal

pub returns : goal.returns
returns c = let below = c.what_service_stands_on.ensures in
    λ ids rows members harmless group clocks pace start n a term uid preferred log whole under come place lists undisturbed quick long.
    is_recorded_by (served_laws below) ids rows group clocks pace start n term [] whole under
    (lists_behind below ids members rows harmless whole under.harmless n (under.listed n under.member))
    log uid preferred (start + time_to_be_heard pace) place lists
    (c.devices_are_heard_out_in_calm.ensures ids rows members harmless
    group clocks pace start n a term uid preferred log whole under come undisturbed quick long)
