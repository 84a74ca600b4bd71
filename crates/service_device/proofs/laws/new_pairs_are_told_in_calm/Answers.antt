use Rattle.std.proofs.Common.{◌+◌, arith}
use Rattle.service_device.specs.Dialog.{time_to_be_heard}
use Rattle.service_device.specs.Served.{time_to_be_committed}
use Rattle.service_device.proofs.ServedToldLaw.{settles_with_pair}
use Rattle.service_device.proofs.ServiceFronts.{fitting_behind}
use Rattle.service_device.proofs.laws.new_pairs_are_told_in_calm.Goals as goal

pub returns : goal.returns
returns c = let below = c.what_service_stands_on.ensures in
    λ ids rows members harmless group clocks pace start n a term uid preferred first next log whole under come place lists undisturbed fits room space
    followers quick long.
    let stays = c.a_leaders_log_stays.ensures in
    let recorded = c.new_devices_are_recorded_in_calm.ensures ids rows members harmless
    group clocks pace start n a term uid preferred log whole under come place lists undisturbed quick (omega (arith, long)) in
    let committed = c.new_pairs_are_committed_in_calm.ensures ids rows members harmless
    group clocks pace start n a term uid preferred first next log whole under come place lists undisturbed fits followers quick long in
    settles_with_pair ids rows (stays.row ids rows members harmless) (stays.uncommitted ids rows members harmless) stays.leads stays.settles
    (c.leaders_lose_nothing_in_calm.ensures ids rows members harmless) below.judged below.tell group clocks pace start n term whole under fits
    (λ front rest t cut up. (fitting_behind below ids members rows harmless whole under.harmless n (under.listed n under.member) front rest t cut up).told)
    room log uid space come.settled (start + time_to_be_heard pace) recorded first next followers
    (start + time_to_be_committed pace) committed.node committed.committed
