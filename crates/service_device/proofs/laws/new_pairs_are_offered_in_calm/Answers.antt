use Rattle.std.proofs.Common.{◌≡◌, ◌+◌, List, [], ◌++◌, arith}
use Rattle.alloc_spec.specs.AllocatorState.{AllocatorState}
use Rattle.bus_rows.specs.Timed.{Timed, rows_in}
use Rattle.service_calm.specs.Calm.{Member}
use Rattle.service_device.specs.Dialog.{time_to_be_heard}
use Rattle.service_device.specs.Served.{time_to_be_committed}
use Rattle.service_device.proofs.LosesNothing.{log_grows}
use Rattle.service_device.proofs.ServedBehind.{commits_stay}
use Rattle.service_device.proofs.ServedInTime.{is_told_by}
use Rattle.service_device.proofs.ServedPairs.{new_is_committed}
use Rattle.service_device.proofs.ServiceFronts.{fitting_behind, telling_laws}
use Rattle.service_device.proofs.laws.new_pairs_are_offered_in_calm.Goals as goal
use Rattle.bus_spec.specs.Cluster.{after_rows, world_of}
use Rattle.bus_spec.specs.Members.MemberStatus.{Up}

pub returns : goal.returns
returns c = let below = c.what_service_stands_on.ensures in
    λ ids rows members harmless group clocks pace start n a term uid preferred first next log whole under come place lists undisturbed fits followers quick
    long.
    let sane = λ (front rest : List Timed) (t : AllocatorState) (cut : whole ≡ front ++ rest)
    (up : ((after_rows (world_of ids rows) (rows_in front)).member n).status ≡ Up t).
    (fitting_behind below ids members rows harmless whole under.harmless n (under.listed n under.member) front rest t cut up).commit in
    let recorded = c.new_devices_are_recorded_in_calm.ensures ids rows members harmless
    group clocks pace start n a term uid preferred log whole under come place lists undisturbed quick (omega (arith, long)) in
    let laws = below.entries ids rows members harmless in
    let stays = commits_stay below.judged (world_of ids rows) group clocks pace start n whole under.calm (under.running n under.member) sane in
    let committed = new_is_committed ids rows (below.committed ids rows members harmless) (below.return ids rows members harmless)
    (c.leaders_lose_nothing_in_calm.ensures ids rows members harmless) laws
    group clocks pace start n term whole under fits stays quick log (clocks (Member n)) uid first next followers long recorded in
    is_told_by (telling_laws below) ids rows group clocks pace start n term [] whole under
    (log_grows ids rows laws group clocks pace start n term [] whole under fits) sane log
    (clocks (Member n)) uid place.device (start + time_to_be_heard pace) (start + time_to_be_committed pace) recorded committed
