use Rattle.std.proofs.Common.{arith}
use Rattle.service_calm.specs.Calm.{Member}
use Rattle.service_device.proofs.ServedBehind.{commits_stay}
use Rattle.service_device.proofs.ServedPairs.{is_committed_pair}
use Rattle.service_device.proofs.ServiceFronts.{fitting_behind}
use Rattle.service_device.proofs.laws.new_pairs_are_committed_in_calm.Goals as goal
use Rattle.bus_spec.specs.Cluster.{world_of}

pub returns : goal.returns
returns c = let below = c.what_service_stands_on.ensures in
    λ ids rows members harmless group clocks pace start n a term uid preferred first next log whole under come place lists undisturbed fits followers quick
    long.
    let fit = fitting_behind below ids members rows harmless whole under.harmless n (under.listed n under.member) in
    let stays = commits_stay below.judged (world_of ids rows) group clocks pace start n whole under.calm (under.running n under.member)
    (λ front rest t cut up. (fit front rest t cut up).commit) in
    is_committed_pair ids rows (below.committed ids rows members harmless) (below.return ids rows members harmless)
    (c.leaders_lose_nothing_in_calm.ensures ids rows members harmless) (below.entries ids rows members harmless)
    group clocks pace start n term whole under fits stays quick log (clocks (Member n)) uid first next followers long
    (c.new_devices_are_recorded_in_calm.ensures ids rows members harmless
    group clocks pace start n a term uid preferred log whole under come place lists undisturbed quick (omega (arith, long)))
