use Rattle.service_elections.proofs.LearnsAskers.{askers_learn}
use Rattle.service_elections.proofs.laws.askers_learn.Goals as goal

pub returns : goal.returns
returns c ids rows members harmless group clocks pace start n m front early late timed next other server calm in_n in_m apart asks up nobody long up_then =
    askers_learn ids rows (record { below = c.what_rounds_stand_on.ensures; members = members; harmless = harmless }) group
    clocks pace start n m front early late timed next calm in_n in_m apart asks other server up nobody long up_then
