use Rattle.service_elections.proofs.LearnsCallers.{callers_learn}
use Rattle.service_elections.proofs.laws.callers_learn.Goals as goal

pub returns : goal.returns
returns c ids rows members harmless group clocks pace start n m front early late timed next other server calm in_n in_m apart calls up nobody long up_then =
    callers_learn ids rows (record { below = c.what_rounds_stand_on.ensures; members = members; harmless = harmless }) group
    clocks pace start n m front early late timed next calm in_n in_m apart calls other server up nobody long up_then
