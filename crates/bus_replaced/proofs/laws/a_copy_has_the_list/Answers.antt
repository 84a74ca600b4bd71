use Rattle.bus_replaced.proofs.Along.{copy_along}
use Rattle.bus_replaced.proofs.laws.a_copy_has_the_list.Goals as goal

pub returns : goal.returns
returns c = λ choice ids items lost leader members. copy_along c.what_is_said_below.ensures choice ids members items lost leader
