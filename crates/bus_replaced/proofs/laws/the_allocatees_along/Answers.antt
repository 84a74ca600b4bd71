use Rattle.bus_replaced.proofs.Along.{allocatees_along}
use Rattle.bus_replaced.proofs.laws.the_allocatees_along.Goals as goal

pub returns : goal.returns
returns c = allocatees_along c.what_is_said_below.ensures
