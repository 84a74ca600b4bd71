use Rattle.bus_world.proofs.Seating.{all_empty, empty_alike}
use Rattle.bus_world.proofs.world.World.new.Goals as goal

pub invariant_of-result-clause-alike : goal.invariant_of-result-clause-alike
invariant_of-result-clause-alike g c = empty_alike c.in-Some.seats.items c.in-Some.ensures c.args.aaccept

pub returns-clause-stands : goal.returns-clause-stands
returns-clause-stands g c = record { members = c.in-Ok.ensures.stands; allocatees = all_empty c.in-Some.seats.items c.in-Some.ensures }
