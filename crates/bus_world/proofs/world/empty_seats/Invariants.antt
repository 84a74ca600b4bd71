use Rattle.bus_world.specs.Seats.{AreEmpty}
use Rattle.bus_world.proofs.world.empty_seats.Given as goal

abbrev pub invariant-loop-place : goal.invariant-loop-place
invariant-loop-place g l = AreEmpty l.seats.items l.place
