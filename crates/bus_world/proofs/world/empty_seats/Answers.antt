use Rattle.bus_world.proofs.Seating.{one_more}
use Rattle.bus_world.proofs.world.empty_seats.Goals as goal

pub loop-place-preserved : goal.loop-place-preserved
loop-place-preserved g c =
    one_more c.loop-place.seats.items c.push.new.self.items c.loop-place.place c.new.result c.loop-place.invariant c.new.ensures.stands c.in-Ok-push.ensures.items
