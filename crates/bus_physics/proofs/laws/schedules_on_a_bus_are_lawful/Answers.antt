use Rattle.std.specs.Prelude.{[]}
use Rattle.bus_physics.proofs.laws.schedules_on_a_bus_are_lawful.Goals as goal

pub returns : goal.returns
returns c = λ limits ids all members enough happen but. c.a_bad_minute_is_over.ensures limits ids [] all members enough tt happen but
