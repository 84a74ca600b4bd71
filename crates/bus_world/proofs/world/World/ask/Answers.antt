use Rattle.bus_world.proofs.Seating.{alike_there, set_alike}
use Rattle.bus_world.proofs.world.World.ask.Goals as goal

pub invariant_of-self-clause-alike : goal.invariant_of-self-clause-alike
invariant_of-self-clause-alike g c =
    let xs = c.args.self.now.seats.items in let accept = c.args.self.now.accept in
    let own = alike_there xs accept c.args.self.now.alike c.in-Ok.place c.in-Ok.ensures.inside c.index_mut.result.now c.index_mut.ensures.value in
    set_alike xs accept c.args.self.now.alike c.in-Ok.place c.in-Ok.ensures.inside c.args.self.now.eight c.step.new.self (c.step.ensures.accepts accept own)
