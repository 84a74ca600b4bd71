use Rattle.std.proofs.Common.{ℕ, ◌+◌, [], subst}
use Rattle.allocatee.specs.Allocatee.{Event}
use Rattle.bus_spec.specs.Allocatees.{device_after_step}
use Rattle.bus_spec.specs.Cluster.{receipt_at}
use Rattle.bus_world.specs.Seats.{StandsFor}
use Rattle.bus_world.proofs.Seating.{alike_there, its_seat, set_alike, set_seat}
use Rattle.bus_world.proofs.Within.{same_holds}
use Rattle.bus_world.proofs.world.World.hear.Goals as goal

pub invariant_of-self-clause-alike : goal.invariant_of-self-clause-alike
invariant_of-self-clause-alike g c =
    let xs = c.args.self.now.seats.items in let accept = c.args.self.now.accept in
    let own = alike_there xs accept c.args.self.now.alike c.in-Ok.place c.in-Ok.ensures.inside c.index_mut.result.now c.index_mut.ensures.value in
    set_alike xs accept c.args.self.now.alike c.in-Ok.place c.in-Ok.ensures.inside c.args.self.now.eight c.step.new.self (c.step.ensures.accepts accept own)

pub returns-in-Ok-clause-leaves : goal.returns-in-Ok-clause-leaves
returns-in-Ok-clause-leaves g c = λ w stands.
    let xs = c.args.self.now.seats.items in let a = c.args.a in let i = c.in-Ok.place in
    let event : Event = receipt_at w c.args.k c.args.moment c.args.word in
    let here = its_seat xs w.allocatee stands.allocatees i a c.in-Ok.ensures.place c.in-Ok.ensures.inside c.index_mut.result.now c.index_mut.ensures.value in (
      same_holds c.args.self.now.members.members.items [] c.args.self.now.members.frames.items [] w stands.members.holds _,
      set_seat xs w.allocatee stands.allocatees i a c.in-Ok.ensures.place c.in-Ok.ensures.inside c.args.self.now.eight c.step.new.self
          (device_after_step (w.rows + 1) event (w.allocatee a))
          (subst (λ (r : ℕ). StandsFor c.step.new.self (device_after_step (r + 1) event (w.allocatee a))) stands.members.rows
          (subst (λ (e : Event). StandsFor c.step.new.self (device_after_step (c.args.self.now.members.taken + 1) e (w.allocatee a))) (c.in-Ok.ensures.event w stands)
          (c.step.ensures.stands (w.allocatee a) here))),
    )
