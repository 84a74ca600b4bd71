use Rattle.std.proofs.Common.{◌≡◌, ap, sym, ◌∙◌}
use Rattle.std.specs.Prelude.{Option, Some, option_map}
use Rattle.transfer_tx.specs.declared.marked.Marked.{Marked}
use Rattle.transfer_tx.specs.Views.{queued_of}
use Rattle.bus_spec.specs.Allocatees.{after_sending_from, next_from}
use Rattle.bus_world.proofs.Seating.{alike_there, its_seat, set_alike, set_seat}
use Rattle.bus_world.proofs.Within.{one_more_holds}
use Rattle.bus_world.proofs.world.World.put.Goals as goal

pub invariant_of-self-2-clause-alike : goal.invariant_of-self-2-clause-alike
invariant_of-self-2-clause-alike g c =
    let xs = c.args.self.now.seats.items in let accept = c.args.self.now.accept in
    let own = alike_there xs accept c.args.self.now.alike c.in-Ok.place c.in-Ok.ensures.inside c.index_mut.result.now c.index_mut.ensures.value in
    set_alike xs accept c.args.self.now.alike c.in-Ok.place c.in-Ok.ensures.inside c.args.self.now.eight c.pop.new.self (c.pop.ensures.accepts accept own)

pub returns-clause-leaves : goal.returns-clause-leaves
returns-clause-leaves g c = λ w stands.
    let xs = c.args.self.now.seats.items in let a = c.args.a in let i = c.in-Ok.place in
    let here = its_seat xs w.allocatee stands.allocatees i a c.in-Ok.ensures.place c.in-Ok.ensures.inside c.index_mut.result.now c.index_mut.ensures.value in
    let next : next_from (w.allocatee a) ≡ Some (queued_of c.in-Some.next) =
    sym (c.pop.ensures.next (w.allocatee a) here) ∙ ap (λ (o : Option Marked). option_map queued_of o) c.in-Some.is in (
      one_more_holds c.args.self.now.members.members.items c.put-k.new.self.members.items c.args.self.now.members.frames.items c.put-k.new.self.frames.items
          w stands.members.holds c.in-Some.next _ c.put-k.ensures.members c.put-k.ensures.frames (next_from (w.allocatee a)) next,
      set_seat xs w.allocatee stands.allocatees i a c.in-Ok.ensures.place c.in-Ok.ensures.inside c.args.self.now.eight c.pop.new.self
          (after_sending_from (w.allocatee a)) (c.pop.ensures.stands (w.allocatee a) here),
    )
