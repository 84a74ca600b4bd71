use Rattle.std.proofs.Common.{◌∙◌, Bool, ap, sym, subst}
use Rattle.std.specs.Prelude.{None, Option, if◌then◌else◌}
use Rattle.alloc_spec.specs.declared.event.View.{View}
use Rattle.bus_spec.specs.Report.{running_view}
use Rattle.bus_world.specs.Stands.{StandsFor}
use Rattle.bus_world.specs.declared.member.Member.{Member}
use Rattle.bus_world.proofs.Finding.{is_listed, not_listed, stands_there}
use Rattle.bus_world.proofs.members.Members.view.Goals as goal

pub returns-in-Some : goal.returns-in-Some
returns-in-Some g c = λ w stands.
    let xs = c.args.self.now.members.items in let bus = c.args.self.now.frames.items in let n = c.args.id in
    let found = sym c.place.ensures.place ∙ c.in-Some.is in
    let here = subst (λ (m : Member g.row.F.Denot). StandsFor m (w.member n)) (sym c.index.ensures)
    (stands_there xs bus w stands.holds n c.in-Some.place found c.index.result.now) in
    let shown : Option View = running_view (w.member n).status in
    c.view.ensures (w.member n) here
    ∙ sym (ap (λ (b : Bool). if b then shown else None) (is_listed xs bus w stands.holds n c.in-Some.place found c.index.result.now))

pub returns-in-None : goal.returns-in-None
returns-in-None g c = λ w stands.
    let shown : Option View = running_view (w.member c.args.id).status in
    sym (ap (λ (b : Bool). if b then shown else None)
    (not_listed c.args.self.now.members.items c.args.self.now.frames.items w stands.holds c.args.id (sym c.place.ensures.place ∙ c.in-None.is)))
