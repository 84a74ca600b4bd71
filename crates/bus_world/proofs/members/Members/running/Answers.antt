use Rattle.std.proofs.Common.{◌∙◌, sym, subst}
use Rattle.bus_world.specs.Stands.{StandsFor}
use Rattle.bus_world.specs.declared.member.Member.{Member}
use Rattle.bus_world.proofs.Finding.{lawful, nowhere, stands_there, stopped}
use Rattle.bus_world.proofs.members.Members.running.Goals as goal

pub returns-in_default-clause-refused : goal.returns-in_default-clause-refused
returns-in_default-clause-refused g c = λ w stands.
    nowhere c.args.self.now.members.items c.args.self.now.frames.items w stands.holds c.args.n (sym c.place.ensures.place ∙ c.in_default.is)

pub returns-then-not-is_running-clause-refused : goal.returns-then-not-is_running-clause-refused
returns-then-not-is_running-clause-refused g c = λ w stands.
    let found = sym c.place.ensures.place ∙ c.in-Some.is in
    let there = stands_there c.args.self.now.members.items c.args.self.now.frames.items w stands.holds c.args.n c.in-Some.place found c.index.result.now in
    stopped c.args.self.now.members.items c.args.self.now.frames.items w stands.holds c.args.n c.in-Some.place found c.index.result.now
    (sym (c.is_running.ensures (w.member c.args.n) (subst (λ (m : Member g.row.F.Denot). StandsFor m (w.member c.args.n)) (sym c.index.ensures) there)) ∙ c.if-not-is_running.true)

pub returns-clause-lawful : goal.returns-clause-lawful
returns-clause-lawful g c = λ w stands.
    let found = sym c.place.ensures.place ∙ c.in-Some.is in
    let there = stands_there c.args.self.now.members.items c.args.self.now.frames.items w stands.holds c.args.n c.in-Some.place found c.index.result.now in
    lawful c.args.self.now.members.items c.args.self.now.frames.items w stands.holds c.args.n c.in-Some.place found c.index.result.now
    (sym (c.is_running.ensures (w.member c.args.n) (subst (λ (m : Member g.row.F.Denot). StandsFor m (w.member c.args.n)) (sym c.index.ensures) there)) ∙ c.if-not-is_running.false)
