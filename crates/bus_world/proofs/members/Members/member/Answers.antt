use Rattle.std.proofs.Common.{◌∙◌, sym}
use Rattle.bus_world.proofs.Finding.{is_one, no_such}
use Rattle.bus_world.proofs.members.Members.member.Goals as goal

pub returns-in-Some-clause-lawful : goal.returns-in-Some-clause-lawful
returns-in-Some-clause-lawful g c = λ w stands.
    is_one c.args.self.now.members.items c.args.self.now.frames.items w stands.holds c.args.n c.in-Some.place (sym c.place.ensures.place ∙ c.in-Some.is)

pub returns-in-None-clause-refused : goal.returns-in-None-clause-refused
returns-in-None-clause-refused g c = λ w stands.
    no_such c.args.self.now.members.items c.args.self.now.frames.items w stands.holds c.args.n (sym c.place.ensures.place ∙ c.in-None.is)
