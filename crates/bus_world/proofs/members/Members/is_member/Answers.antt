use Rattle.std.proofs.Common.{◌∙◌, sym}
use Rattle.bus_world.proofs.Finding.{member_none, member_some}
use Rattle.bus_world.proofs.members.Members.is_member.Goals as goal

pub returns-in-Some : goal.returns-in-Some
returns-in-Some g c = member_some c.args.self.now.members.items c.args.n _ (sym c.place.ensures.place ∙ c.in-Some.is)

pub returns-in-None : goal.returns-in-None
returns-in-None g c = member_none c.args.self.now.members.items c.args.n (sym c.place.ensures.place ∙ c.in-None.is)
