use Rattle.std.proofs.Common.{ap}
use Rattle.bus_world.specs.declared.place.Place.{Place}
use Rattle.bus_world.proofs.Looking.{next_as, same_but_place}
use Rattle.bus_world.proofs.member.Member.pop.Goals as goal

pub returns-clause-next : goal.returns-clause-next
returns-clause-next g c = λ x stands.
    next_as c.args.self.now.place.server x.status x.disk c.pop.result stands.status.server c.pop.ensures.next c.pop.ensures.closed

pub returns-clause-none : goal.returns-clause-none
returns-clause-none g c = λ none.
    let with : _ → Place g.row.F.Denot = λ server. record { server = server; runs = c.args.self.now.place.runs } in
    same_but_place c.args.self.now (with c.pop.new.self) _ _ _ (ap with (c.pop.ensures.unchanged none))
