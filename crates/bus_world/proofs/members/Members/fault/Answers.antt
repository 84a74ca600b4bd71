use Rattle.std.proofs.Common.{ℕ, ◌∙◌, ap, sym, subst}
use Rattle.bus_world.specs.Stands.{StandsFor}
use Rattle.bus_world.specs.declared.member.Member.{Member}
use Rattle.bus_spec.specs.Members.{with_failure_armed}
use Rattle.bus_rows.specs.ReportLine.ReportLine.{WasArmed}
use Rattle.bus_world.proofs.Finding.{set_few, set_some, alike_there, set_alike, its_id, set_holds, stands_there}
use Rattle.bus_world.proofs.members.Members.fault.Goals as goal

pub returns-in-Ok-clause-told : goal.returns-in-Ok-clause-told
returns-in-Ok-clause-told g c = λ w stands.
    let xs = c.args.self.now.members.items in let bus = c.args.self.now.frames.items in let n = c.args.n in let m = c.index_mut.result.now in
    let here = subst (λ (m : Member g.row.F.Denot). StandsFor m (w.member n)) (sym c.index_mut.ensures.value)
    (stands_there xs bus w stands.holds n c.in-Ok.place c.in-Ok.ensures.place m) in
    let id = ap (λ (m : Member g.row.F.Denot). m.id) c.index_mut.ensures.value ∙ its_id xs bus w stands.holds n c.in-Ok.place c.in-Ok.ensures.place m in
    (c.in-Ok.ensures.lawful w stands, c.fail_at.ensures.told ∙ ap (λ (k : ℕ). WasArmed k) id)

pub returns-in-Ok-clause-leaves : goal.returns-in-Ok-clause-leaves
returns-in-Ok-clause-leaves g c = λ w stands.
    let xs = c.args.self.now.members.items in let bus = c.args.self.now.frames.items in let n = c.args.n in let m = c.index_mut.result.now in
    let here = subst (λ (m : Member g.row.F.Denot). StandsFor m (w.member n)) (sym c.index_mut.ensures.value)
    (stands_there xs bus w stands.holds n c.in-Ok.place c.in-Ok.ensures.place m) in
    let id = ap (λ (m : Member g.row.F.Denot). m.id) c.index_mut.ensures.value ∙ its_id xs bus w stands.holds n c.in-Ok.place c.in-Ok.ensures.place m in
    set_holds xs bus w stands.holds n c.in-Ok.place c.in-Ok.ensures.place c.fail_at.new.self
    (with_failure_armed c.args.call (w.member n)) (c.fail_at.ensures.id ∙ id) (c.fail_at.ensures.stands (w.member n) here)

pub invariant_of-self-clause-alike : goal.invariant_of-self-clause-alike
invariant_of-self-clause-alike g c =
    let xs = c.args.self.now.members.items in let accept = c.args.self.now.accept in
    let own = alike_there xs c.args.n c.in-Ok.place c.index_mut.result.now accept c.args.self.now.alike c.in-Ok.ensures.place c.index_mut.ensures.value in
    set_alike xs c.in-Ok.place c.fail_at.new.self accept c.args.self.now.alike (c.fail_at.ensures.accepts ∙ own)

pub invariant_of-self-clause-five : goal.invariant_of-self-clause-five
invariant_of-self-clause-five g c = set_few c.args.self.now.members.items c.in-Ok.place c.fail_at.new.self c.args.self.now.five

pub invariant_of-self-clause-some : goal.invariant_of-self-clause-some
invariant_of-self-clause-some g c = set_some c.args.self.now.members.items c.in-Ok.place c.fail_at.new.self c.args.self.now.some
