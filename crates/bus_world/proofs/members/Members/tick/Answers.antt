use Rattle.std.proofs.Common.{◌≡◌, ℕ, ◌+◌, ◌∙◌, ap, sym, subst}
use Rattle.alloc_spec.specs.Step.{Event}
use Rattle.bus_spec.specs.Cluster.{is_member}
use Rattle.bus_spec.specs.Members.{is_running, member_after_step}
use Rattle.bus_spec.specs.Report.{line_of_step}
use Rattle.bus_world.specs.Stands.{StandsFor}
use Rattle.bus_rows.specs.ReportLine.{report_line_of}
use Rattle.bus_world.specs.declared.member.Member.{Member}
use Rattle.bus_world.proofs.Finding.{set_few, set_some, alike_there, set_alike, its_id, runs_from, set_holds, stands_there}
use Rattle.bus_world.proofs.members.Members.tick.Goals as goal

pub returns-in-Ok-clause-told : goal.returns-in-Ok-clause-told
returns-in-Ok-clause-told g c = λ w stands.
    let xs = c.args.self.now.members.items in let bus = c.args.self.now.frames.items in let n = c.args.n in let m = c.index_mut.result.now in
    let event : Event = Event.Tick c.args.moment c.args.word in
    let here = subst (λ (m : Member g.row.F.Denot). StandsFor m (w.member n)) (sym c.index_mut.ensures.value)
    (stands_there xs bus w stands.holds n c.in-Ok.place c.in-Ok.ensures.place m) in
    let id = ap (λ (m : Member g.row.F.Denot). m.id) c.index_mut.ensures.value ∙ its_id xs bus w stands.holds n c.in-Ok.place c.in-Ok.ensures.place m in
    let lawful = c.in-Ok.ensures.lawful w stands in (
      lawful,
      subst (λ (k : ℕ). report_line_of c.step.result ≡ line_of_step k (w.rows + 1) event (w.member n).status (w.member n)) id
          (subst (λ (r : ℕ). report_line_of c.step.result ≡ line_of_step m.id (r + 1) event (w.member n).status (w.member n)) stands.rows
          (c.step.ensures.told (w.member n) here (runs_from (is_member w.ids n) (is_running (w.member n).status) lawful))),
    )

pub returns-in-Ok-clause-leaves : goal.returns-in-Ok-clause-leaves
returns-in-Ok-clause-leaves g c = λ w stands.
    let xs = c.args.self.now.members.items in let bus = c.args.self.now.frames.items in let n = c.args.n in let m = c.index_mut.result.now in
    let event : Event = Event.Tick c.args.moment c.args.word in
    let here = subst (λ (m : Member g.row.F.Denot). StandsFor m (w.member n)) (sym c.index_mut.ensures.value)
    (stands_there xs bus w stands.holds n c.in-Ok.place c.in-Ok.ensures.place m) in
    let id = ap (λ (m : Member g.row.F.Denot). m.id) c.index_mut.ensures.value ∙ its_id xs bus w stands.holds n c.in-Ok.place c.in-Ok.ensures.place m in
    set_holds xs bus w stands.holds n c.in-Ok.place c.in-Ok.ensures.place c.step.new.self
    (member_after_step (w.rows + 1) event (w.member n).status (w.member n)) (c.step.ensures.id ∙ id)
    (subst (λ (r : ℕ). StandsFor c.step.new.self (member_after_step (r + 1) event (w.member n).status (w.member n))) stands.rows
    (c.step.ensures.stands (w.member n) here (runs_from (is_member w.ids n) (is_running (w.member n).status) (c.in-Ok.ensures.lawful w stands))))

pub step-requires : goal.step-requires
step-requires g c =
    let xs = c.args.self.now.members.items in let accept = c.args.self.now.accept in let m = c.index_mut.result.now in
    let same = sym (alike_there xs c.args.n c.in-Ok.place m accept c.args.self.now.alike c.in-Ok.ensures.place c.index_mut.ensures.value) in
    record { receives = rw same at c.requires.receives }

pub invariant_of-self-clause-alike : goal.invariant_of-self-clause-alike
invariant_of-self-clause-alike g c =
    let xs = c.args.self.now.members.items in let accept = c.args.self.now.accept in
    let own = alike_there xs c.args.n c.in-Ok.place c.index_mut.result.now accept c.args.self.now.alike c.in-Ok.ensures.place c.index_mut.ensures.value in
    set_alike xs c.in-Ok.place c.step.new.self accept c.args.self.now.alike (c.step.ensures.accepts ∙ own)

pub invariant_of-self-clause-five : goal.invariant_of-self-clause-five
invariant_of-self-clause-five g c = set_few c.args.self.now.members.items c.in-Ok.place c.step.new.self c.args.self.now.five

pub invariant_of-self-clause-some : goal.invariant_of-self-clause-some
invariant_of-self-clause-some g c = set_some c.args.self.now.members.items c.in-Ok.place c.step.new.self c.args.self.now.some
