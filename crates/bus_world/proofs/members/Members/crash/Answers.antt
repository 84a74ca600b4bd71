use Rattle.std.proofs.Common.{rules, ◌≡◌, ℕ, ◌∙◌, Bool, ap, sym, subst}
use Rattle.std.specs.Prelude.{if◌then◌else◌, None, Option, slice_set}
use Rattle.bus_spec.specs.declared.unlawful.Unlawful.{Unlawful}
use Rattle.bus_spec.specs.Lawful.{no_node, not_running, or_else}
use Rattle.bus_spec.specs.Cluster.{is_member, with_member}
use Rattle.bus_spec.specs.Members.{with_stop_armed, is_running, stopped_with}
use Rattle.bus_world.specs.Members.{Holds}
use Rattle.bus_world.specs.Stands.{StandsFor}
use Rattle.bus_rows.specs.ReportLine.{report_line_of}
use Rattle.bus_rows.specs.ReportLine.ReportLine.{HasStopped, WasArmed}
use Rattle.bus_world.specs.declared.member.Member.{Member}
use Rattle.bus_world.proofs.Finding.{alike_there, set_alike, is_not_zero, is_zero, its_id, runs_from, set_holds, stands_there}
use Rattle.bus_world.proofs.members.Members.crash.Goals as goal

pub returns-in-Ok-clause-told : goal.returns-in-Ok-clause-told
returns-in-Ok-clause-told g c = λ w stands.
    let xs = c.args.self.now.members.items in let bus = c.args.self.now.frames.items in let n = c.args.n in let m = c.index_mut.result.now in
    let here = subst (λ (m : Member g.row.F.Denot). StandsFor m (w.member n)) (sym c.index_mut.ensures.value)
    (stands_there xs bus w stands.holds n c.in-Ok.place c.in-Ok.ensures.place m) in
    let id = ap (λ (m : Member g.row.F.Denot). m.id) c.index_mut.ensures.value ∙ its_id xs bus w stands.holds n c.in-Ok.place c.in-Ok.ensures.place m in
    subst (λ (b : Bool). (or_else (no_node w n) (if b then not_running w n else None) ≡ None) × (report_line_of c.stop.result ≡ (if b then HasStopped n else WasArmed n))) (sym (is_zero c.args.calls c.if-calls-eq0.true))
    (c.in-Ok.ensures.lawful w stands, c.stop.ensures.told ∙ ap (λ (k : ℕ). HasStopped k) id)

pub returns-in-Ok-clause-leaves : goal.returns-in-Ok-clause-leaves
returns-in-Ok-clause-leaves g c = λ w stands.
    let xs = c.args.self.now.members.items in let bus = c.args.self.now.frames.items in let n = c.args.n in let m = c.index_mut.result.now in
    let here = subst (λ (m : Member g.row.F.Denot). StandsFor m (w.member n)) (sym c.index_mut.ensures.value)
    (stands_there xs bus w stands.holds n c.in-Ok.place c.in-Ok.ensures.place m) in
    let id = ap (λ (m : Member g.row.F.Denot). m.id) c.index_mut.ensures.value ∙ its_id xs bus w stands.holds n c.in-Ok.place c.in-Ok.ensures.place m in
    subst (λ (b : Bool). Holds (slice_set xs c.in-Ok.place c.stop.new.self) bus (with_member w n (if b then stopped_with c.args.pattern.now (w.member n).disk (w.member n) else with_stop_armed c.args.calls c.args.pattern.now (w.member n)))) (sym (is_zero c.args.calls c.if-calls-eq0.true))
    (set_holds xs bus w stands.holds n c.in-Ok.place c.in-Ok.ensures.place c.stop.new.self
    (stopped_with c.args.pattern.now (w.member n).disk (w.member n)) (c.stop.ensures.id ∙ id) (c.stop.ensures.stands (w.member n) here (runs_from (is_member w.ids n) (is_running (w.member n).status) (c.in-Ok.ensures.lawful w stands))))

pub returns-in-Ok-member-clause-told : goal.returns-in-Ok-member-clause-told
returns-in-Ok-member-clause-told g c = λ w stands.
    let xs = c.args.self.now.members.items in let bus = c.args.self.now.frames.items in let n = c.args.n in let m = c.index_mut-in-Ok-member.result.now in
    let here = subst (λ (m : Member g.row.F.Denot). StandsFor m (w.member n)) (sym c.index_mut-in-Ok-member.ensures.value)
    (stands_there xs bus w stands.holds n c.in-Ok-member.place c.in-Ok-member.ensures.place m) in
    let id = ap (λ (m : Member g.row.F.Denot). m.id) c.index_mut-in-Ok-member.ensures.value ∙ its_id xs bus w stands.holds n c.in-Ok-member.place c.in-Ok-member.ensures.place m in
    subst (λ (b : Bool). (or_else (no_node w n) (if b then not_running w n else None) ≡ None) × (report_line_of c.stop_at.result ≡ (if b then HasStopped n else WasArmed n))) (sym (is_not_zero c.args.calls c.if-calls-eq0.false))
    (ap (λ (first : Option Unlawful). or_else first None) (c.in-Ok-member.ensures.lawful w stands), c.stop_at.ensures.told ∙ ap (λ (k : ℕ). WasArmed k) id)

pub returns-in-Ok-member-clause-leaves : goal.returns-in-Ok-member-clause-leaves
returns-in-Ok-member-clause-leaves g c = λ w stands.
    let xs = c.args.self.now.members.items in let bus = c.args.self.now.frames.items in let n = c.args.n in let m = c.index_mut-in-Ok-member.result.now in
    let here = subst (λ (m : Member g.row.F.Denot). StandsFor m (w.member n)) (sym c.index_mut-in-Ok-member.ensures.value)
    (stands_there xs bus w stands.holds n c.in-Ok-member.place c.in-Ok-member.ensures.place m) in
    let id = ap (λ (m : Member g.row.F.Denot). m.id) c.index_mut-in-Ok-member.ensures.value ∙ its_id xs bus w stands.holds n c.in-Ok-member.place c.in-Ok-member.ensures.place m in
    subst (λ (b : Bool). Holds (slice_set xs c.in-Ok-member.place c.stop_at.new.self) bus (with_member w n (if b then stopped_with c.args.pattern.now (w.member n).disk (w.member n) else with_stop_armed c.args.calls c.args.pattern.now (w.member n)))) (sym (is_not_zero c.args.calls c.if-calls-eq0.false))
    (set_holds xs bus w stands.holds n c.in-Ok-member.place c.in-Ok-member.ensures.place c.stop_at.new.self
    (with_stop_armed c.args.calls c.args.pattern.now (w.member n)) (c.stop_at.ensures.id ∙ id) (c.stop_at.ensures.stands (w.member n) here))

pub invariant_of-self : goal.invariant_of-self
invariant_of-self g c =
    let xs = c.args.self.now.members.items in let accept = c.args.self.now.accept in
    let own = alike_there xs c.args.n c.in-Ok.place c.index_mut.result.now accept c.args.self.now.alike c.in-Ok.ensures.place c.index_mut.ensures.value in record {
      below = c.args.self.now.below;
      fits = c.args.self.now.fits;
      kept = c.args.self.now.kept;
      some = search rules;
      five = search rules;
      alike = set_alike xs c.in-Ok.place c.stop.new.self accept c.args.self.now.alike (c.stop.ensures.accepts ∙ own);
    }

pub invariant_of-self-in-Ok-member : goal.invariant_of-self-in-Ok-member
invariant_of-self-in-Ok-member g c =
    let xs = c.args.self.now.members.items in let accept = c.args.self.now.accept in
    let own = alike_there xs c.args.n c.in-Ok-member.place c.index_mut-in-Ok-member.result.now accept c.args.self.now.alike c.in-Ok-member.ensures.place c.index_mut-in-Ok-member.ensures.value in record {
      below = c.args.self.now.below;
      fits = c.args.self.now.fits;
      kept = c.args.self.now.kept;
      some = search rules;
      five = search rules;
      alike = set_alike xs c.in-Ok-member.place c.stop_at.new.self accept c.args.self.now.alike (c.stop_at.ensures.accepts ∙ own);
    }
