use Rattle.std.proofs.Common.{◌≡◌, ℕ, List, length, ◌∙◌, ap, sym, subst}
use Rattle.std.proofs.lemmas.List.{length-map}
use Rattle.bus_world.specs.Stands.{StandsFor}
use Rattle.bus_rows.specs.ReportLine.{report_line_of}
use Rattle.bus_world.specs.declared.member.Member.{Member}
use Rattle.alloc_spec.specs.Rules.{Rules}
use Rattle.bus_spec.specs.Cluster.{is_member, rules_of}
use Rattle.bus_spec.specs.Members.{is_running, after_opening}
use Rattle.bus_spec.specs.Report.{line_of_opening}
use Rattle.bus_world.specs.Members.{ids_of}
use Rattle.bus_world.proofs.Opening.{same_rules}
use Rattle.bus_world.proofs.Finding.{alike_there, set_alike, set_few, set_some, its_id, set_holds, stands_there, stopped_from}
use Rattle.bus_world.proofs.members.Members.open.Goals as goal

pub returns-in-Ok-clause-told : goal.returns-in-Ok-clause-told
returns-in-Ok-clause-told g c = λ w stands.
    let xs = c.args.self.now.members.items in let bus = c.args.self.now.frames.items in let n = c.args.n in let m = c.index_mut.result.now in
    let here = subst (λ (m : Member g.row.F.Denot). StandsFor m (w.member n)) (sym c.index_mut.ensures.value)
    (stands_there xs bus w stands.holds n c.in-Ok.place c.in-Ok.ensures.place m) in
    let id = ap (λ (m : Member g.row.F.Denot). m.id) c.index_mut.ensures.value ∙ its_id xs bus w stands.holds n c.in-Ok.place c.in-Ok.ensures.place m in
    let lawful = c.in-Ok.ensures.lawful w stands in (
      lawful,
      subst (λ (k : ℕ). report_line_of c.open.result ≡ line_of_opening k (w.member n).disk) id
          (c.open.ensures.told (w.member n) here (stopped_from (is_member w.ids n) (is_running (w.member n).status) lawful)),
    )

pub returns-in-Ok-clause-leaves : goal.returns-in-Ok-clause-leaves
returns-in-Ok-clause-leaves g c = λ w stands.
    let xs = c.args.self.now.members.items in let bus = c.args.self.now.frames.items in let n = c.args.n in let m = c.index_mut.result.now in
    let here = subst (λ (m : Member g.row.F.Denot). StandsFor m (w.member n)) (sym c.index_mut.ensures.value)
    (stands_there xs bus w stands.holds n c.in-Ok.place c.in-Ok.ensures.place m) in
    let id = ap (λ (m : Member g.row.F.Denot). m.id) c.index_mut.ensures.value ∙ its_id xs bus w stands.holds n c.in-Ok.place c.in-Ok.ensures.place m in
    let same : ids_of xs ≡ w.ids = stands.holds.ids in
    let size : length c.as_slice-members.result.now ≡ length w.ids = ap (λ (l : List (Member g.row.F.Denot)). length l) c.as_slice-members.ensures.value ∙ (sym (length-map xs (λ (m : Member g.row.F.Denot). m.id)) ∙ ap (λ (ids : List ℕ). length ids) same) in
    let list = c.deref.ensures.0 ∙ c.told_ids-list.ensures.told ∙ ap (λ (l : List (Member g.row.F.Denot)). (rules_of (ids_of l) c.args.told).told) c.as_slice-members.ensures.value ∙ ap (λ (ids : List ℕ). (rules_of ids c.args.told).told) same in
    let rules = same_rules w.ids c.deref.result.now (length c.as_slice-members.result.now) c.args.told size list in
    set_holds xs bus w stands.holds n c.in-Ok.place c.in-Ok.ensures.place c.open.new.self
    (after_opening n (rules_of w.ids c.args.told) c.args.moment c.args.word (w.member n)) (c.open.ensures.id ∙ id)
    (subst (λ (k : ℕ). StandsFor c.open.new.self (after_opening k (rules_of w.ids c.args.told) c.args.moment c.args.word (w.member n))) id
    (subst (λ (r : Rules). StandsFor c.open.new.self (after_opening m.id r c.args.moment c.args.word (w.member n))) rules
    (c.open.ensures.stands (w.member n) here (stopped_from (is_member w.ids n) (is_running (w.member n).status) (c.in-Ok.ensures.lawful w stands)))))

pub invariant_of-self-clause-alike : goal.invariant_of-self-clause-alike
invariant_of-self-clause-alike g c =
    let xs = c.args.self.now.members.items in let accept = c.args.self.now.accept in
    let own = alike_there xs c.args.n c.in-Ok.place c.index_mut.result.now accept c.args.self.now.alike c.in-Ok.ensures.place c.index_mut.ensures.value in
    set_alike xs c.in-Ok.place c.open.new.self accept c.args.self.now.alike (c.open.ensures.accepts ∙ own)

pub invariant_of-self-clause-five : goal.invariant_of-self-clause-five
invariant_of-self-clause-five g c = set_few c.args.self.now.members.items c.in-Ok.place c.open.new.self c.args.self.now.five

pub invariant_of-self-clause-some : goal.invariant_of-self-clause-some
invariant_of-self-clause-some g c = set_some c.args.self.now.members.items c.in-Ok.place c.open.new.self c.args.self.now.some
