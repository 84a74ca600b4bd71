use Rattle.std.proofs.Common.{◌≤◌, ◌∙◌, List, length, ap, sym, subst}
use Rattle.std.specs.Prelude.{Some, None}
use Rattle.can_frame.specs.declared.step.Judged.{Judged}
use Rattle.bus_spec.specs.declared.unlawful.Unlawful.TheVariants.{Torn, Stale}
use Rattle.bus_spec.specs.Lawful.{cause_of_judgement}
use Rattle.transfer_tx.specs.declared.marked.Marked.{Marked}
use Rattle.bus_world.specs.Stands.{StandsFor}
use Rattle.bus_world.specs.declared.member.Member.{Member}
use Rattle.bus_world.proofs.Finding.{alike_there, judged_row, stands_there}
use Rattle.bus_world.proofs.members.Members.arrival.Goals as goal

pub returns-in-Torn-clause-refused : goal.returns-in-Torn-clause-refused
returns-in-Torn-clause-refused g c = λ w stands.
    let xs = c.args.self.now.members.items in let bus = c.args.self.now.frames.items in
    let lawful = c.in-Ok.ensures.lawful w stands in
    let here = subst (λ (m : Member g.row.F.Denot). StandsFor m (w.member c.args.n)) (sym c.index.ensures)
    (stands_there xs bus w stands.holds c.args.n c.in-Ok.place c.in-Ok.ensures.place c.index.result.now) in
    let row = judged_row w bus c.args.k stands.holds.frames c.if-k-eq0.false (subst (λ (l : List Marked). c.args.k ≤ length l) c.as_slice.ensures.value c.if-k-as_slice.false) c.args.n c.args.moment c.index-marked.result.now c.index-marked.ensures lawful
    (Some Torn) (sym (ap (λ (j : Judged). cause_of_judgement j) c.in-Torn.is) ∙ c.judge.ensures (w.member c.args.n) here) in
    row

pub returns-in-Stale-clause-refused : goal.returns-in-Stale-clause-refused
returns-in-Stale-clause-refused g c = λ w stands.
    let xs = c.args.self.now.members.items in let bus = c.args.self.now.frames.items in
    let lawful = c.in-Ok.ensures.lawful w stands in
    let here = subst (λ (m : Member g.row.F.Denot). StandsFor m (w.member c.args.n)) (sym c.index.ensures)
    (stands_there xs bus w stands.holds c.args.n c.in-Ok.place c.in-Ok.ensures.place c.index.result.now) in
    let row = judged_row w bus c.args.k stands.holds.frames c.if-k-eq0.false (subst (λ (l : List Marked). c.args.k ≤ length l) c.as_slice.ensures.value c.if-k-as_slice.false) c.args.n c.args.moment c.index-marked.result.now c.index-marked.ensures lawful
    (Some Stale) (sym (ap (λ (j : Judged). cause_of_judgement j) c.in-Stale.is) ∙ c.judge.ensures (w.member c.args.n) here) in
    row

pub returns-clause-lawful : goal.returns-clause-lawful
returns-clause-lawful g c = λ w stands.
    let xs = c.args.self.now.members.items in let bus = c.args.self.now.frames.items in
    let lawful = c.in-Ok.ensures.lawful w stands in
    let here = subst (λ (m : Member g.row.F.Denot). StandsFor m (w.member c.args.n)) (sym c.index.ensures)
    (stands_there xs bus w stands.holds c.args.n c.in-Ok.place c.in-Ok.ensures.place c.index.result.now) in
    let row = judged_row w bus c.args.k stands.holds.frames c.if-k-eq0.false (subst (λ (l : List Marked). c.args.k ≤ length l) c.as_slice.ensures.value c.if-k-as_slice.false) c.args.n c.args.moment c.index-marked.result.now c.index-marked.ensures lawful
    None (sym (ap (λ (j : Judged). cause_of_judgement j) c.in-Fine.is) ∙ c.judge.ensures (w.member c.args.n) here) in
    (lawful, row)

pub judge-requires : goal.judge-requires
judge-requires g c =
    let xs = c.args.self.now.members.items in let accept = c.args.self.now.accept in let m = c.index.result.now in
    let same = sym (alike_there xs c.args.n c.in-Ok.place m accept c.args.self.now.alike c.in-Ok.ensures.place c.index.ensures) in
    record { receives = rw same at c.requires.receives }
