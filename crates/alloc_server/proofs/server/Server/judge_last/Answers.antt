use Rattle.std.proofs.Common.{ℕ, List, sym, ap, ◌∙◌}
use Rattle.std.specs.Prelude.{◌&&◌, Bool, max, nat_eq, not, if◌then◌else◌}
use Rattle.can_frame.specs.declared.step.Judged.TheVariants.{Fine, Stale, Torn}
use Rattle.alloc_spec.specs.Judging.{is_stale}
use Rattle.transfer_rx.specs.declared.accept.AcceptRow.{AcceptRow}
use Rattle.transfer_rx.specs.Acceptance.{first_signature}
use Rattle.transfer_rx.specs.Reassembly.{Arrival, Delivery, arrival_of}
use Rattle.transfer_rx.specs.Heard.{delivery_with}
use Rattle.alloc_server.proofs.Outside.{judges_fine}
use Rattle.alloc_server.proofs.Verdicts.{foretold, judges_none, judges_some, none_foretold}
use Rattle.alloc_server.proofs.server.Server.judge_last.Goals as goal

pub foretell-requires : goal.foretell-requires
foretell-requires g c = (
  c.requires.memory,
  (
    c.requires.callable,
    λ kind number below signature gives. c.requires.answers kind number below signature gives ∙ ap (λ (rows : List AcceptRow). first_signature rows kind number) (sym c.args.self.now.rows),
  ),
)

pub returns-then-is_fine : goal.returns-then-is_fine
returns-then-is_fine g c t h =
    sym (judges_fine t (arrival_of c.args.frame.now c.args.mark c.args.now)
    (c.is_fine.ensures.outside c.if-is_fine.true) (c.is_fine.ensures.other c.if-is_fine.true))

pub returns-in_default : goal.returns-in_default
returns-in_default g c t h =
    let arrival : Arrival = arrival_of c.args.frame.now c.args.mark c.args.now in
    let at = c.max-now.ensures ∙ ap (λ (n : ℕ). max n c.args.now) h.member.now in
    let none = foretold _ _ t.sessions c.args.frame.now c.args.mark _ _ _ h.setting at (c.foretell.ensures.answer t.sessions h.sessions) in
    sym (judges_none t arrival (none_foretold _ (none ∙ c.in_default.is)))

pub returns : goal.returns
returns g c t h =
    let arrival : Arrival = arrival_of c.args.frame.now c.args.mark c.args.now in
    let at = c.max-now.ensures ∙ ap (λ (n : ℕ). max n c.args.now) h.member.now in
    let some = foretold _ _ t.sessions c.args.frame.now c.args.mark _ _ _ h.setting at (c.foretell.ensures.answer t.sessions h.sessions) in
    let judged = judges_some t arrival c.in-Some.heading (some ∙ c.in-Some.is) in
    let d : Delivery = delivery_with c.in-Some.heading judged.0 in
    let stale = c.is_stale.ensures t h judged.0 ∙ ap (λ (n : ℕ). is_stale t d n) at in
    c.verdict.ensures
    ∙ ap (λ (b : Bool). if not d.whole && not (nat_eq c.args.mark.step 0) then Torn else (if b then Stale else Fine)) stale
    ∙ sym judged.1
