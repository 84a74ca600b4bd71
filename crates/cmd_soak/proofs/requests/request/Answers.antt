use Rattle.std.proofs.Common.{◌∙◌, sym, lit<, lit≤}
use Rattle.cmd_soak.proofs.WhichRequest.{is_first, is_second, is_third}
use Rattle.cmd_soak.proofs.requests.request.Goals as goal

pub returns-then-number-eq0 : goal.returns-then-number-eq0
returns-then-number-eq0 c = c.frame.ensures (lit< tt) (lit≤ tt) ∙ sym (is_first c.args.number c.if-number-eq0.true)

pub returns-then-number-eq1 : goal.returns-then-number-eq1
returns-then-number-eq1 c = c.frame-then-number-eq1.ensures (lit< tt) (lit≤ tt) ∙ sym (is_second c.args.number c.if-number-eq1.true)

pub returns : goal.returns
returns c = c.frame-2.ensures (lit< tt) (lit≤ tt) ∙ sym (is_third c.args.number c.if-number-eq0.false c.if-number-eq1.false)
