use Rattle.std.proofs.Common.{Some, None, sym, ◌∙◌, rules}
use Rattle.transfer_rx.proofs.Acceptance.{no_reading, for_others, by_row}
use Rattle.transfer_rx.proofs.receiver.Receiver.wanted.Goals as goal

pub returns-in_default-clause-wanted : goal.returns-in_default-clause-wanted
returns-in_default-clause-wanted g c = sym (no_reading _ _ _ (sym c.read.ensures.fields ∙ c.in_default.is))

pub returns-then-not-is_for_me-clause-wanted : goal.returns-then-not-is_for_me-clause-wanted
returns-then-not-is_for_me-clause-wanted g c =
    sym (for_others _ _ _ _ (sym c.read.ensures.fields ∙ c.in-Some.is) (sym c.is_for_me.ensures ∙ c.if-not-is_for_me.true))

pub returns-in-Some-accept-clause-wanted : goal.returns-in-Some-accept-clause-wanted
returns-in-Some-accept-clause-wanted g c =
    by_row _ _ _ c.in-Some.ident (Some c.in-Some-accept.signature) (sym c.read.ensures.fields ∙ c.in-Some.is)
    (sym c.is_for_me.ensures ∙ c.if-not-is_for_me.false)
    (c.requires.answers _ _ (search rules) _ c.in-Some-accept.ensures)

pub returns-in-None-clause-wanted : goal.returns-in-None-clause-wanted
returns-in-None-clause-wanted g c =
    by_row _ _ _ c.in-Some.ident None (sym c.read.ensures.fields ∙ c.in-Some.is)
    (sym c.is_for_me.ensures ∙ c.if-not-is_for_me.false)
    (c.requires.answers _ _ (search rules) _ c.in-None.ensures)
