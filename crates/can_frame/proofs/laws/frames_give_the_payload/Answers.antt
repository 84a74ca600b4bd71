use Rattle.std.proofs.Common.{sym, ap, ◌∙◌}
use Rattle.can_frame.specs.Cutting.{payload_of}
use Rattle.can_frame.proofs.Cutting.{uncut}
use Rattle.can_frame.proofs.laws.frames_give_the_payload.Goals as goal

pub returns-clause-payload : goal.returns-clause-payload
returns-clause-payload c = uncut

pub returns-clause-one_payload : goal.returns-clause-one_payload
returns-clause-one_payload c = λ signature id a b frames p q.
    sym (uncut signature id a) ∙ ap payload_of (sym p.frames ∙ q.frames) ∙ uncut signature id b

pub returns-clause-one_cutting : goal.returns-clause-one_cutting
returns-clause-one_cutting c = λ signature id payload a b p q. p.frames ∙ sym q.frames
