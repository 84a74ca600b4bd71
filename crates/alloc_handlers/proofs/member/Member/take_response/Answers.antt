use Rattle.std.proofs.Common.{Ok}
use Rattle.alloc_handlers.proofs.Words.{SeesTo, StepResult, delivery_of}
use Rattle.alloc_handlers.proofs.Choosing.{other_number, otherwise, same_number, then_}
use Rattle.alloc_handlers.proofs.Sights.{sees}
use Rattle.alloc_handlers.proofs.member.Member.take_response.Goals as goal

pub returns-then-transfer-clause-sees : goal.returns-then-transfer-clause-sees
returns-then-transfer-clause-sees g c step start step_state h =
    let d = delivery_of c.args.transfer.now in
    let heard = c.hear_info.ensures.sees start step_state h in
    then_ (λ (step_result : StepResult). SeesTo start c.hear_info.new.self step_result (Ok c.hear_info.result)) _ _ _
    (same_number c.args.transfer.now.ident.number 1 c.if-transfer.true)
    (sees heard.1 heard.0)

pub returns-then-transfer-2-clause-sees : goal.returns-then-transfer-2-clause-sees
returns-then-transfer-2-clause-sees g c step start step_state h =
    otherwise (λ (step_result : StepResult). SeesTo start c.take_append_answer.new.self step_result c.take_append_answer.result) _ _ _
    (other_number c.args.transfer.now.ident.number 1 c.if-transfer.false)
    (then_ (λ (step_result : StepResult). SeesTo start c.take_append_answer.new.self step_result c.take_append_answer.result) _ _ _
    (same_number c.args.transfer.now.ident.number 30 c.if-transfer-2.true)
    (c.take_append_answer.ensures.sees step start step_state h))

pub returns-else-transfer-2-clause-sees : goal.returns-else-transfer-2-clause-sees
returns-else-transfer-2-clause-sees g c step start step_state h =
    otherwise (λ (step_result : StepResult). SeesTo start c.take_vote_answer.new.self step_result c.take_vote_answer.result) _ _ _
    (other_number c.args.transfer.now.ident.number 1 c.if-transfer.false)
    (otherwise (λ (step_result : StepResult). SeesTo start c.take_vote_answer.new.self step_result c.take_vote_answer.result) _ _ _
    (other_number c.args.transfer.now.ident.number 30 c.if-transfer-2.false)
    (c.take_vote_answer.ensures.sees step start step_state h))
