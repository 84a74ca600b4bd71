use Rattle.alloc_handlers.proofs.Sending.{answered_step_state, lists_none}
use Rattle.alloc_handlers.proofs.member.Member.answer.Goals as goal

pub returns-clause-step_state : goal.returns-clause-step_state
returns-clause-step_state g c none says start step_state h =
    answered_step_state start c.args.self.now c.answer-fitted.new.self c.list.new.self c.args.self.now.offered.step c.args.what c.args.request.now.ident.source c.args.payload.items step_state says h
    c.args.request.now.id c.args.request.now.mark.step c.answer-fitted.result c.answer-fitted.ensures.fitted c.answer-fitted.ensures.next c.list.ensures.sent
    (lists_none c.args.self.now.offered c.list.new.self c.answer-fitted.result c.args.what c.args.payload.items none c.list.ensures.answers)
