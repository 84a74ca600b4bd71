use Rattle.alloc_handlers.proofs.Sending.{lists_none, sent_step_state}
use Rattle.alloc_handlers.proofs.member.Member.send.Goals as goal

pub returns-clause-step_state : goal.returns-clause-step_state
returns-clause-step_state g c none says start step_state h =
    sent_step_state start c.args.self.now c.send-fitted.new.self c.list.new.self c.args.self.now.offered.step c.args.what c.args.to c.args.payload.items step_state says h
    c.send-fitted.result c.send-fitted.ensures.fitted c.send-fitted.ensures.next c.list.ensures.sent
    (lists_none c.args.self.now.offered c.list.new.self c.send-fitted.result c.args.what c.args.payload.items none c.list.ensures.answers)
