use Rattle.std.proofs.Common.{ap, subst, sym, ◌∙◌, ◌++◌, List, ℕ, None}
use Rattle.alloc_handlers.proofs.Words.{Alloc, IsInStep, has_room, pairs_if_fitted, with_transfer}
use Rattle.alloc_handlers.proofs.Sending.{sent_step_state}
use Rattle.alloc_handlers.proofs.member.Member.send_pair.Goals as goal

pub returns-clause-fitted : goal.returns-clause-fitted
returns-clause-fitted g c = c.send-fitted.ensures.fitted ∙ ap (λ (payload : List ℕ). has_room c.args.self.now.outbox.queue payload) c.allocation.ensures

pub returns-clause-step_state : goal.returns-clause-step_state
returns-clause-step_state g c start step_state h =
    subst (λ (payload : List ℕ). IsInStep start (record c.args.self.now { outbox = c.send-fitted.new.self; offered = c.list_allocation.new.self }) (with_transfer c.args.self.now.offered.step Alloc 0 payload None step_state)) c.allocation.ensures
    (sent_step_state start c.args.self.now c.send-fitted.new.self c.list_allocation.new.self c.args.self.now.offered.step Alloc 0 c.allocation.result.items step_state None h
    c.send-fitted.result c.send-fitted.ensures.fitted c.send-fitted.ensures.next c.list_allocation.ensures.sent
    (c.list_allocation.ensures.answers ∙ ap (λ (payload : List ℕ). c.args.self.now.offered.answers.items ++ pairs_if_fitted c.send-fitted.result Alloc payload) (sym c.allocation.ensures)))
