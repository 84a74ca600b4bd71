use Rattle.std.proofs.Common.{sym, subst, ◌∙◌, List, ℕ, None}
use Rattle.alloc_handlers.proofs.Words.{Alloc, GoesTo, IsInStep, StepState, allocation_payload, answers_request, result_err, with_request, with_transfer}
use Rattle.alloc_exchange.specs.declared.heard.Heard.{Heard}
use Rattle.alloc_spec.specs.Exchange.{hears_whole}
use Rattle.alloc_handlers.proofs.Taking.{is_step_state}
use Rattle.alloc_handlers.proofs.member.Member.take_allocation.Goals as goal

pub returns-in-FollowUp-clause-goes : goal.returns-in-FollowUp-clause-goes
returns-in-FollowUp-clause-goes g c start step_state h =
    let s = c.args.self.now.offered.step in
    let g1 : StepState = with_request c.args.message.now step_state in
    subst (λ (heard : Heard). GoesTo start c.follow_up.new.self (answers_request c.args.self.now.offered.step heard g1) None) (sym c.in-FollowUp.is ∙ c.hear.ensures.answer step_state.allocator h.stands)
    (is_step_state
    (subst (λ (bytes : List ℕ). IsInStep start c.follow_up.new.self (with_transfer s Alloc 0 (allocation_payload 0 bytes) None g1)) c.deref.ensures.0
    (subst (λ (n : ℕ). IsInStep start c.follow_up.new.self (with_transfer n Alloc 0 (allocation_payload 0 c.deref.result.now) None g1)) c.hear.ensures.leaves.lists.step
    (c.follow_up.ensures.step_state start g1 (c.hear.ensures.step_state start step_state h)))))

pub returns-in-Whole-clause-goes : goal.returns-in-Whole-clause-goes
returns-in-Whole-clause-goes g c start step_state h =
    let s = c.args.self.now.offered.step in
    let g1 : StepState = with_request c.args.message.now step_state in
    subst (λ (heard : Heard). GoesTo start c.hear_whole.new.self (answers_request c.args.self.now.offered.step heard g1) (result_err c.hear_whole.result)) (sym c.in-Whole.is ∙ c.hear.ensures.answer step_state.allocator h.stands)
    (subst (λ (n : ℕ). GoesTo start c.hear_whole.new.self (hears_whole n c.in-Whole.uid c.in-Whole.preference g1) (result_err c.hear_whole.result)) c.hear.ensures.leaves.lists.step
    (c.hear_whole.ensures.goes start g1 (c.hear.ensures.step_state start step_state h)))

pub returns-in-Ignored-clause-goes : goal.returns-in-Ignored-clause-goes
returns-in-Ignored-clause-goes g c start step_state h =
    let s = c.args.self.now.offered.step in
    let g1 : StepState = with_request c.args.message.now step_state in
    subst (λ (heard : Heard). GoesTo start c.hear.new.self (answers_request s heard g1) None) (sym c.in-Ignored.is ∙ c.hear.ensures.answer step_state.allocator h.stands)
    (is_step_state (c.hear.ensures.step_state start step_state h))

pub returns-in-Denied-clause-goes : goal.returns-in-Denied-clause-goes
returns-in-Denied-clause-goes g c start step_state h =
    let s = c.args.self.now.offered.step in
    let g1 : StepState = with_request c.args.message.now step_state in
    subst (λ (heard : Heard). GoesTo start c.hear.new.self (answers_request s heard g1) None) (sym c.in-Denied.is ∙ c.hear.ensures.answer step_state.allocator h.stands)
    (is_step_state (c.hear.ensures.step_state start step_state h))
