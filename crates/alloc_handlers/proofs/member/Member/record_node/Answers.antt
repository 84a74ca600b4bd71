use Rattle.std.proofs.Common.{subst, sym, ◌∙◌, Option, List, ℕ, None}
use Rattle.alloc_handlers.proofs.Words.{GoesTo, StepState, records_as, records_node, result_err}
use Rattle.alloc_handlers.proofs.Choosing.{otherwise, then_}
use Rattle.alloc_handlers.proofs.Taking.{is_step_state}
use Rattle.alloc_handlers.proofs.member.Member.record_node.Goals as goal

pub returns-then-not-may_propose-clause-goes : goal.returns-then-not-may_propose-clause-goes
returns-then-not-may_propose-clause-goes g c step start step_state h =
    otherwise (λ (x : StepState). GoesTo start c.args.self.now x None) _ _ _ (sym (c.may_propose.ensures.stands step_state.allocator h.stands) ∙ c.if-not-may_propose.true)
    (is_step_state h)

pub returns-in-Some-clause-goes : goal.returns-in-Some-clause-goes
returns-in-Some-clause-goes g c step start step_state h =
    then_ (λ (x : StepState). GoesTo start c.record_as.new.self x (result_err c.record_as.result)) _ _ _ (sym (c.may_propose.ensures.stands step_state.allocator h.stands) ∙ c.if-not-may_propose.false)
    (subst (λ (node : Option ℕ). GoesTo start c.record_as.new.self (records_node step node step_state) (result_err c.record_as.result)) (sym c.in-Some.is ∙ c.candidate.ensures.computed step_state.allocator h.stands)
    (subst (λ (uid : Option (List ℕ)). GoesTo start c.record_as.new.self (records_as step c.in-Some.node uid step_state) (result_err c.record_as.result)) (c.new_uid-uid.ensures.computed step_state.allocator h.stands)
    (c.record_as.ensures.goes step start step_state h)))

pub returns-in-None-clause-goes : goal.returns-in-None-clause-goes
returns-in-None-clause-goes g c step start step_state h =
    then_ (λ (x : StepState). GoesTo start c.args.self.now x None) _ _ _ (sym (c.may_propose.ensures.stands step_state.allocator h.stands) ∙ c.if-not-may_propose.false)
    (subst (λ (node : Option ℕ). GoesTo start c.args.self.now (records_node step node step_state) None) (sym c.in-None.is ∙ c.candidate.ensures.computed step_state.allocator h.stands)
    (is_step_state h))
