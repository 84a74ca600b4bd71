use Rattle.std.proofs.Common.{List, Bool, Option, ℕ, sym, ap, subst, ◌∙◌, None}
use Rattle.alloc_handlers.proofs.Words.{GoesTo, StepState, records_at, result_err}
use Rattle.id_selector.specs.Choice.{chosen}
use Rattle.alloc_handlers.proofs.Choosing.{otherwise, then_}
use Rattle.alloc_handlers.proofs.Taking.{is_step_state}
use Rattle.alloc_handlers.proofs.member.Member.record.Goals as goal

pub returns-then-not-may_record-clause-goes : goal.returns-then-not-may_record-clause-goes
returns-then-not-may_record-clause-goes g c step start step_state h =
    otherwise (λ (x : StepState). GoesTo start c.args.self.now x None) _ _ _ (sym (c.may_record.ensures.stands step_state.allocator h.stands) ∙ c.if-not-may_record.true)
    (is_step_state h)

pub returns-in-Some-clause-goes : goal.returns-in-Some-clause-goes
returns-in-Some-clause-goes g c step start step_state h =
    let choice = sym c.in-Some.is ∙ c.choose.ensures.chosen ∙ ap (λ (list : List Bool). chosen list c.args.preference) (c.taken.ensures.taken step_state.allocator h.stands) in
    then_ (λ (x : StepState). GoesTo start c.propose.new.self x (result_err c.propose.result)) _ _ _ (sym (c.may_record.ensures.stands step_state.allocator h.stands) ∙ c.if-not-may_record.false)
    (subst (λ (node : Option ℕ). GoesTo start c.propose.new.self (records_at step c.args.uid.now node step_state) (result_err c.propose.result)) choice
    (c.propose.ensures.goes step start step_state h))

pub returns-in-None-clause-goes : goal.returns-in-None-clause-goes
returns-in-None-clause-goes g c step start step_state h =
    let choice = sym c.in-None.is ∙ c.choose.ensures.chosen ∙ ap (λ (list : List Bool). chosen list c.args.preference) (c.taken.ensures.taken step_state.allocator h.stands) in
    then_ (λ (x : StepState). GoesTo start c.args.self.now x None) _ _ _ (sym (c.may_record.ensures.stands step_state.allocator h.stands) ∙ c.if-not-may_record.false)
    (subst (λ (node : Option ℕ). GoesTo start c.args.self.now (records_at step c.args.uid.now node step_state) None) choice
    (is_step_state h))
