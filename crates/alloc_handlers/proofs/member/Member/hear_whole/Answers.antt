use Rattle.std.proofs.Common.{sym, ap, subst, ◌∙◌, ◌≡◌, Option, Some, None, rules, ℕ}
use Rattle.alloc_handlers.proofs.Words.{GoesTo, StepState, Store, answers_or_records, recorded_at, result_err}
use Rattle.can_frame.specs.Zeros.{zeros}
use Rattle.alloc_handlers.proofs.Choosing.{otherwise, then_}
use Rattle.alloc_handlers.proofs.Taking.{is_step_state}
use Rattle.alloc_handlers.proofs.Uids.{zero_is, zero_not}
use Rattle.alloc_handlers.proofs.member.Member.hear_whole.Goals as goal

pub returns-then-is_zero-clause-goes : goal.returns-then-is_zero-clause-goes
returns-then-is_zero-clause-goes g c start step_state h =
    let zero : c.args.uid.now ≡ zeros = search rules in
    then_ (λ (x : StepState). GoesTo start c.args.self.now x None) _ _ _ (zero_is c.args.uid.now zero) (is_step_state h)

pub returns-in-Some-clause-goes : goal.returns-in-Some-clause-goes
returns-in-Some-clause-goes g c start step_state h =
    let some : c.args.uid.now ≡ zeros → ⊥ = λ is. search rules in
    let s = c.args.self.now.offered.step in
    let place : Some c.in-Some.place ≡ recorded_at step_state.allocator.raft_server.store.log c.args.uid.now =
    sym c.in-Some.is ∙ c.recorded_at.ensures.place ∙ ap (λ (store : Store). recorded_at store.log c.args.uid.now) (sym h.stands.raft.store) in
    otherwise (λ (x : StepState). GoesTo start c.answer_again.new.self x None) _ _ _ (zero_not c.args.uid.now some)
    (subst (λ (at : Option ℕ). GoesTo start c.answer_again.new.self (answers_or_records s c.args.uid.now c.args.preference at step_state) None) place
    (is_step_state (c.answer_again.ensures.step_state start step_state h)))

pub returns-in-None-clause-goes : goal.returns-in-None-clause-goes
returns-in-None-clause-goes g c start step_state h =
    let some : c.args.uid.now ≡ zeros → ⊥ = λ is. search rules in
    let s = c.args.self.now.offered.step in
    let none : None ≡ recorded_at step_state.allocator.raft_server.store.log c.args.uid.now =
    sym c.in-None.is ∙ c.recorded_at.ensures.place ∙ ap (λ (store : Store). recorded_at store.log c.args.uid.now) (sym h.stands.raft.store) in
    otherwise (λ (x : StepState). GoesTo start c.record.new.self x (result_err c.record.result)) _ _ _ (zero_not c.args.uid.now some)
    (subst (λ (at : Option ℕ). GoesTo start c.record.new.self (answers_or_records s c.args.uid.now c.args.preference at step_state) (result_err c.record.result)) none
    (c.record.ensures.goes s start step_state h))
