use Rattle.std.proofs.Common.{refl, subst, ℕ, Some}
use Rattle.alloc_handlers.proofs.Words.{GoesTo, IsInStep, StepResult, end_phase, told_with, with_answer}
use Rattle.alloc_handlers.proofs.Faults.{faults_failed, faults_in_turn}
use Rattle.alloc_handlers.proofs.Sights.{sees, sees_failed}
use Rattle.alloc_handlers.proofs.Taking.{cut_off}
use Rattle.alloc_handlers.proofs.member.Member.take_heard.Goals as goal

pub returns-in_err-seen-clause-sees : goal.returns-in_err-seen-clause-sees
returns-in_err-seen-clause-sees g c start step_state h =
    let s = c.args.self.now.offered.step in
    sees_failed _ c.from_residual.ensures.0 c.from_residual.ensures.1
    (cut_off c.puts_go_on.ensures (c.in_err-seen.ensures.sees start step_state h).goes (c.phases_add_puts.ensures.ends s (with_answer s (told_with c.args.transfer.now c.args.heard) step_state).step_state))

pub returns-in_err-end-clause-sees : goal.returns-in_err-end-clause-sees
returns-in_err-end-clause-sees g c start step_state h =
    let step_result : StepResult = with_answer c.args.self.now.offered.step (told_with c.args.transfer.now c.args.heard) step_state in
    sees_failed _ c.from_residual-in_err-end.ensures.0 c.from_residual-in_err-end.ensures.1
    (subst (λ (n : ℕ). GoesTo start c.end.new.self (end_phase n step_result.step_state) (Some c.in_err-end.field-0.0)) c.take_delivery.ensures.leaves.lists.step
    (c.in_err-end.ensures.goes start step_result.step_state ((c.in_ok-seen.ensures.sees start step_state h).goes.step_state refl)))

pub returns-clause-sees : goal.returns-clause-sees
returns-clause-sees g c start step_state h =
    let step_result : StepResult = with_answer c.args.self.now.offered.step (told_with c.args.transfer.now c.args.heard) step_state in
    let heard = c.in_ok-seen.ensures.sees start step_state h in
    sees heard.seen
    (subst (λ (n : ℕ). IsInStep start c.end.new.self (end_phase n step_result.step_state)) c.take_delivery.ensures.leaves.lists.step
    ((c.in_ok-end.ensures.goes start step_result.step_state (heard.goes.step_state refl)).step_state refl))

pub returns-in_err-end-clause-faults : goal.returns-in_err-end-clause-faults
returns-in_err-end-clause-faults g c =
    faults_failed _ c.from_residual-in_err-end.ensures.0 c.from_residual-in_err-end.ensures.1 (faults_in_turn c.puts_go_on.ensures refl c.in_ok-seen.ensures.leaves.faults c.in_err-end.ensures.faults)

pub returns-clause-faults : goal.returns-clause-faults
returns-clause-faults g c = faults_in_turn c.puts_go_on.ensures refl c.in_ok-seen.ensures.leaves.faults c.in_ok-end.ensures.faults
