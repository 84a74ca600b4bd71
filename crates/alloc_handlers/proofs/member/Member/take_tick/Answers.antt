use Rattle.std.proofs.Common.{refl, subst, ◌∙◌, ℕ, None, Some}
use Rattle.alloc_handlers.proofs.Words.{GoesTo, IsInStep, StepState, begin_phase, clock_phase, end_phase}
use Rattle.alloc_spec.specs.Step.{step}
use Rattle.alloc_handlers.proofs.Faults.{faults_failed, faults_in_turn}
use Rattle.alloc_handlers.proofs.Sights.{sees, sees_failed}
use Rattle.alloc_handlers.proofs.Taking.{cut_off}
use Rattle.alloc_handlers.proofs.member.Member.take_tick.Goals as goal

pub returns-in_err-tick-clause-sees : goal.returns-in_err-tick-clause-sees
unfolding step
returns-in_err-tick-clause-sees g c t h =
    let s = c.args.step in
    let g0 : StepState = begin_phase s c.args.now t in
    sees_failed _ c.from_residual.ensures.0 c.from_residual.ensures.1
    (cut_off c.puts_go_on.ensures
    (subst (λ (n : ℕ). GoesTo c.args.self.now.durable c.tick.new.self (clock_phase n c.args.word g0) (Some c.in_err-tick.field-0.0)) c.begin.ensures.step
    (c.in_err-tick.ensures.goes c.args.self.now.durable g0 (c.begin.ensures.step_state t h g0.allocator.sessions)))
    (c.phases_add_puts.ensures.ends s (clock_phase s c.args.word g0)))

pub returns-in_err-end-clause-sees : goal.returns-in_err-end-clause-sees
unfolding step
returns-in_err-end-clause-sees g c t h =
    let s = c.args.step in
    let g0 : StepState = begin_phase s c.args.now t in
    let g1 : StepState = clock_phase s c.args.word g0 in
    let ticked = subst (λ (n : ℕ). GoesTo c.args.self.now.durable c.tick.new.self (clock_phase n c.args.word g0) None) c.begin.ensures.step
    (c.in_ok-tick.ensures.goes c.args.self.now.durable g0 (c.begin.ensures.step_state t h g0.allocator.sessions)) in
    sees_failed _ c.from_residual-in_err-end.ensures.0 c.from_residual-in_err-end.ensures.1
    (subst (λ (n : ℕ). GoesTo c.args.self.now.durable c.end.new.self (end_phase n g1) (Some c.in_err-end.field-0.0)) (c.tick.ensures.leaves.lists.step ∙ c.begin.ensures.step)
    (c.in_err-end.ensures.goes c.args.self.now.durable g1 (ticked.step_state refl)))

pub returns-clause-sees : goal.returns-clause-sees
unfolding step
returns-clause-sees g c t h =
    let s = c.args.step in
    let g0 : StepState = begin_phase s c.args.now t in
    let g1 : StepState = clock_phase s c.args.word g0 in
    let ticked = subst (λ (n : ℕ). GoesTo c.args.self.now.durable c.tick.new.self (clock_phase n c.args.word g0) None) c.begin.ensures.step
    (c.in_ok-tick.ensures.goes c.args.self.now.durable g0 (c.begin.ensures.step_state t h g0.allocator.sessions)) in
    sees refl
    (subst (λ (n : ℕ). IsInStep c.args.self.now.durable c.end.new.self (end_phase n g1)) (c.tick.ensures.leaves.lists.step ∙ c.begin.ensures.step)
    ((c.in_ok-end.ensures.goes c.args.self.now.durable g1 (ticked.step_state refl)).step_state refl))

pub returns-in_err-end-clause-faults : goal.returns-in_err-end-clause-faults
returns-in_err-end-clause-faults g c =
    faults_failed _ c.from_residual-in_err-end.ensures.0 c.from_residual-in_err-end.ensures.1 (faults_in_turn c.puts_go_on.ensures c.begin.ensures.durable c.in_ok-tick.ensures.leaves.faults c.in_err-end.ensures.faults)

pub returns-clause-faults : goal.returns-clause-faults
returns-clause-faults g c = faults_in_turn c.puts_go_on.ensures c.begin.ensures.durable c.in_ok-tick.ensures.leaves.faults c.in_ok-end.ensures.faults
