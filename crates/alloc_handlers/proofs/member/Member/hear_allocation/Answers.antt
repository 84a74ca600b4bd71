use Rattle.std.proofs.Common.{refl, ap, ◌∙◌, Ok}
use Rattle.alloc_handlers.proofs.Words.{SeesTo, StepResult, Took, hears_allocation}
use Rattle.dsdl_codec.specs.Allocation.{allocation_of}
use Rattle.alloc_handlers.proofs.Sights.{read_as, sees, sees_failed}
use Rattle.alloc_handlers.proofs.member.Member.hear_allocation.Goals as goal

pub returns-clause-sees : goal.returns-clause-sees
returns-clause-sees g c start step_state h =
    read_as (λ (r : StepResult). SeesTo start c.take_allocation.new.self r (Ok Took)) (hears_allocation c.args.self.now.offered.step) _ c.in-Some.message step_state (c.in-Some.ensures.value ∙ ap allocation_of c.deref.ensures.0)
    (sees refl ((c.in_ok-take_allocation.ensures.goes start step_state h).step_state refl))

pub returns-in_err-take_allocation-clause-sees : goal.returns-in_err-take_allocation-clause-sees
returns-in_err-take_allocation-clause-sees g c start step_state h =
    read_as (λ (r : StepResult). SeesTo start c.take_allocation.new.self r c.from_residual.result) (hears_allocation c.args.self.now.offered.step) _ c.in-Some.message step_state (c.in-Some.ensures.value ∙ ap allocation_of c.deref.ensures.0)
    (sees_failed _ c.from_residual.ensures.0 c.from_residual.ensures.1 (c.in_err-take_allocation.ensures.goes start step_state h))
