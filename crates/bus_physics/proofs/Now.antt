-- The moment of a server after a step is that of the step.
use Rattle.std.proofs.Common.{◌≡◌, ℕ, refl, ◌∙◌}
use Rattle.std.specs.Prelude.{⊤, max}
use Rattle.alloc_spec.specs.AllocatorState.{AllocatorState}
use Rattle.alloc_spec.specs.Step.{Event, moment_of, step}
use Rattle.alloc_spec_laws.proofs.KeptBySteps.{step_keeps}
use Rattle.bus_agreement.specs.StepLaws.{StepLaws}
use Rattle.bus_physics.proofs.Members.{MemberLaws}

pub now_of_a_step : (t : AllocatorState) (number : ℕ) (event : Event) → (step t number event).step_state.allocator.now ≡ max t.now (moment_of event)
now_of_a_step t number event =
    step_keeps number event (λ g. g.allocator.now ≡ max t.now (moment_of event)) (λ d. ⊤) (record {
      takes_keep = λ given moves g quiet decided h. h;
      proposes_keep = λ origin uid node g found h. h;
      sends_keep = λ what to payload says g sends h. h;
      calls_keep = λ what peer move request payload g makes fits h. h;
      responds_keep = λ what d payload says g comes responds h. h;
      changes_keep = λ u g like h. like.now ∙ h;
      watches_keep = λ node happens g has h. h;
      tells_keep = λ g h. h;
      hears_keep = λ d message g comes kind other read h. h;
    }) t (λ arrival is d e. tt) refl

-- what is said of a step, as it is used here
pub laws_of : StepLaws → MemberLaws
laws_of steps = record { heard = steps.heard; ticked = steps.ticked; me = steps.me; called = steps.called; now = now_of_a_step; kept = steps.kept }
