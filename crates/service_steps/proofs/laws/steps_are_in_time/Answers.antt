use Rattle.std.proofs.Common.{max, subst, sym}
use Rattle.alloc_spec.specs.StepState.{StepState}
use Rattle.alloc_spec_laws.specs.Phases.{when_told}
use Rattle.service_steps.proofs.InTime.{in_touch, waited}
use Rattle.service_steps.proofs.Overdue.{no_call_is_old}
use Rattle.service_steps.proofs.StaysFollower.{stays_follower}
use Rattle.service_steps.proofs.WaitsAnew.{waits_anew}
use Rattle.service_steps.proofs.laws.steps_are_in_time.Goals as goal
use Rattle.service_steps.specs.InTime.{IsInTouch}

pub returns : goal.returns
returns c = record {
  stands = λ t number now word knows waits role term.
      c.duty_of_a_step.ensures.tick t number now word knows (waited t.times (max t.now now) waits) role term;
  in_touch = λ t number event peer leads i.
      subst (λ (g : StepState). IsInTouch peer g) (sym (c.duty_of_a_step.ensures.phases t number event)) (in_touch number (when_told t number event) peer leads i);
  calls = no_call_is_old;
  waits = waits_anew;
  follows = stays_follower;
}
