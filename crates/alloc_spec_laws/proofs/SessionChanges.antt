-- What becomes of the sessions of a receiver in a step.
use Rattle.std.proofs.Common.{◌≡◌, ℕ, ◌∙◌}
use Rattle.std.specs.Prelude.{max}
use Rattle.transfer_rx.specs.Reassembly.{Answer, Arrival, answer, next}
use Rattle.alloc_spec.specs.Accepted.{setting_for}
use Rattle.alloc_spec.specs.Ending.{end_phase}
use Rattle.alloc_spec.specs.Extends.{Extends}
use Rattle.alloc_spec.specs.StepState.{StepState}
use Rattle.alloc_spec.specs.Step.{at_step, begin_phase, event_phase, step, with_answer, with_sessions}
use Rattle.alloc_spec.specs.Step.Event.{Rx, Tick}
use Rattle.alloc_spec.specs.Tick.{clock_phase}
use Rattle.alloc_spec.specs.AllocatorState.{AllocatorState}

module _ (ticks_keep : (step word : ℕ) (g : StepState) → Extends g (clock_phase step word g))
    (answers_keep : (step : ℕ) (answer : Answer) (g : StepState) → Extends g (with_answer step answer g).step_state)
    (ends_keep : (step : ℕ) (g : StepState) → Extends g (end_phase step g)) where
  pub after_tick : (t : AllocatorState) (number now word : ℕ) → (step t number (Tick now word)).step_state.allocator.sessions ≡ t.sessions
  unfolding step
  after_tick t number now word =
      (ends_keep number (clock_phase number word (begin_phase number now t))).sessions ∙ (ticks_keep number word (begin_phase number now t)).sessions

  pub after_frame : (t : AllocatorState) (number : ℕ) (arrival : Arrival)
      → (step t number (Rx arrival)).step_state.allocator.sessions ≡ next (setting_for t.me) t.sessions (record arrival { moment = max t.now arrival.moment })
  unfolding step
  after_frame t number arrival =
      let g = begin_phase number arrival.moment t in
      let heard = answer (setting_for g.allocator.me) g.allocator.sessions (at_step g.allocator arrival) in
      (ends_keep number (event_phase number (Rx arrival) g).step_state).sessions
      ∙ (answers_keep number heard (with_sessions arrival g)).sessions
