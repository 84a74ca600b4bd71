-- The whole step, and what goes out between steps.
use Rattle.std.proofs.Common.{◌≡◌, ℕ, List, map, refl, sym, ap, ◌∙◌}
use Rattle.can_frame.specs.declared.step.Seen.TheVariants.{Dropped, Part, Ticked}
use Rattle.transfer_rx.specs.Reassembly.{Answer, Arrival, Setting, answer, next}
use Rattle.transfer_rx.specs.Reassembly.Answer.{Continues, Drops, Gives}
use Rattle.transfer_rx.specs.Sessions.{Session}
use Rattle.transfer_rx.specs.Unmarked.{unmarked, unmarked_answer, unmarked_arrival}
use Rattle.alloc_spec.specs.Accepted.{setting_for}
use Rattle.alloc_spec.specs.Delivered.{StepResult}
use Rattle.alloc_spec.specs.StepState.{StepState}
use Rattle.alloc_spec.specs.Step.{Event, at_sessions, at_step, begin_phase, with_end_phase, event_phase, moment_of, receive_phase, step, with_answer, with_sessions}
use Rattle.alloc_spec.specs.Step.Event.{Rx, Tick}
use Rattle.alloc_spec.specs.AllocatorState.{AllocatorState}
use Rattle.alloc_ghost_erasure.specs.Unmarked.{unmarked_event, unmarked_step_state, unmarked_server, unmarked_step_result}
use Rattle.alloc_ghost_erasure.proofs.Delivered.{SameSight, delivers_same}
use Rattle.alloc_ghost_erasure.proofs.Phases.{begins_same, ends_same, ticks_same}
use Rattle.alloc_ghost_erasure.proofs.Steps.{Same, itself}
use Rattle.alloc_ghost_erasure.proofs.Twice.{twice_server, twice_sessions}

ended_same : (s r : ℕ) (x y : StepResult) → SameSight x y → SameSight (with_end_phase s x) (with_end_phase r y)
ended_same s r x y e = λ i. record { seen = (e i).seen; step_state = ends_same s r x.step_state y.step_state (λ j. (e j).step_state) i }

answer_same : (s r : ℕ) (a : Answer) (g : StepState) → SameSight (with_answer s a g) (with_answer r (unmarked_answer a) (unmarked_step_state g))
answer_same s r (Gives d) g = delivers_same s r d g
answer_same s r Continues g = λ i. record { seen = Part; step_state = itself g i }
answer_same s r (Drops why) g = λ i. record { seen = Dropped why; step_state = itself g i }

answers_alike : (s r : ℕ) (a b : Answer) (g h : StepState) → unmarked_answer a ≡ unmarked_answer b → Same g h → SameSight (with_answer s a g) (with_answer r b h)
answers_alike s r a b g h e f =
    answer_same s 0 a g ∙ (λ i. unmarked_step_result (with_answer 0 (e i) (f i))) ∙ sym (answer_same r 0 b h)

module _ (answers : (setting : Setting) (a b : List Session) (x y : Arrival) → map unmarked a ≡ map unmarked b → unmarked_arrival x ≡ unmarked_arrival y
    → unmarked_answer (answer setting a x) ≡ unmarked_answer (answer setting b y))
    (sessions : (setting : Setting) (a b : List Session) (x y : Arrival) → map unmarked a ≡ map unmarked b → unmarked_arrival x ≡ unmarked_arrival y
    → map unmarked (next setting a x) ≡ map unmarked (next setting b y)) where
  receives_same : (s r : ℕ) (x : Arrival) (g : StepState) → SameSight (receive_phase s x g) (receive_phase r (unmarked_arrival x) (unmarked_step_state g))
  receives_same s r x g =
      answers_alike s r _ _ (with_sessions x g) (with_sessions (unmarked_arrival x) (unmarked_step_state g))
      (answers (setting_for g.allocator.me) g.allocator.sessions (map unmarked g.allocator.sessions) (at_step g.allocator x) (at_step g.allocator (unmarked_arrival x)) (sym (twice_sessions g.allocator.sessions)) refl)
      (same (next (setting_for g.allocator.me) g.allocator.sessions (at_step g.allocator x)) (next (setting_for g.allocator.me) (map unmarked g.allocator.sessions) (at_step g.allocator (unmarked_arrival x)))
      (sessions (setting_for g.allocator.me) g.allocator.sessions (map unmarked g.allocator.sessions) (at_step g.allocator x) (at_step g.allocator (unmarked_arrival x)) (sym (twice_sessions g.allocator.sessions)) refl))
    where
      same : (a b : List Session) → map unmarked a ≡ map unmarked b → Same (at_sessions a g) (at_sessions b (unmarked_step_state g))
      same a b e = λ i. record (itself g i) { allocator = record (itself g i).allocator { sessions = e i } }

  event_same : (s r : ℕ) (event : Event) (g : StepState) → SameSight (event_phase s event g) (event_phase r (unmarked_event event) (unmarked_step_state g))
  event_same s r (Tick now word) g = λ i. record { seen = Ticked; step_state = ticks_same word s r g (unmarked_step_state g) (itself g) i }
  event_same s r (Rx arrival) g = receives_same s r arrival g

  moment_same : (event : Event) → moment_of event ≡ moment_of (unmarked_event event)
  moment_same (Tick now word) = refl
  moment_same (Rx arrival) = refl

  step_same : (s r : ℕ) (t : AllocatorState) (event : Event) → SameSight (step t s event) (step (unmarked_server t) r (unmarked_event event))
  unfolding step
  step_same s r t event =
      ended_same s r (event_phase s event (begin_phase s (moment_of event) t)) (event_phase r (unmarked_event event) (begin_phase r (moment_of (unmarked_event event)) (unmarked_server t)))
      (event_same s 0 event (begin_phase s (moment_of event) t)
      ∙ (λ i. unmarked_step_result (event_phase 0 (unmarked_event event) (began i)))
      ∙ sym (event_again (begin_phase r (moment_of (unmarked_event event)) (unmarked_server t))))
    where
      began : unmarked_step_state (begin_phase s (moment_of event) t) ≡ unmarked_step_state (begin_phase r (moment_of (unmarked_event event)) (unmarked_server t))
      began = begins_same s r (moment_of event) t (unmarked_server t) (sym (twice_server t))
          ∙ ap (λ (now : ℕ). unmarked_step_state (begin_phase r now (unmarked_server t))) (moment_same event)

      twice_event : (e : Event) → unmarked_event (unmarked_event e) ≡ unmarked_event e
      twice_event (Tick now word) = refl
      twice_event (Rx arrival) = refl

      event_again : (h : StepState) → SameSight (event_phase r (unmarked_event event) h) (event_phase 0 (unmarked_event event) (unmarked_step_state h))
      event_again h = event_same r 0 (unmarked_event event) h ∙ ap (λ (e : Event). unmarked_step_result (event_phase 0 e (unmarked_step_state h))) (twice_event event)

  pub steps_same : (t u : AllocatorState) (m n : ℕ) (e f : Event) → unmarked_server t ≡ unmarked_server u → unmarked_event e ≡ unmarked_event f
      → unmarked_step_result (step t m e) ≡ unmarked_step_result (step u n f)
  steps_same t u m n e f same events =
      step_same m 0 t e ∙ (λ i. unmarked_step_result (step (same i) 0 (events i))) ∙ sym (step_same n 0 u f)
