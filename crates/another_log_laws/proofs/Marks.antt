-- Marks and numbers of steps make no call one of another log.
use Rattle.std.proofs.Common.{◌≡◌, ℕ, List, map, refl, sym, ap, ◌∙◌, Option, None}
use Rattle.std.specs.Prelude.{max, if◌then◌else◌}
use Rattle.transfer_rx.specs.Reassembly.{Answer, Arrival, Setting, answer, delivered}
use Rattle.transfer_rx.specs.Reassembly.Answer.{Continues, Drops, Gives}
use Rattle.transfer_rx.specs.Sessions.{Session}
use Rattle.transfer_rx.specs.Unmarked.{unmarked, unmarked_answer, unmarked_arrival}
use Rattle.alloc_ghost_erasure.specs.Unmarked.{unmarked_event, unmarked_server}
use Rattle.alloc_server.specs.AnotherLog.{another_log, caller_by, caller_in, is_told}
use Rattle.alloc_spec.specs.Accepted.{setting_for}
use Rattle.alloc_spec.specs.AllocatorState.{AllocatorState}
use Rattle.alloc_spec.specs.Step.{Event}
use Rattle.alloc_spec.specs.Step.Event.{Rx, Tick}

-- of an answer of the receiver
abbrev caller_from : AllocatorState → Answer → Option ℕ
caller_from t a = if is_told t then caller_in t (delivered a) else None

abbrev at_its_moment : AllocatorState → Arrival → Arrival
at_its_moment t arrival = record arrival { moment = max t.now arrival.moment }

unmarked_same : (t : AllocatorState) (a : Answer) → caller_from t a ≡ caller_from (unmarked_server t) (unmarked_answer a)
unmarked_same t (Gives d) = refl
unmarked_same t Continues = refl
unmarked_same t (Drops why) = refl

module _ (answers : (setting : Setting) (a b : List Session) (x y : Arrival) → map unmarked a ≡ map unmarked b → unmarked_arrival x ≡ unmarked_arrival y
    → unmarked_answer (answer setting a x) ≡ unmarked_answer (answer setting b y)) where
  same_caller : (t u : AllocatorState) (x y : Arrival) → unmarked_server t ≡ unmarked_server u → unmarked_arrival x ≡ unmarked_arrival y
      → caller_by t x ≡ caller_by u y
  unfolding caller_by
  same_caller t u x y same arrivals =
      unmarked_same t (answer (setting_for t.me) t.sessions (at_its_moment t x))
      ∙ ((λ i. caller_from (same i) (answered i))
      ∙ sym (unmarked_same u (answer (setting_for u.me) u.sessions (at_its_moment u y))))
    where
      coming : unmarked_arrival (at_its_moment t x) ≡ unmarked_arrival (at_its_moment u y)
      coming = λ i. at_its_moment (same i) (arrivals i)

      answered : unmarked_answer (answer (setting_for t.me) t.sessions (at_its_moment t x))
          ≡ unmarked_answer (answer (setting_for u.me) u.sessions (at_its_moment u y))
      answered = answers (setting_for t.me) t.sessions u.sessions (at_its_moment t x) (at_its_moment u y) (ap (λ (s : AllocatorState). s.sessions) same) coming
          ∙ ap (λ (me : ℕ). unmarked_answer (answer (setting_for me) u.sessions (at_its_moment u y))) (ap (λ (s : AllocatorState). s.me) same)

  pub same_log : (t u : AllocatorState) (e f : Event) → unmarked_server t ≡ unmarked_server u → unmarked_event e ≡ unmarked_event f
      → another_log t e ≡ another_log u f
  same_log t u (Tick now word) (Tick later other) same events = refl
  same_log t u (Tick now word) (Rx y) same events = absurd (cc (events))
  same_log t u (Rx x) (Tick now word) same events = absurd (cc (events))
  same_log t u (Rx x) (Rx y) same events = same_caller t u x y same (cc (events))
