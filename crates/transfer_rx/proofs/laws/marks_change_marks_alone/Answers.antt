use Rattle.std.proofs.Common.{ap}
use Rattle.transfer_rx.specs.Reassembly.{Step}
use Rattle.transfer_rx.proofs.Unmarking.{same_steps}
use Rattle.transfer_rx.proofs.laws.marks_change_marks_alone.Goals as goal

pub returns-clause-answer : goal.returns-clause-answer
returns-clause-answer c = λ setting a b x y sessions arrivals. ap (λ (s : Step). s.answer) (same_steps setting a b x y sessions arrivals)

pub returns-clause-sessions : goal.returns-clause-sessions
returns-clause-sessions c = λ setting a b x y sessions arrivals. ap (λ (s : Step). s.sessions) (same_steps setting a b x y sessions arrivals)
