use Rattle.alloc_spec_laws.proofs.MadeCalls.{calls_are_made, opening_keeps_calls, popped_keeps_calls, step_keeps_calls}
use Rattle.alloc_spec_laws.proofs.laws.calls_of_a_step.Goals as goal

pub returns : goal.returns
returns c = record { made = calls_are_made; kept = step_keeps_calls; opening = opening_keeps_calls; popped = popped_keeps_calls }
