-- Whether a frame may be given to a device in a cluster under test: not where it would complete a transfer of frames
-- that were not made together. A frame from outside, which has step 0, always may.
use Rattle.std.specs.Prelude.{ℕ, not, ◌&&◌, nat_eq, if◌then◌else◌}
use Rattle.can_frame.specs.declared.step.Judged.{Judged}
use Rattle.can_frame.specs.declared.step.Judged.TheVariants.{Fine, Torn}
use Rattle.transfer_rx.specs.Reassembly.{Answer, Arrival, Continues, Drops, Gives}
use Rattle.allocatee.specs.Allocatee.{Device, answer_to}

abbrev pub answer_judgement : ℕ → Answer → Judged
answer_judgement step (Gives d) = if not d.whole && not (nat_eq step 0) then Torn else Fine
answer_judgement step Continues = Fine
answer_judgement step (Drops why) = Fine

-- at the moment of the step that would take it
unfoldable pub arrival_judgement : Device → Arrival → Judged
arrival_judgement d arrival = answer_judgement arrival.mark.step (answer_to d arrival)
