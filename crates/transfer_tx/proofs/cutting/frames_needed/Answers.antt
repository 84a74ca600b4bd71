use Rattle.std.proofs.Common.{ap, ◌∙◌}
use Rattle.can_frame.specs.Cutting.{frame_count}
use Rattle.transfer_tx.proofs.Cuts.{count_of_long, count_of_short}
use Rattle.transfer_tx.proofs.cutting.frames_needed.Goals as goal

pub returns-then-len-le7-clause-cutting : goal.returns-then-len-le7-clause-cutting
returns-then-len-le7-clause-cutting c = λ signature id payload e.
    c.lengths_of_cuttings.ensures.count signature id payload ∙ ap frame_count e ∙ count_of_short c.args.len c.if-len-le7.true

pub returns-else-len-le7-clause-cutting : goal.returns-else-len-le7-clause-cutting
returns-else-len-le7-clause-cutting c = λ signature id payload e.
    c.lengths_of_cuttings.ensures.count signature id payload ∙ ap frame_count e ∙ count_of_long c.args.len c.if-len-le7.false
