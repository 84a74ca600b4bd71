use Rattle.alloc_ghost_erasure.proofs.Queue.{next_same, popped_same}
use Rattle.alloc_ghost_erasure.proofs.Whole.{steps_same}
use Rattle.alloc_ghost_erasure.proofs.laws.marks_change_marks_alone.Goals as goal

pub returns-clause-step : goal.returns-clause-step
returns-clause-step c = steps_same c.marks_change_marks_alone.ensures.answer c.marks_change_marks_alone.ensures.sessions

pub returns-clause-popped : goal.returns-clause-popped
returns-clause-popped c = popped_same

pub returns-clause-next : goal.returns-clause-next
returns-clause-next c = next_same
