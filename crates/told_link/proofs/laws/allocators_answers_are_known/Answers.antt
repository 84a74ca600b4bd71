use Rattle.told_link.proofs.Spellings.{fifth, only, spelt}
use Rattle.told_link.proofs.laws.allocators_answers_are_known.Goals as goal

pub returns-clause-spelt : goal.returns-clause-spelt
returns-clause-spelt c = spelt c.frames_in_order.ensures.before_last

pub returns-clause-only : goal.returns-clause-only
returns-clause-only c = only c.frames_in_order.ensures.before_last c.frames_in_order.ensures.last

pub returns-clause-fifth : goal.returns-clause-fifth
returns-clause-fifth c = fifth c.frames_in_order.ensures.before_last
