use Rattle.told_link.proofs.Listed.{excepted, forged}
use Rattle.told_link.proofs.laws.forged_frames_are_heard.Goals as goal

pub returns-clause-excepted : goal.returns-clause-excepted
returns-clause-excepted c = excepted c.strangers_are_heard.ensures.allocators

pub returns-clause-forged : goal.returns-clause-forged
returns-clause-forged c = forged
