use Rattle.replay_text.proofs.FirstLine.{begins, begins_only, begins_long, begins_unended}
use Rattle.replay_text.proofs.laws.a_line_ends_with_a_line_feed.Goals as goal

pub returns-clause-begins : goal.returns-clause-begins
returns-clause-begins c = begins

pub returns-clause-only : goal.returns-clause-only
returns-clause-only c = begins_only

pub returns-clause-unended : goal.returns-clause-unended
returns-clause-unended c = begins_unended

pub returns-clause-long : goal.returns-clause-long
returns-clause-long c = begins_long
