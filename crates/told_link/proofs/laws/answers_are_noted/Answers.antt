use Rattle.told_link.proofs.Followers.{none_answered, reading_is}
use Rattle.told_link.proofs.laws.answers_are_noted.Goals as goal

pub returns-clause-first : goal.returns-clause-first
returns-clause-first c = none_answered

pub returns-clause-noted : goal.returns-clause-noted
returns-clause-noted c = reading_is
