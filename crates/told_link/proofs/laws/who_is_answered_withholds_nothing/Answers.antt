use Rattle.told_link.proofs.Followers.{enough_follow}
use Rattle.told_link.proofs.laws.who_is_answered_withholds_nothing.Goals as goal

pub returns-clause-majority : goal.returns-clause-majority
returns-clause-majority c = enough_follow
