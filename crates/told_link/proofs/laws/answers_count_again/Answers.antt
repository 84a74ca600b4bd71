use Rattle.told_link.proofs.Silences.{count_again}
use Rattle.told_link.proofs.laws.answers_count_again.Goals as goal

pub returns : goal.returns
returns c = count_again
