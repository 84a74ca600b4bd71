use Rattle.newcomer_link.proofs.Kept.{keeps}
use Rattle.newcomer_link.proofs.laws.what_was_told_counts.Goals as goal

pub returns : goal.returns
returns c = keeps
