use Rattle.told_link.proofs.Silences.{none_counts}
use Rattle.told_link.proofs.laws.no_answer_counts_behind_a_silence.Goals as goal

pub returns : goal.returns
returns c = none_counts
