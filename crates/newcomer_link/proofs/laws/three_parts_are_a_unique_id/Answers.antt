use Rattle.newcomer_link.proofs.Whole.{whole}
use Rattle.newcomer_link.proofs.laws.three_parts_are_a_unique_id.Goals as goal

pub returns : goal.returns
returns c = whole
