use Rattle.spaced_link.proofs.Spaced.{whole}
use Rattle.spaced_link.proofs.laws.allocations_go_out_whole.Goals as goal

pub returns : goal.returns
returns c = whole
