use Rattle.spaced_link.proofs.Spaced.{apart}
use Rattle.spaced_link.proofs.laws.allocations_go_out_apart.Goals as goal

pub returns : goal.returns
returns c = apart
