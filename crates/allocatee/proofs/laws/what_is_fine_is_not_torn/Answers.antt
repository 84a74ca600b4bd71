use Rattle.allocatee.proofs.Untorn.{untorn}
use Rattle.allocatee.proofs.laws.what_is_fine_is_not_torn.Goals as goal

pub returns : goal.returns
returns c = untorn
