use Rattle.told_link.proofs.Ceilings.{slowly}
use Rattle.told_link.proofs.laws.terms_go_up_slowly.Goals as goal

pub returns : goal.returns
returns c = slowly
