use Rattle.cmd_replace.proofs.Modelled.{model_allows}
use Rattle.cmd_replace.proofs.laws.the_model_allows_it.Goals as goal

pub returns : goal.returns
returns c = model_allows
