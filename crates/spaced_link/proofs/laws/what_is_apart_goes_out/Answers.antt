use Rattle.spaced_link.proofs.Spaced.{let_out}
use Rattle.spaced_link.proofs.laws.what_is_apart_goes_out.Goals as goal

pub returns-clause-apart : goal.returns-clause-apart
returns-clause-apart c = let_out
