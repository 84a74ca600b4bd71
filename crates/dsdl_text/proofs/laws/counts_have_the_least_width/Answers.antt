use Rattle.dsdl_text.proofs.Taking.{width_holds, width_least}
use Rattle.dsdl_text.proofs.laws.counts_have_the_least_width.Goals as goal

pub returns-clause-holds : goal.returns-clause-holds
returns-clause-holds c = width_holds

pub returns-clause-least : goal.returns-clause-least
returns-clause-least c = width_least
