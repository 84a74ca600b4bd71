use Rattle.newcomer_link.proofs.Parts.{let_in, told_on}
use Rattle.newcomer_link.proofs.laws.who_is_logged_is_let_in.Goals as goal

pub returns-clause-asks : goal.returns-clause-asks
returns-clause-asks c = let_in

pub returns-clause-goes_on : goal.returns-clause-goes_on
returns-clause-goes_on c = told_on
