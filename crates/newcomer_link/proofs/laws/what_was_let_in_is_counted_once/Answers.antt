use Rattle.newcomer_link.proofs.Counted.{asked_once, heard_once}
use Rattle.newcomer_link.proofs.laws.what_was_let_in_is_counted_once.Goals as goal

pub returns-clause-asked : goal.returns-clause-asked
returns-clause-asked c = asked_once

pub returns-clause-heard : goal.returns-clause-heard
returns-clause-heard c = heard_once
