use Rattle.newcomer_link.proofs.Room.{asks_for_one, shows_for_one}
use Rattle.newcomer_link.proofs.laws.who_is_let_in_takes_a_place.Goals as goal

pub returns-clause-asks : goal.returns-clause-asks
returns-clause-asks c = asks_for_one

pub returns-clause-shows : goal.returns-clause-shows
returns-clause-shows c = shows_for_one
