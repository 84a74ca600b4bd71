use Rattle.newcomer_link.proofs.Room.{asks_in_vain, logged_is, shows_in_vain}
use Rattle.newcomer_link.proofs.laws.who_has_no_room_waits.Goals as goal

pub returns-clause-asks : goal.returns-clause-asks
returns-clause-asks c = asks_in_vain

pub returns-clause-shows : goal.returns-clause-shows
returns-clause-shows c = shows_in_vain

pub returns-clause-logged : goal.returns-clause-logged
returns-clause-logged c = logged_is
