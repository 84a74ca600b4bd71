use Rattle.newcomer_link.proofs.TurnedAway.{given_to_none}
use Rattle.newcomer_link.proofs.laws.who_is_turned_away_is_given_no_ids.Goals as goal

pub returns : goal.returns
returns c = given_to_none
