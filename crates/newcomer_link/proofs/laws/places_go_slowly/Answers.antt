use Rattle.newcomer_link.proofs.Places.{slowly}
use Rattle.newcomer_link.proofs.laws.places_go_slowly.Goals as goal

pub returns-clause-places : goal.returns-clause-places
returns-clause-places c = slowly
