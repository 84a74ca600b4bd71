use Rattle.raft_model.proofs.Given.{given_once}
use Rattle.raft_model.proofs.laws.law_reservations.Goals as goal

pub returns : goal.returns
returns c = given_once c.node_ids_are_given_once.ensures.pairs c.node_ids_are_given_once.ensures.reserved
