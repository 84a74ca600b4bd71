use Rattle.cmd_new_laws.proofs.Images.{made_stands}
use Rattle.cmd_new_laws.proofs.laws.a_made_store_is_one_that_stood.Goals as goal

pub returns : goal.returns
returns c = made_stands c.a_new_store_has_its_version_alone.ensures c.a_store_above_a_term_has_term_and_vote.ensures
