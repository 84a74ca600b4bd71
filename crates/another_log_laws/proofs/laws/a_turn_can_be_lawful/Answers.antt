use Rattle.another_log_laws.proofs.Worked.{lawful_turn}
use Rattle.another_log_laws.proofs.laws.a_turn_can_be_lawful.Goals as goal

pub returns : goal.returns
returns c = lawful_turn c.premises_can_be_met.ensures.run
