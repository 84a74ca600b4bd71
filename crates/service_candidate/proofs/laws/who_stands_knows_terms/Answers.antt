use Rattle.service_candidate.proofs.WinsGrounds.{scene}
use Rattle.service_candidate.proofs.WinsKnows.{knows_terms}
use Rattle.service_candidate.proofs.laws.who_stands_knows_terms.Goals as goal

pub returns : goal.returns
returns c = λ ids rows members harmless group clocks pace start k term front rest timed calm.
    let alone_back = c.votes_come_alone.ensures ids rows members harmless in
    knows_terms (scene c.what_winners_stand_on.ensures ids members rows harmless alone_back group clocks pace start k term front rest timed calm)
