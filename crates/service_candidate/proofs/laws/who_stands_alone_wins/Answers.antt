use Rattle.service_candidate.proofs.WinsGrounds.{scene}
use Rattle.service_candidate.proofs.WinsWins.{wins_by}
use Rattle.service_candidate.proofs.laws.who_stands_alone_wins.Goals as goal

pub returns : goal.returns
returns c = λ ids rows members harmless group clocks pace start k term front rest timed calm behind alone.
    let alone_back = c.votes_come_alone.ensures ids rows members harmless in
    wins_by (scene c.what_winners_stand_on.ensures ids members rows harmless alone_back group clocks pace start k term front rest timed calm) (record { behind = behind; leads_alone = alone })
