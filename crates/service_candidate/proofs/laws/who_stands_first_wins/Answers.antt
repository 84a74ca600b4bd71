use Rattle.service_candidate.proofs.WinsGrounds.{scene}
use Rattle.service_candidate.proofs.WinsFirst.{leads_alone}
use Rattle.service_candidate.proofs.WinsScene.{Scene}
use Rattle.service_candidate.proofs.WinsWins.{wins_by}
use Rattle.service_candidate.proofs.laws.who_stands_first_wins.Goals as goal

pub returns : goal.returns
returns c = λ ids rows members harmless group clocks pace start k term front rest timed calm behind follow.
    let alone_back = c.votes_come_alone.ensures ids rows members harmless in
    let s : Scene = scene c.what_winners_stand_on.ensures ids members rows harmless alone_back group clocks pace start k term front rest timed calm in
    wins_by s (record { behind = behind; leads_alone = leads_alone s follow })
