use Rattle.service_candidate.proofs.VotesTaken.{takes}
use Rattle.service_candidate.proofs.laws.votes_are_taken.Goals as goal

pub returns : goal.returns
returns c = λ n moment y request says w row delivers me what read waits soon. takes n moment y request says w row delivers me what read waits soon
