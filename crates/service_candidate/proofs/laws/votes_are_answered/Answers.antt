use Rattle.service_candidate.proofs.VotesOffered.{votes}
use Rattle.service_candidate.proofs.laws.votes_are_answered.Goals as goal

pub returns : goal.returns
returns c = λ m x request w row delivers me what says listed. votes m x request w row delivers me what says listed
