use Rattle.service_leader.proofs.AnswersOffered.{answers}
use Rattle.service_leader.proofs.laws.calls_are_answered.Goals as goal

pub returns : goal.returns
returns c = λ m x request w row delivers me what says listed. answers m x request w row delivers me what says listed
