use Rattle.service_leader.proofs.AnswersTaken.{steps_down, takes}
use Rattle.service_leader.proofs.laws.answers_are_taken.Goals as goal

pub returns : goal.returns
returns c = λ n moment y request says w row delivers me what read waits soon. (
  takes n moment y request says w row delivers me what read waits soon,
  steps_down n moment y request says w row delivers me what read waits soon,
)
