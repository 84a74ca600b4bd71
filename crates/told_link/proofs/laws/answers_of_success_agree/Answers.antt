use Rattle.told_link.proofs.WholeFrames.{of_success, says}
use Rattle.told_link.proofs.laws.answers_of_success_agree.Goals as goal

pub returns-clause-answers : goal.returns-clause-answers
returns-clause-answers c = says

pub returns-clause-alone : goal.returns-clause-alone
returns-clause-alone c = of_success
