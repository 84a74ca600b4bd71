use Rattle.allocatee.proofs.Waits.{follows_in_time, only_answers}
use Rattle.allocatee.proofs.times.it_follows_up_within_400_ms.Goals as goal

pub returns-clause-only : goal.returns-clause-only
returns-clause-only c = λ o happenings number event part asks. only_answers o happenings number event part asks

pub returns-clause-within : goal.returns-clause-within
returns-clause-within c = λ o happenings number now word known moment was free few late. follows_in_time o happenings number now word known moment was free few late
