use Rattle.can_frame.proofs.Logs.{blank_more, front, one_more, pair_more, reservation_more}
use Rattle.can_frame.proofs.laws.logs_stay_injective.Goals as goal

pub returns-clause-entry : goal.returns-clause-entry
returns-clause-entry c = one_more

pub returns-clause-blank : goal.returns-clause-blank
returns-clause-blank c = blank_more

pub returns-clause-reservation : goal.returns-clause-reservation
returns-clause-reservation c = reservation_more

pub returns-clause-pair : goal.returns-clause-pair
returns-clause-pair c = pair_more

pub returns-clause-front : goal.returns-clause-front
returns-clause-front c = front
