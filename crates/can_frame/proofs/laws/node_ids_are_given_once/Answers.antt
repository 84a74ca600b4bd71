use Rattle.can_frame.proofs.Logs.{pairs_differ, reserved_differ}
use Rattle.can_frame.proofs.laws.node_ids_are_given_once.Goals as goal

pub returns-clause-pairs : goal.returns-clause-pairs
returns-clause-pairs c = λ log i j injective below within. pairs_differ log injective i j below within

pub returns-clause-reserved : goal.returns-clause-reserved
returns-clause-reserved c = λ log i j injective below within. reserved_differ log injective i j below within
