use Rattle.can_frame.specs.OneKind.{IsWellFormed-prop}
use Rattle.can_frame.proofs.laws.entries_are_of_one_kind.Goals as goal

pub returns-clause-one : goal.returns-clause-one
returns-clause-one c = IsWellFormed-prop
