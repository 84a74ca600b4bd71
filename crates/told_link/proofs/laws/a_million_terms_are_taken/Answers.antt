use Rattle.told_link.proofs.Ceilings.{refused, taken}
use Rattle.told_link.proofs.laws.a_million_terms_are_taken.Goals as goal

pub returns-clause-taken : goal.returns-clause-taken
returns-clause-taken c = taken

pub returns-clause-refused : goal.returns-clause-refused
returns-clause-refused c = refused
