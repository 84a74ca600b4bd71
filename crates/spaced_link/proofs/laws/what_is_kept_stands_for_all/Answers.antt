use Rattle.spaced_link.proofs.Spaced.{is_noted, none_out}
use Rattle.spaced_link.proofs.laws.what_is_kept_stands_for_all.Goals as goal

pub returns-clause-first : goal.returns-clause-first
returns-clause-first g c = none_out

pub returns-clause-noted : goal.returns-clause-noted
returns-clause-noted g c = is_noted g.C.Clock.readings
