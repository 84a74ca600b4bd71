use Rattle.std.proofs.Common.{refl, sym}
use Rattle.can_logs.specs.Slcan.{other_letters}
use Rattle.can_logs.proofs.Letters.{found_in, not_in}
use Rattle.can_logs.proofs.slcan.skipped.Goals as goal

pub returns-then-contains-clause-found : goal.returns-then-contains-clause-found
returns-then-contains-clause-found c = (refl, found_in other_letters c.args.letter (sym c.if-contains.ensures.value))

pub returns-else-contains-clause-only : goal.returns-else-contains-clause-only
returns-else-contains-clause-only c = λ has. absurd (not_in other_letters c.args.letter (sym c.if-contains.ensures.value) has)
