use Rattle.std.proofs.Common.{arith}
use Rattle.cmd_new_laws.proofs.AboveRows.{come_above}
use Rattle.cmd_new_laws.proofs.laws.members_come_above_terms.Goals as goal

pub returns : goal.returns
returns c = λ ids terms members many low. come_above ids members many terms (λ n i. let most = low n i in omega (arith, most))
