use Rattle.std.proofs.Common.{arith, rules}
use Rattle.replay_text.proofs.Numbers.{length-decoded}
use Rattle.replay_text.proofs.schedule.read_repeated.Goals as goal

pub returns-clause-found : goal.returns-clause-found
returns-clause-found c =
    let read = c.in_ok-bytes.ensures.found in
    (record { filled = search rules; short = omega arith; each = (length-decoded _ _ read.1).1 }, read.1)
