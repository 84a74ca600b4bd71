use Rattle.std.proofs.Common.{arith}
use Rattle.replay_text.proofs.Numbers.{length-decoded}
use Rattle.replay_text.proofs.word.read_bytes.Goals as goal

pub returns-then-count-clause-only : goal.returns-then-count-clause-only
returns-then-count-clause-only g c = λ bytes short read.
    let sized = length-decoded c.args.word.now bytes.items read in
    absurd (omega arith)
