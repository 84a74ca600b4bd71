use Rattle.std.proofs.Common.{arith, rules}
use Rattle.replay_text.proofs.Numbers.{writes_too_much}
use Rattle.replay_text.proofs.word.value_of_digits.Goals as goal

pub returns-in_err-checked_mul-clause-none : goal.returns-in_err-checked_mul-clause-none
returns-in_err-checked_mul-clause-none c = λ _ numeral small.
    writes_too_much c.args.word.now c.args.word.now c.loop-byte.byte-index c.loop-byte.n c.loop-byte.invariant.writes (omega arith)
    (search rules) (λ fits. c.in_err-checked_mul.ensures (omega arith)) small

pub returns-in_err-n-clause-none : goal.returns-in_err-n-clause-none
returns-in_err-n-clause-none c = λ _ numeral small.
    writes_too_much c.args.word.now c.args.word.now c.loop-byte.byte-index c.loop-byte.n c.loop-byte.invariant.writes (omega arith)
    (search rules) (λ fits. c.in_err-n.ensures (omega (arith, c.in_ok-checked_mul.ensures))) small
