use Rattle.std.proofs.Common.{◌/◌, arith}
use Rattle.std.proofs.lemmas.Fmt.{length-decimal-le}
use Rattle.itoa.proofs.Decimal.{length_four, length_one, length_pair, length_two}
use Rattle.replay_text.proofs.line.+count_digits.Goals as goal

pub overflow_add-result : goal.overflow_add-result
overflow_add-result t c = omega (arith, length-decimal-le 20 (c.args.n / 10000) (omega arith) (omega arith) (omega arith))

pub returns-then-n-lt10 : goal.returns-then-n-lt10
returns-then-n-lt10 t c = omega (arith, length_one c.args.n (omega arith))

pub returns-then-n-lt100 : goal.returns-then-n-lt100
returns-then-n-lt100 t c = omega (arith, length_two c.args.n (omega arith) (omega arith))

pub returns-then-n-lt1000 : goal.returns-then-n-lt1000
returns-then-n-lt1000 t c =
    omega (arith, length_pair c.args.n (omega arith) (omega arith), length_one (c.args.n / 100) (omega arith))

pub returns-then-n-lt10000 : goal.returns-then-n-lt10000
returns-then-n-lt10000 t c =
    omega (arith, length_pair c.args.n (omega arith) (omega arith), length_two (c.args.n / 100) (omega arith) (omega arith))

pub returns-else-n-lt10000 : goal.returns-else-n-lt10000
returns-else-n-lt10000 t c = omega (arith, length_four c.args.n (omega arith) (omega arith))
