use Rattle.std.proofs.Common.{arith, length, ◌≡◌, ◌<◌, ◌^◌}
use Rattle.can_logs.proofs.Numbers.{decimal_short}
use Rattle.can_logs.proofs.candump.read_digits.Goals as goal

pub overflow_cast-result : goal.overflow_cast-result
overflow_cast-result c =
    let short = decimal_short _ c.args.part.now c.in_ok-micros.ensures.found in
    let six : length c.args.part.now ≡ 6 = omega arith in
    let low : c.in_ok-micros.micros < 10 ^ 6 = rw six at short in
    omega arith
