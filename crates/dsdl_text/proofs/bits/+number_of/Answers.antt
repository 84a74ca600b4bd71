use Rattle.std.proofs.Common.{◌+◌, ◌*◌, arith, length}
use Rattle.std.proofs.lemmas.List.{take_rest}
use Rattle.dsdl_text.proofs.BytesOfBits.{below_64, number-split, sum_fits}
use Rattle.dsdl_text.proofs.bits.+number_of.Goals as goal

pub overflow_mul-result : goal.overflow_mul-result
overflow_mul-result t c =
    let sum = sum_fits c.args.bits.now c.high_first-2.result c.number_of.result c.if-bits-lt8.false c.high_first-2.ensures.fits c.number_of.ensures.fits in
    let small = below_64 (c.high_first-2.result + 256 * c.number_of.result) (length c.args.bits.now) c.requires sum in
    omega arith

pub overflow_add-result : goal.overflow_add-result
overflow_add-result t c =
    let sum = sum_fits c.args.bits.now c.high_first-2.result c.number_of.result c.if-bits-lt8.false c.high_first-2.ensures.fits c.number_of.ensures.fits in
    let small = below_64 (c.high_first-2.result + 256 * c.number_of.result) (length c.args.bits.now) c.requires sum in
    omega arith

pub returns-clause-fits : goal.returns-clause-fits
returns-clause-fits t c =
    sum_fits c.args.bits.now c.high_first-2.result c.number_of.result c.if-bits-lt8.false c.high_first-2.ensures.fits c.number_of.ensures.fits

pub returns-clause-value : goal.returns-clause-value
returns-clause-value t c =
    let split = number-split c.args.bits.now c.if-bits-lt8.false in
    let rest = take_rest c.args.bits.now 8 in
    cc
