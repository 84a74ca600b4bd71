use Rattle.std.proofs.Common.{arith, ap, ◌∙◌, length, ℕ}
use Rattle.std.proofs.lemmas.Fmt.{length-decimal-le}
use Rattle.std.proofs.lemmas.List.{length-replicate}
use Rattle.can_logs.proofs.word.put_padded.Goals as goal

pub overflow_sub-width : goal.overflow_sub-width
overflow_sub-width c =
    let digits = ap length (c.as_bytes-digits.ensures.value ∙ c.format.ensures.text) in
    let few = length-decimal-le c.args.width c.args.n (omega arith) c.requires.fits (omega arith) in
    omega (arith, digits, few)

pub put-requires-2 : goal.put-requires-2
put-requires-2 c =
    let digits = ap length (c.as_bytes-digits.ensures.value ∙ c.format.ensures.text) in
    let few = length-decimal-le c.args.width c.args.n (omega arith) c.requires.fits (omega arith) in
    let zeros = ap length c.zeros.ensures ∙ length-replicate {A = ℕ} _ 48 in
    (omega arith, omega (arith, digits, few, zeros, c.put.ensures.len))

pub returns-clause-len : goal.returns-clause-len
returns-clause-len c =
    let digits = ap length (c.as_bytes-digits.ensures.value ∙ c.format.ensures.text) in
    let few = length-decimal-le c.args.width c.args.n (omega arith) c.requires.fits (omega arith) in
    let zeros = ap length c.zeros.ensures ∙ length-replicate {A = ℕ} _ 48 in
    omega (arith, digits, few, zeros, c.put.ensures.len, c.put-2.ensures.len)
