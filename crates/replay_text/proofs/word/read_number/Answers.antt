use Rattle.std.proofs.Common.{◌≡◌, ◌<◌, ◌∙◌, Some, ap, get_or, length, refl, sym, arith, rules}
use Rattle.std.specs.Fmt.{decimal}
use Rattle.replay_text.proofs.Numbers.{decimal-digits, digits-decimal, leading-decimal}
use Rattle.replay_text.proofs.word.read_number.Goals as goal

pub returns-then-has_leading_zero-clause-none : goal.returns-then-has_leading_zero-clause-none
returns-then-has_leading_zero-clause-none c = λ _ n within spelt.
    omega (arith, leading-decimal n c.args.word.now (omega arith) spelt)

pub returns-then-has_leading_zero-clause-only : goal.returns-then-has_leading_zero-clause-only
returns-then-has_leading_zero-clause-only c = λ n within spelt.
    absurd (omega (arith, leading-decimal n c.args.word.now (omega arith) spelt))

pub returns-in_err-n-clause-none : goal.returns-in_err-n-clause-none
returns-in_err-n-clause-none c = λ _ n within spelt.
    let digits = digits-decimal n c.args.word.now (omega arith) spelt in
    c.in_err-n.ensures.none refl digits.0 (omega arith)

pub returns-in_err-n-clause-only : goal.returns-in_err-n-clause-only
returns-in_err-n-clause-only c = λ n within spelt.
    let digits = digits-decimal n c.args.word.now (omega arith) spelt in
    absurd (c.in_err-n.ensures.none refl digits.0 (omega arith))

pub returns-then-n-most-clause-none : goal.returns-then-n-most-clause-none
returns-then-n-most-clause-none c = λ _ n within spelt.
    let digits = digits-decimal n c.args.word.now (omega arith) spelt in
    omega (arith, c.in_ok-n.ensures.found)

pub returns-then-n-most-clause-only : goal.returns-then-n-most-clause-only
returns-then-n-most-clause-only c = λ n within spelt.
    let digits = digits-decimal n c.args.word.now (omega arith) spelt in
    absurd (omega (arith, c.in_ok-n.ensures.found))

pub returns-clause-found : goal.returns-clause-found
returns-clause-found c =
    let found = c.in_ok-n.ensures.found in
    let short : get_or c.args.word.now 0 0 ≡ 48 → 1 < length c.args.word.now → ⊥ = λ zero long. search (rules, c.has_leading_zero.ensures.1 (long, zero)) in
    let spelt = decimal-digits c.args.word.now found.0 (λ zero. omega (arith, short zero)) (omega arith) in
    (c.if-n-most.false, spelt ∙ ap decimal (sym found.1))

pub returns-clause-only : goal.returns-clause-only
returns-clause-only c = λ n within spelt.
    let digits = digits-decimal n c.args.word.now (omega arith) spelt in
    let found = c.in_ok-n.ensures.found in
    ap Some (omega arith)
