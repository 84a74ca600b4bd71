use Rattle.std.proofs.Common.{◌<◌, arith, take}
use Rattle.std.proofs.lemmas.List.{take_rest}
use Rattle.replay_text.proofs.Front.{digits-before, first-front, first-word, not-unread, numeral-text, read-number, same-number, space-behind, text-numeral}
use Rattle.replay_text.proofs.word.front_number.Goals as goal
use Rattle.replay_text.proofs.word.front_number.Goals.{then-size-text-via-then-size-text, then-size-text-via-else-size-text+then-text-size-ne32}

pub returns-in_err-n-clause-none : goal.returns-in_err-n-clause-none
returns-in_err-n-clause-none c = λ _ n next more within spelt.
    not-unread _ _ c.args.most n (first-front c.args.text.now next more c.args.most n (omega (arith, within)) within spelt) c.in_err-n.ensures.exact

pub returns-then-size-text-clause-none : goal.returns-then-size-text-clause-none
returns-then-size-text-clause-none c = λ _ n next more within spelt.
    let front = first-front c.args.text.now next more c.args.most n (omega (arith, within)) within spelt in
    let read = read-number _ _ c.args.most n c.in_ok-n.n c.in_ok-n.size front c.in_ok-n.ensures.exact in
    let behind = space-behind _ _ c.args.most n c.in_ok-n.size front read.1 in
    elim c.then-size-text.branch [
      | then-size-text-via-then-size-text w ↦ absurd (omega (arith, behind.0, w.if-size-text.true))
      | then-size-text-via-else-size-text+then-text-size-ne32 w ↦ w.if-text-size-ne32.true behind.1
    ]

pub returns-then-not-is_numeral-clause-none : goal.returns-then-not-is_numeral-clause-none
returns-then-not-is_numeral-clause-none c = λ _ n next more within spelt.
    let front = first-front c.args.text.now next more c.args.most n (omega (arith, within)) within spelt in
    let read = read-number _ _ c.args.most n c.in_ok-n.n c.in_ok-n.size front c.in_ok-n.ensures.exact in
    let word = digits-before _ _ c.args.most n c.in_ok-n.size front read.1 in
    let is = c.is_numeral.ensures.1 (text-numeral _ n (omega (arith, within)) word) in
    absurd (cc (is, c.if-not-is_numeral.true))

pub returns-clause-found : goal.returns-clause-found
returns-clause-found c =
    let front = c.in_ok-n.ensures.found in
    let numeral = c.is_numeral.ensures.0 c.if-not-is_numeral.false in
    let small : c.in_ok-n.n < 18446744073709551616 = omega (arith, front.0) in
    let word = numeral-text (take c.in_ok-n.size c.args.text.now) c.in_ok-n.n small front.2 front.3 numeral.0 numeral.1 in
    (front.0, rw take_rest (first-word c.args.text.now c.in_ok-n.n c.in_ok-n.size (omega (arith, front.1, c.if-size-text.false)) c.if-text-size-ne32.false small word))

pub returns-clause-only : goal.returns-clause-only
returns-clause-only c = λ n within same.
    same-number c.in_ok-n.n n (omega (arith, c.in_ok-n.ensures.found.0)) (omega (arith, within)) same
