use Rattle.std.proofs.Common.{◌≡◌, ◌<◌, Some, ap, arith, length, take, take_all, ◌∙◌, append-nil}
use Rattle.std.specs.Fmt.{decimal}
use Rattle.replay_text.proofs.Front.{last-front, not-unread, numeral-text, read-number, text-numeral}
use Rattle.replay_text.proofs.Visible.{number-alone}
use Rattle.replay_text.proofs.word.last_number.Goals as goal
use Rattle.replay_text.proofs.word.last_number.Goals.{then-size-text-via-then-size-text, then-size-text-via-else-size-text+then-not-is_numeral}

pub returns-in_err-n-clause-only : goal.returns-in_err-n-clause-only
returns-in_err-n-clause-only c = λ n within spelt.
    absurd (not-unread _ _ c.args.most n (last-front c.args.text.now c.args.most n (omega (arith, within)) within spelt) c.in_err-n.ensures.exact)

pub returns-then-size-text-clause-only : goal.returns-then-size-text-clause-only
returns-then-size-text-clause-only c = λ n within spelt.
    let front = last-front c.args.text.now c.args.most n (omega (arith, within)) within spelt in
    let read = read-number _ _ c.args.most n c.in_ok-n.n c.in_ok-n.size front c.in_ok-n.ensures.exact in
    let text = front.is ∙ append-nil (decimal n) in
    elim c.then-size-text.branch [
      | then-size-text-via-then-size-text w ↦ absurd (omega (arith, ap length text, read.1, w.if-size-text.true))
      | then-size-text-via-else-size-text+then-not-is_numeral w ↦
          let is = w.is_numeral.ensures.1 (text-numeral _ n (omega (arith, within)) text) in
          absurd (cc (is, w.if-not-is_numeral.true))
    ]

pub returns-clause-found : goal.returns-clause-found
returns-clause-found c =
    let front = c.in_ok-n.ensures.found in
    let numeral = c.is_numeral.ensures.0 c.if-not-is_numeral.false in
    let small : c.in_ok-n.n < 18446744073709551616 = omega (arith, front.0) in
    let whole : take c.in_ok-n.size c.args.text.now ≡ c.args.text.now = take_all c.in_ok-n.size c.args.text.now (omega (arith, c.if-size-text.false)) in
    let text = numeral-text c.args.text.now c.in_ok-n.n small (rw (← whole) front.2) (rw (← whole) front.3) numeral.0 numeral.1 in
    (front.0, number-alone c.in_ok-n.n c.args.text.now small text)

pub returns-clause-only : goal.returns-clause-only
returns-clause-only c = λ n within spelt.
    let front = last-front c.args.text.now c.args.most n (omega (arith, within)) within spelt in
    ap Some (read-number _ _ c.args.most n c.in_ok-n.n c.in_ok-n.size front c.in_ok-n.ensures.exact).0
