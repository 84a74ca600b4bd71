use Rattle.std.proofs.Common.{◌≡◌, ◌+◌, ◌++◌, ap, arith, length, length-append, rules, sym, take, ◌∙◌}
use Rattle.std.specs.Fmt.{decimal}
use Rattle.std.proofs.lemmas.Fmt.{decimal_digit, length-decimal-le}
use Rattle.std.proofs.lemmas.List.{length-take-le}
use Rattle.replay_text.proofs.Digits.{behind_front}
use Rattle.replay_text.proofs.line.Line.number.Goals as goal

pub returns-then-n-lt10-clause-text : goal.returns-then-n-lt10-clause-text
returns-then-n-lt10-clause-text c = search (rules, decimal_digit c.args.n (omega arith))

pub overflow_add-end : goal.overflow_add-end
overflow_add-end c = omega (arith, length-decimal-le 20 c.args.n (omega arith) (omega arith) (omega arith))

pub write_digits-requires : goal.write_digits-requires
write_digits-requires c =
    let held : length c.args.self.now ≡ c.self.inside.len =
    ap length (sym c.self.view_is) ∙ length-take-le c.self.inside.len c.self.inside.bytes (omega arith) in
    (omega arith, omega (arith, held, length-decimal-le 20 c.args.n (omega arith) (omega arith) (omega arith)))

pub returns-clause-text : goal.returns-clause-text
returns-clause-text c =
    let here : c.write_digits.result ≡ c.self.inside.len = omega (arith, c.write_digits.ensures.start) in
    behind_front c.self.inside.bytes c.write_digits.new.buf (decimal c.args.n) c.write_digits.result (c.self.inside.len + c.count_digits.result)
    c.write_digits.ensures.start (omega arith) c.write_digits.ensures.before c.write_digits.ensures.written
    ∙ ap (λ start. take start c.self.inside.bytes ++ decimal c.args.n) here
    ∙ ap (λ front. front ++ decimal c.args.n) c.self.view_is

pub returns-clause-len : goal.returns-clause-len
returns-clause-len c =
    omega (
      arith,
      ap length (returns-clause-text c),
      length-append c.args.self.now (decimal c.args.n),
      length-decimal-le 20 c.args.n (omega arith) (omega arith) (omega arith),
    )

pub returns-clause-short : goal.returns-clause-short
returns-clause-short c = λ small.
    omega (
      arith,
      ap length (returns-clause-text c),
      length-append c.args.self.now (decimal c.args.n),
      length-decimal-le 3 c.args.n (omega arith) small (omega arith),
    )
