use Rattle.can_logs.proofs.Numbers.{decimal_ascii}
use Rattle.std.proofs.Common.{IsUtf8}
use Rattle.std.proofs.lemmas.Str.{IsUtf8-from_ascii}
use Rattle.can_logs.proofs.word.read_decimal.Goals as goal

pub returns-in-Err-clause-only : goal.returns-in-Err-clause-only
returns-in-Err-clause-only c = λ n is.
    let text : IsUtf8 c.args.word.now = IsUtf8-from_ascii _ (decimal_ascii n c.args.word.now is) in
    absurd (c.in-Err.ensures.cases.0 text)
