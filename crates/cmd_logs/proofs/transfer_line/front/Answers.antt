use Rattle.std.proofs.Common.{◌++◌, ◌∙◌, ap, arith}
use Rattle.std.proofs.lemmas.Grind.{common_steps}
use Rattle.hex.specs.Hex.{encode_lower}
use Rattle.cmd_logs.specs.Watched.{payload_word}
use Rattle.cmd_logs.proofs.Payloads.{digits_word, take_least}
use Rattle.cmd_logs.proofs.transfer_line.front.Goals as goal

pub returns-else-is_empty-clause-text : goal.returns-else-is_empty-clause-text
returns-else-is_empty-clause-text c =
    let front = c.split_at.result.0.now in
    let all = c.split_at.ensures.front ∙ take_least c.min.result 200 c.args.payload.now c.min.ensures in
    c.put_digits.ensures.text ∙ ap (λ l. l ++ encode_lower front) c.new-line.ensures
    ∙ digits_word front (grind (arith, common_steps))
    ∙ ap payload_word all
