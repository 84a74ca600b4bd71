use Rattle.std.proofs.Common.{◌++◌, ◌∙◌, ap, codes}
use Rattle.hex.specs.Hex.{encode_lower}
use Rattle.cmd_logs.proofs.Payloads.{drop_least}
use Rattle.cmd_logs.proofs.transfer_line.back.Goals as goal

pub returns-clause-text : goal.returns-clause-text
returns-clause-text c =
    let back = c.split_at.result.1.now in
    let all = c.split_at.ensures.back ∙ drop_least c.min.result 200 c.args.payload.now c.min.ensures in
    let digits = c.put_digits.ensures.text ∙ ap (λ l. l ++ encode_lower back) c.new-line.ensures ∙ ap encode_lower all in
    c.text.ensures.text ∙ ap (λ l. l ++ codes "\n") digits
