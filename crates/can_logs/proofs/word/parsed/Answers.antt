use Rattle.can_logs.proofs.Numbers.{decimal_parsed, parsed_decimal}
use Rattle.can_logs.proofs.word.parsed.Goals as goal

pub returns-in-Ok-clause-found : goal.returns-in-Ok-clause-found
returns-in-Ok-clause-found c = parsed_decimal c.in-Ok.n c.args.digits.now c.parse.result c.requires.plain c.parse.ensures.value.0 c.in-Ok.is

pub returns-in-Ok-clause-only : goal.returns-in-Ok-clause-only
returns-in-Ok-clause-only c = λ n is. let read = decimal_parsed n c.args.digits.now c.parse.result c.requires.few c.parse.ensures.value.0 is in cc

pub returns-in-Err-clause-only : goal.returns-in-Err-clause-only
returns-in-Err-clause-only c = λ n is. let read = decimal_parsed n c.args.digits.now c.parse.result c.requires.few c.parse.ensures.value.0 is in absurd (cc)
