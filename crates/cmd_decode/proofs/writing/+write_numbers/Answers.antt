use Rattle.std.proofs.Common.{◌++◌, sym, ap, ◌∙◌, subst, append_assoc}
use Rattle.cmd_io.specs.Output.{Writes, WritesFront}
use Rattle.cmd_io.proofs.Written.{front-of_more, grows-trans, writes-failed, writes-then}
use Rattle.cmd_decode.specs.Report.{number_lines}
use Rattle.cmd_decode.proofs.Written.{lines_more}
use Rattle.cmd_decode.proofs.writing.+write_numbers.Goals as goal

pub returns-in_err-line-clause-told : goal.returns-in_err-line-clause-told
returns-in_err-line-clause-told g t c =
    let written = g.K.Sink.written in
    let line = c.as_bytes.result.now in
    let rest = number_lines c.in-Some.rest.now in
    let all = lines_more c.in-Some.number.now c.in-Some.rest.now line (c.as_bytes.ensures.bytes ∙ c.number_line.ensures.text)
    ∙ ap number_lines (sym c.in-Some.ensures.cases.0) in
    writes-failed (written c.args.sink.now) (written c.line.new.sink) c.args.output.now c.line.new.self (number_lines c.args.numbers.now) c.from_residual.result c.from_residual.ensures.0
    (subst (λ l. WritesFront (written c.args.sink.now) (written c.line.new.sink) (c.args.output.now ++ l)) all
    (subst (WritesFront (written c.args.sink.now) (written c.line.new.sink)) (append_assoc c.args.output.now line rest)
    (front-of_more (written c.args.sink.now) (written c.line.new.sink) (c.args.output.now ++ line) rest c.in_err-line.ensures.told.err)))

pub returns-clause-told : goal.returns-clause-told
returns-clause-told g t c =
    let written = g.K.Sink.written in
    let line = c.as_bytes.result.now in
    let all = lines_more c.in-Some.number.now c.in-Some.rest.now line (c.as_bytes.ensures.bytes ∙ c.number_line.ensures.text)
    ∙ ap number_lines (sym c.in-Some.ensures.cases.0) in
    subst (λ l. Writes (written c.args.sink.now) c.args.output.now (written c.write_numbers.new.sink) c.write_numbers.new.output l c.write_numbers.result) all
    (writes-then (written c.args.sink.now) (written c.line.new.sink) (written c.write_numbers.new.sink) c.args.output.now c.line.new.self c.write_numbers.new.output
    line (number_lines c.in-Some.rest.now) c.write_numbers.result c.in_ok-line.ensures.told.grew c.in_ok-line.ensures.told.ok c.write_numbers.ensures.told)

pub returns-clause-grew : goal.returns-clause-grew
returns-clause-grew g t c = grows-trans _ _ _ c.in_ok-line.ensures.told.grew c.write_numbers.ensures.grew
