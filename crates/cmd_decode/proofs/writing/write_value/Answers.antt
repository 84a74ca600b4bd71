use Rattle.std.proofs.Common.{◌++◌, length, ◌∙◌, subst}
use Rattle.std.specs.Prelude.{OnErr}
use Rattle.cmd_io.specs.Output.{WritesFront}
use Rattle.cmd_io.proofs.Written.{front-of_more, last-then, on_err}
use Rattle.cmd_decode.specs.Report.{end_line, number_lines}
use Rattle.cmd_decode.proofs.writing.write_value.Goals as goal

pub returns-in_err-write_numbers-clause-err : goal.returns-in_err-write_numbers-clause-err
returns-in_err-write_numbers-clause-err g c =
    let written = g.K.Sink.written in
    let lines = number_lines c.args.numbers.now in
    on_err c.from_residual.result
    (front-of_more (written c.args.sink.now) (written c.write_numbers.new.sink) lines (end_line (length c.args.numbers.now))
    (subst (λ w. WritesFront (written c.args.sink.now) (written c.write_numbers.new.sink) (w ++ lines)) c.new-output.ensures c.in_err-write_numbers.ensures.told.err))

pub returns-clause-err : goal.returns-clause-err
returns-clause-err g c =
    let written = g.K.Sink.written in
    let lines = number_lines c.args.numbers.now in
    let line = c.as_bytes.result.now in
    let told = c.in_ok-write_numbers.ensures.told in
    let all = last-then (written c.args.sink.now) (written c.write_numbers.new.sink) (written c.last.new.sink) c.new-output.result c.write_numbers.new.output
    lines line c.last.result told.grew told.ok c.last.ensures.told in
    subst (λ l. OnErr c.last.result (WritesFront (written c.args.sink.now) (written c.last.new.sink) (lines ++ l)))
    (c.as_bytes.ensures.bytes ∙ c.number_line.ensures.text)
    (subst (λ w. OnErr c.last.result (WritesFront (written c.args.sink.now) (written c.last.new.sink) (w ++ (lines ++ line)))) c.new-output.ensures all.err)
