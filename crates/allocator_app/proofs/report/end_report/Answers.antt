use Rattle.std.proofs.Common.{◌++◌, ◌∙◌, ap, subst, append_assoc}
use Rattle.cmd_io.specs.Output.{WritesFront}
use Rattle.allocator_app.specs.Rows.{last_line_of, last_of, logs_before}
use Rattle.cmd_io.proofs.Written.{front-of_more, front-on, last-failed}
use Rattle.allocator_app.proofs.report.end_report.Goals as goal

pub returns-in_err-write_logs_before-clause-told : goal.returns-in_err-write_logs_before-clause-told
returns-in_err-write_logs_before-clause-told g c = λ w is.
    let written = g.K.Sink.written in
    let lines = logs_before c.args.rows w in
    let line = last_line_of c.args.rows w.rows in
    let front = (c.in_err-write_logs_before.ensures.told w is).err in
    last-failed (written c.args.sink.now) (written c.write_logs_before.new.sink) c.args.output.now (last_of c.args.rows w) c.from_residual.result c.from_residual.ensures.0
    (subst (WritesFront (written c.args.sink.now) (written c.write_logs_before.new.sink)) (append_assoc c.args.output.now lines line)
    (front-of_more (written c.args.sink.now) (written c.write_logs_before.new.sink) (c.args.output.now ++ lines) line front))

pub returns-in_err-last-clause-told : goal.returns-in_err-last-clause-told
returns-in_err-last-clause-told g c = λ w is.
    let written = g.K.Sink.written in
    let lines = logs_before c.args.rows w in
    let line = c.as_bytes.ensures.bytes ∙ c.last_line-line.ensures.text ∙ ap (last_line_of c.args.rows) (c.taken-taken.ensures ∙ is.members.rows) in
    let logs = c.in_ok-write_logs_before.ensures.told w is in
    last-failed (written c.args.sink.now) (written c.last.new.sink) c.args.output.now (last_of c.args.rows w) c.from_residual-in_err-last.result c.from_residual-in_err-last.ensures.0
    (front-on (written c.args.sink.now) (written c.write_logs_before.new.sink) (written c.last.new.sink) c.args.output.now c.write_logs_before.new.output lines
    (last_line_of c.args.rows w.rows) logs.grew logs.ok
    (subst (λ l. WritesFront (written c.write_logs_before.new.sink) (written c.last.new.sink) (c.write_logs_before.new.output ++ l)) line c.in_err-last.ensures.told.err))
