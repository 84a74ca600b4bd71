use Rattle.std.proofs.Common.{◌++◌, ◌∙◌, sym, ap, subst, take, append_assoc}
use Rattle.allocator_app.specs.WorldReport.{entry_lines, member_lines}
use Rattle.cmd_io.specs.Output.{Writes, WritesFront}
use Rattle.allocator_app.proofs.Logs.{shows_log}
use Rattle.cmd_io.proofs.Written.{front-of_more, grows-trans, writes-failed, writes-then}
use Rattle.allocator_app.proofs.report.write_log.Goals as goal

pub returns-in_err-line-clause-told : goal.returns-in_err-line-clause-told
returns-in_err-line-clause-told g c = λ w is.
    let written = g.K.Sink.written in
    let commit = c.in-Some.view.commit in
    let line = c.as_bytes.result.now in
    let log = shows_log w c.args.id c.in-Some.view (c.in-Some.ensures w is) in
    let rest = entry_lines 1 (take commit log.log) in
    let all = ap (λ l. l ++ rest) (c.as_bytes.ensures.bytes ∙ c.log_line-line.ensures.text) ∙ sym log.lines in
    writes-failed (written c.args.sink.now) (written c.line.new.sink) c.args.output.now c.line.new.self (member_lines w c.args.id) c.from_residual.result c.from_residual.ensures.0
    (subst (λ lines. WritesFront (written c.args.sink.now) (written c.line.new.sink) (c.args.output.now ++ lines)) all
    (subst (WritesFront (written c.args.sink.now) (written c.line.new.sink)) (append_assoc c.args.output.now line rest)
    (front-of_more (written c.args.sink.now) (written c.line.new.sink) (c.args.output.now ++ line) rest c.in_err-line.ensures.told.err)))

pub returns-clause-told : goal.returns-clause-told
returns-clause-told g c = λ w is.
    let written = g.K.Sink.written in
    let commit = c.in-Some.view.commit in
    let line = c.as_bytes.result.now in
    let log = shows_log w c.args.id c.in-Some.view (c.in-Some.ensures w is) in
    let rest = entry_lines 1 (take commit log.log) in
    let all = ap (λ l. l ++ rest) (c.as_bytes.ensures.bytes ∙ c.log_line-line.ensures.text) ∙ sym log.lines in
    subst (λ lines. Writes (written c.args.sink.now) c.args.output.now (written c.write_entries.new.sink) c.write_entries.new.output lines c.write_entries.result) all
    (writes-then (written c.args.sink.now) (written c.line.new.sink) (written c.write_entries.new.sink) c.args.output.now c.line.new.self c.write_entries.new.output
    line rest c.write_entries.result c.in_ok-line.ensures.told.grew c.in_ok-line.ensures.told.ok (c.write_entries.ensures.told w is log.log log.shows))

pub returns-clause-grew : goal.returns-clause-grew
returns-clause-grew g c = grows-trans _ _ _ c.in_ok-line.ensures.told.grew c.write_entries.ensures.grew
