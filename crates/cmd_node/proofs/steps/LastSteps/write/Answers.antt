use Rattle.std.proofs.Common.{[], ◌++◌, ◌∙◌, ap, subst, map}
use Rattle.std.specs.Io.KnownBytes.{Appends, append_known}
use Rattle.cmd_io.specs.Output.{WritesFront, WritesLast}
use Rattle.cmd_io.proofs.Written.{front-of_more, last-failed, last-then}
use Rattle.cmd_node.specs.Kept.{kept_line}
use Rattle.cmd_node.specs.Report.{joined, last_lines, report}
use Rattle.replay_text.specs.Report.{end_line}
use Rattle.cmd_node.proofs.steps.LastSteps.write.Goals as goal

pub returns-in_err-write_steps-clause-told : goal.returns-in_err-write_steps-clause-told
returns-in_err-write_steps-clause-told g c = λ lines is.
    let written = g.K.Sink.written in
    let a = written c.args.sink.now in
    let b = written c.write_steps.new.sink in
    last-failed a b [] (report c.args.turns lines) c.from_residual.result c.from_residual.ensures.0
    (front-of_more a b (joined (last_lines lines)) (end_line c.args.turns)
    (subst (WritesFront a b) (ap (λ o. o ++ joined (map kept_line c.args.self.ring.items)) c.new-output.ensures ∙ ap joined is.last) c.in_err-write_steps.ensures.told.err))

pub returns-clause-told : goal.returns-clause-told
returns-clause-told g c = λ lines is.
    let written = g.K.Sink.written in
    let a = written c.args.sink.now in
    let b = written c.write_steps.new.sink in
    let line = c.as_bytes.ensures.bytes ∙ c.number_line.ensures.text in
    subst (λ all. WritesLast a [] (written c.last.new.sink) all c.last.result) (ap (λ l. joined (last_lines lines) ++ l) line)
    (last-then a b (written c.last.new.sink) [] c.write_steps.new.output (joined (last_lines lines)) c.as_bytes.result.now c.last.result c.in_ok-write_steps.ensures.grew
    (subst (λ l. Appends (append_known a []) (append_known b c.write_steps.new.output) l) (ap joined is.last)
    (subst (λ o. Appends (append_known a o) (append_known b c.write_steps.new.output) (joined (map kept_line c.args.self.ring.items))) c.new-output.ensures c.in_ok-write_steps.ensures.told.ok))
    c.last.ensures.told)
