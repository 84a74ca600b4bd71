use Rattle.std.proofs.Common.{◌≡◌, [], ◌++◌, ◌∙◌, length, ap, subst}
use Rattle.std.specs.Io.KnownBytes.{Appends, append_known}
use Rattle.cmd_io.specs.Output.{WritesFront, WritesLast}
use Rattle.cmd_io.proofs.Written.{front-of_more, last-failed, last-then}
use Rattle.store_audit.specs.Report.{last_line, lines_to}
use Rattle.store_audit.specs.Stores.{committed}
use Rattle.store_audit.proofs.Comparing.{committed_length}
use Rattle.store_audit.proofs.lines.write_report.Goals as goal

pub returns-in_err-write_list-clause-told : goal.returns-in_err-write_list-clause-told
returns-in_err-write_list-clause-told g c =
    let written = g.K.Sink.written in
    let store = c.args.store.now in
    let a = written c.args.sink.now in
    let b = written c.write_list.new.sink in
    let lines = lines_to c.args.stores.now (committed store) store.commit in
    let size : length (committed store) ≡ store.commit = committed_length store c.requires.commit in
    rw size (last-failed a b [] (lines ++ last_line store.commit) c.from_residual.result c.from_residual.ensures.0
    (front-of_more a b lines (last_line store.commit) (subst (WritesFront a b) (ap (λ o. o ++ lines) c.new-output.ensures) c.in_err-write_list.ensures.told.err)))

pub returns-clause-told : goal.returns-clause-told
returns-clause-told g c =
    let written = g.K.Sink.written in
    let store = c.args.store.now in
    let a = written c.args.sink.now in
    let b = written c.write_list.new.sink in
    let d = written c.last.new.sink in
    let lines = lines_to c.args.stores.now (committed store) store.commit in
    let size : length (committed store) ≡ store.commit = committed_length store c.requires.commit in
    let line = c.as_bytes.ensures.bytes ∙ (c.number_line.ensures.text ∙ ap last_line c.from.ensures) in
    rw size (subst (λ all. WritesLast a [] d all c.last.result) (ap (λ l. lines ++ l) line)
    (last-then a b d [] c.write_list.new.output lines c.as_bytes.result.now c.last.result c.in_ok-write_list.ensures.grew
    (subst (λ o. Appends (append_known a o) (append_known b c.write_list.new.output) lines) c.new-output.ensures c.in_ok-write_list.ensures.told.ok)
    c.last.ensures.told))
