use Rattle.std.proofs.Common.{sym, ap, ◌∙◌, subst, arith}
use Rattle.std.proofs.KnownBytes.{Appends-trans}
use Rattle.bus_spec.specs.Cluster.{cluster}
use Rattle.allocator_app.specs.Report.{IsOfSchedule}
use Rattle.allocator_app.specs.Rows.{Ends, last_of, status_of}
use Rattle.allocator_app.proofs.Reading.{end_in_part, ends_told, is_begun, is_no_fault, told_of}
use Rattle.allocator_app.proofs.replay.replay.Goals as goal

pub returns-in-Ok-end_report-clause-ends : goal.returns-in-Ok-end_report-clause-ends
returns-in-Ok-end_report-clause-ends g c = λ bytes told.
    let first = cluster c.args.ids.now in
    let rows = c.in-Ok-read_rows.rows in
    let far = c.in-Ok-read_rows.ensures.rows bytes told first c.in-Ok.ensures.stands in
    let within = c.read_rows.ensures.within in
    let count = far.1.members.rows in
    let written = g.K.Sink.written in
    let status = c.in-Ok-end_report.ensures.status ∙ ap (status_of rows) count in
    subst (λ s. Ends s c.args.limit first bytes (g.S.Source.left c.read_rows.new.source) (written c.args.sink.now) (written c.end_report.new.sink)) (sym status)
    (ends_told c.args.limit first bytes _ _ _ rows far.0.rows
    (told_of c.args.limit first far.0 bytes _ _ _ _ _ rows (omega (arith, within, count)) far.2
    (Appends-trans _ _ _ far.2.lines (last_of rows far.0) far.2.written (c.in-Ok-end_report.ensures.told far.0 far.1).ok)))

-- what the status tells of

pub returns-in-Ok-end_report-clause-begun : goal.returns-in-Ok-end_report-clause-begun
returns-in-Ok-end_report-clause-begun g c = subst IsOfSchedule (sym c.in-Ok-end_report.ensures.status) (is_begun c.in-Ok-read_rows.rows _)

pub returns-in-Ok-end_report-clause-untouched : goal.returns-in-Ok-end_report-clause-untouched
returns-in-Ok-end_report-clause-untouched g c = λ is. absurd ((is_no_fault c.in-Ok-read_rows.rows _).0 (sym c.in-Ok-end_report.ensures.status ∙ is))

pub returns-in-Ok-end_report-clause-read : goal.returns-in-Ok-end_report-clause-read
returns-in-Ok-end_report-clause-read g c = λ is. absurd ((is_no_fault c.in-Ok-read_rows.rows _).1 (sym c.in-Ok-end_report.ensures.status ∙ is))

pub returns-in-Ok-end_report-clause-write : goal.returns-in-Ok-end_report-clause-write
returns-in-Ok-end_report-clause-write g c = λ is. absurd ((is_no_fault c.in-Ok-read_rows.rows _).2 (sym c.in-Ok-end_report.ensures.status ∙ is))

-- an object of the outside fails

pub returns-in-Ok-read_rows-clause-ends : goal.returns-in-Ok-read_rows-clause-ends
returns-in-Ok-read_rows-clause-ends g c = λ bytes told.
    let first = cluster c.args.ids.now in
    let rows = c.in-Ok-read_rows.rows in
    let far = c.in-Ok-read_rows.ensures.rows bytes told first c.in-Ok.ensures.stands in
    let within = c.read_rows.ensures.within in
    let count = far.1.members.rows in
    end_in_part c.args.limit first far.0 bytes _ _ _ _ _ rows (omega (arith, within, count)) far.2
    c.read_rows.ensures.grew (c.in-Err.ensures.told far.0 far.1).err

pub returns-in-Err-Source-clause-ends : goal.returns-in-Err-Source-clause-ends
returns-in-Err-Source-clause-ends g c = λ bytes told.
    let cut = rw c.in-Err-Source.field-0-is at (c.in-Err-Source.ensures.cut bytes told) in
    cut (cluster c.args.ids.now) c.in-Ok.ensures.stands

pub returns-clause-ends : goal.returns-clause-ends
returns-clause-ends g c = λ bytes told.
    let cut = rw c.in-Err-Sink.field-0-is at (c.in-Err-Sink.ensures.cut bytes told) in
    cut (cluster c.args.ids.now) c.in-Ok.ensures.stands
