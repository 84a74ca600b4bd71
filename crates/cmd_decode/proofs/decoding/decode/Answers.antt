use Rattle.std.proofs.Common.{sym, subst}
use Rattle.cmd_decode.specs.Ends.{Decodes}
use Rattle.cmd_decode.proofs.Told.{decodes_in_part, decodes_told}
use Rattle.cmd_decode.proofs.decoding.decode.Goals as goal

pub returns-in-Ok-write_answer-clause-decodes : goal.returns-in-Ok-write_answer-clause-decodes
returns-in-Ok-write_answer-clause-decodes g c =
    let left = g.S.Source.left in
    let read = g.S.Source.faults in
    let wrote = g.K.Sink.faults in
    let written = g.K.Sink.written in
    subst (Decodes c.args.name.now c.args.part c.args.payload.now
    (left c.args.source.now) (left c.read_text.new.source) (read c.args.source.now) (read c.read_text.new.source)
    (wrote c.args.sink.now) (wrote c.write_answer.new.sink)
    (written c.args.sink.now) (written c.write_answer.new.sink)) (sym c.status.ensures)
    (decodes_told c.a_line_has_one_value.ensures c.args.name.now c.args.part c.args.payload.now
    (left c.args.source.now) (left c.read_text.new.source) (read c.args.source.now) (read c.read_text.new.source)
    (wrote c.args.sink.now) (wrote c.write_answer.new.sink)
    (written c.args.sink.now) (written c.write_answer.new.sink)
    c.in-Ok.ending c.new-answer.result c.in-Ok.ensures.text c.new-answer.ensures c.in-Ok-write_answer.ensures.ok)

pub returns-in-Err-write_answer-clause-decodes : goal.returns-in-Err-write_answer-clause-decodes
returns-in-Err-write_answer-clause-decodes g c =
    let left = g.S.Source.left in
    let read = g.S.Source.faults in
    let wrote = g.K.Sink.faults in
    let written = g.K.Sink.written in
    decodes_in_part c.a_line_has_one_value.ensures c.args.name.now c.args.part c.args.payload.now
    (left c.args.source.now) (left c.read_text.new.source) (read c.args.source.now) (read c.read_text.new.source)
    (wrote c.args.sink.now) (wrote c.write_answer.new.sink)
    (written c.args.sink.now) (written c.write_answer.new.sink)
    c.in-Ok.ending c.new-answer.result c.in-Ok.ensures.text c.new-answer.ensures
    c.in-Err-write_answer.ensures.err c.in-Err-write_answer.ensures.faults.cause.failed
