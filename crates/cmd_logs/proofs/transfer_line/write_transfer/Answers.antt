use Rattle.std.proofs.Common.{◌++◌, ◌∙◌, ap, codes, drop, subst, take, append_assoc}
use Rattle.hex.specs.Hex.{encode_lower}
use Rattle.cmd_io.specs.Output.{Writes, WritesFront}
use Rattle.cmd_io.proofs.Written.{front-of_more, writes-failed, writes-then}
use Rattle.transfer_rx.specs.Told.{delivery_of}
use Rattle.cmd_logs.specs.Watched.{payload_word, transfer_head, transfer_line}
use Rattle.cmd_logs.proofs.Payloads.{line_pieces}
use Rattle.cmd_logs.proofs.transfer_line.write_transfer.Goals as goal

pub returns-in_err-write_pair-clause-told : goal.returns-in_err-write_pair-clause-told
returns-in_err-write_pair-clause-told g c =
    let written = g.K.Sink.written in
    let pair = c.as_bytes.result.now ++ c.as_bytes-2.result.now in
    let back = c.back-back.result in
    let line = transfer_line c.args.number (delivery_of c.args.transfer.now) in
    let all = line_pieces (transfer_head c.args.number (delivery_of c.args.transfer.now)) c.as_bytes.result.now c.as_bytes-2.result.now back c.args.transfer.now.payload.items
    (c.as_bytes.ensures.bytes ∙ c.head-head.ensures.text) (c.as_bytes-2.ensures.bytes ∙ c.front-front.ensures.text ∙ ap (λ p. payload_word (take 200 p)) c.deref.ensures.0) (c.back-back.ensures.text ∙ ap (λ p. encode_lower (drop 200 p) ++ codes "\n") c.deref-2.ensures.0) in
    writes-failed (written c.args.sink.now) (written c.write_pair.new.sink) c.args.output.now c.write_pair.new.output line c.from_residual.result c.from_residual.ensures.0
    (subst (λ l. WritesFront (written c.args.sink.now) (written c.write_pair.new.sink) (c.args.output.now ++ l)) all
    (subst (WritesFront (written c.args.sink.now) (written c.write_pair.new.sink)) (append_assoc c.args.output.now pair back)
    (front-of_more (written c.args.sink.now) (written c.write_pair.new.sink) (c.args.output.now ++ pair) back c.in_err-write_pair.ensures.told.err)))

pub returns-clause-told : goal.returns-clause-told
returns-clause-told g c =
    let written = g.K.Sink.written in
    let pair = c.as_bytes.result.now ++ c.as_bytes-2.result.now in
    let back = c.as_bytes-3.result.now in
    let all = line_pieces (transfer_head c.args.number (delivery_of c.args.transfer.now)) c.as_bytes.result.now c.as_bytes-2.result.now back c.args.transfer.now.payload.items
    (c.as_bytes.ensures.bytes ∙ c.head-head.ensures.text) (c.as_bytes-2.ensures.bytes ∙ c.front-front.ensures.text ∙ ap (λ p. payload_word (take 200 p)) c.deref.ensures.0) (c.as_bytes-3.ensures.bytes ∙ c.back-back.ensures.text ∙ ap (λ p. encode_lower (drop 200 p) ++ codes "\n") c.deref-2.ensures.0) in
    subst (λ l. Writes (written c.args.sink.now) c.args.output.now (written c.line.new.sink) c.line.new.self l c.line.result) all
    (writes-then (written c.args.sink.now) (written c.write_pair.new.sink) (written c.line.new.sink) c.args.output.now c.write_pair.new.output c.line.new.self
    pair back c.line.result c.in_ok-write_pair.ensures.told.grew c.in_ok-write_pair.ensures.told.ok c.line.ensures.told)
