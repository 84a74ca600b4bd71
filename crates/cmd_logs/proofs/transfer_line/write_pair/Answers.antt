use Rattle.std.proofs.Common.{◌++◌, subst, append_assoc}
use Rattle.cmd_io.specs.Output.{WritesFront}
use Rattle.cmd_io.proofs.Written.{front-of_more, writes-failed, writes-then}
use Rattle.cmd_logs.proofs.transfer_line.write_pair.Goals as goal

pub returns-in_err-line-clause-told : goal.returns-in_err-line-clause-told
returns-in_err-line-clause-told g c =
    let written = g.K.Sink.written in
    let one = c.args.one.now in
    let other = c.args.other.now in
    writes-failed (written c.args.sink.now) (written c.line.new.sink) c.args.output.now c.line.new.self (one ++ other) c.from_residual.result c.from_residual.ensures.0
    (subst (WritesFront (written c.args.sink.now) (written c.line.new.sink)) (append_assoc c.args.output.now one other)
    (front-of_more (written c.args.sink.now) (written c.line.new.sink) (c.args.output.now ++ one) other c.in_err-line.ensures.told.err))

pub returns-clause-told : goal.returns-clause-told
returns-clause-told g c =
    let written = g.K.Sink.written in
    writes-then (written c.args.sink.now) (written c.line.new.sink) (written c.line-2.new.sink) c.args.output.now c.line.new.self c.line-2.new.self
    c.args.one.now c.args.other.now c.line-2.result c.in_ok-line.ensures.told.grew c.in_ok-line.ensures.told.ok c.line-2.ensures.told
