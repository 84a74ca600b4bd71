use Rattle.cmd_io.proofs.Written.{last-failed, last-flushed}
use Rattle.cmd_io.proofs.output.Output.last.Goals as goal

pub returns-in_err-line-clause-told : goal.returns-in_err-line-clause-told
returns-in_err-line-clause-told g c =
    last-failed _ _ c.args.self.now c.args.line.now c.from_residual.result c.from_residual.ensures.0 c.in_err-line.ensures.told.err

pub returns-clause-told : goal.returns-clause-told
returns-clause-told g c =
    let written = g.K.Sink.written in
    last-flushed (written c.args.sink.now) (written c.line.new.sink) (written c.flush.new.sink) c.args.self.now c.line.new.self c.args.line.now c.flush.result
    c.in_ok-line.ensures.told.grew c.in_ok-line.ensures.told.ok c.flush.ensures.ok c.flush.ensures.err
