use Rattle.cmd_io.proofs.Written.{front-of_more, writes-failed}
use Rattle.cmd_io.proofs.output.Output.line.Goals as goal

pub returns-in_err-flush-clause-told : goal.returns-in_err-flush-clause-told
returns-in_err-flush-clause-told g c =
    writes-failed _ _ c.args.self.now c.flush.new.self c.args.line.now c.from_residual.result c.from_residual.ensures.0
    (front-of_more _ _ c.args.self.now c.args.line.now c.in_err-flush.ensures.err)
