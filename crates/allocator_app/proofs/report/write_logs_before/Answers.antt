use Rattle.std.proofs.Common.{sym, subst}
use Rattle.cmd_io.specs.Output.{Writes}
use Rattle.allocator_app.specs.Rows.{logs_before}
use Rattle.allocator_app.proofs.report.write_logs_before.Goals as goal

pub returns-in-Taken-clause-told : goal.returns-in-Taken-clause-told
returns-in-Taken-clause-told g c = λ w is.
    let written = g.K.Sink.written in
    subst (λ rows. Writes (written c.args.sink.now) c.args.output.now (written c.write_logs.new.sink) c.write_logs.new.output (logs_before rows w) c.write_logs.result)
    (sym c.in-Taken.is) (c.write_logs.ensures.told w is)
