use Rattle.std.proofs.Common.{◌≡◌, ◌⊎◌, [], sym, ◌∙◌, subst, inr}
use Rattle.std.specs.Io.KnownBytes.{Appends, append_known}
use Rattle.std.specs.Prelude.{IfErr, Result, ⊤}
use Rattle.cmd_io.specs.declared.status.Status.TheVariants.{WriteFault}
use Rattle.cmd_node.specs.Ends.{fault_status}
use Rattle.cmd_node.specs.Report.{line_of}
use Rattle.cmd_node.specs.declared.fault.Fault.{Fault}
use Rattle.cmd_node.proofs.Ending.{from_nothing}
use Rattle.cmd_node.proofs.run.finish.Goals as goal

pub returns-in-Ok-last-clause-line : goal.returns-in-Ok-last-clause-line
returns-in-Ok-last-clause-line g c =
    let a = g.K.Sink.written c.args.sink.now in
    let b = g.K.Sink.written c.last.new.sink in
    subst (λ (ended : Result ⊤ Fault). IfErr ended (λ fault. (c.status.result ≡ WriteFault) ⊎ Appends a b (line_of (fault_status fault)))) (sym c.in-Err.is)
    (inr (from_nothing a b (line_of (fault_status c.in-Err.fault)) (subst (λ l. Appends (append_known a []) b l) (c.as_bytes.ensures.bytes ∙ c.line.ensures.text)
    (subst (λ o. Appends (append_known a o) b c.as_bytes.result.now) c.new.ensures c.in-Ok-last.ensures.told.ok))))
