use Rattle.cmd_decode.specs.Taking.{text_in}
use Rattle.dsdl_text.specs.Reader.{text_of}
use Rattle.cmd_decode.proofs.Progress.{taken_line}
use Rattle.cmd_decode.proofs.lines.Lines.take_line.Goals as goal

pub returns-in-Ok-clause-taken : goal.returns-in-Ok-clause-taken
returns-in-Ok-clause-taken c = λ done.
    let form = c.in-Ok.ensures.form in
    taken_line (text_in c.args.self.now) (text_of c.line.new.self) form.0 c.args.line.now c.in-Ok.field-0 form.1 (c.in-Ok.ensures.reads form.0 form.1)
