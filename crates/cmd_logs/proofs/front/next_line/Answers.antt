use Rattle.std.proofs.Common.{drop, sym, subst}
use Rattle.cmd_logs.specs.Lines.{Finds}
use Rattle.cmd_logs.proofs.front.next_line.Goals as goal

pub returns-clause-found : goal.returns-clause-found
returns-clause-found c =
    let stands = c.first_line-stands.result.0 in
    let size = c.first_line-stands.result.1 in
    subst (Finds c.args.form stands c.args.input.now) (sym c.take.ensures)
    (subst (λ before. Finds c.args.form stands before (drop size before)) c.waiting.ensures.bytes c.first_line-stands.ensures.found)
