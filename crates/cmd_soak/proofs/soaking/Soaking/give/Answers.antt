use Rattle.std.proofs.Common.{subst}
use Rattle.cmd_soak.specs.Soaking.{Tries}
use Rattle.cmd_soak.proofs.Standing.{gives_refused, gives_taken}
use Rattle.cmd_soak.proofs.soaking.Soaking.give.Goals as goal

pub returns-then-not-take-clause-stands : goal.returns-then-not-take-clause-stands
returns-then-not-take-clause-stands g c = λ s is.
    let tried = subst (λ b. Tries b c.args.row.now s c.take.new.self) c.if-not-take.true (c.take.ensures.tries s is) in
    gives_refused c.take.new.self s c.args.row.now tried.0 tried.1

pub returns-else-not-take-clause-stands : goal.returns-else-not-take-clause-stands
returns-else-not-take-clause-stands g c = λ s is.
    let tried = subst (λ b. Tries b c.args.row.now s c.take.new.self) c.if-not-take.false (c.take.ensures.tries s is) in
    gives_taken c.take.new.self s c.args.row.now tried.0 tried.1
