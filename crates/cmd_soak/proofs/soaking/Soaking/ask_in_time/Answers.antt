use Rattle.std.proofs.Common.{subst, refl, ◌%◌}
use Rattle.bus_rows.specs.declared.row.Row.TheVariants.{Ext}
use Rattle.cmd_soak.specs.Rounds.{gives}
use Rattle.cmd_soak.specs.Soaking.{StandsFor}
use Rattle.cmd_soak.proofs.Standing.{is_asked, is_number, is_other, not_asked}
use Rattle.cmd_soak.proofs.soaking.Soaking.ask_in_time.Goals as goal

pub returns-then-number-eq1-clause-stands : goal.returns-then-number-eq1-clause-stands
returns-then-number-eq1-clause-stands g c = λ s is.
    is_asked c.give.new.self c.args.number s (is_number (c.args.number % 4) (c.args.number % 4) 1 refl c.if-number-eq1.true)
    (subst (λ f. StandsFor c.give.new.self (gives (Ext f) s)) c.request.ensures (c.give.ensures.stands s is))

pub returns-else-number-eq1-clause-stands : goal.returns-else-number-eq1-clause-stands
returns-else-number-eq1-clause-stands g c = λ s is.
    not_asked c.args.self.now c.args.number s (is_other (c.args.number % 4) (c.args.number % 4) 1 refl c.if-number-eq1.false) is
