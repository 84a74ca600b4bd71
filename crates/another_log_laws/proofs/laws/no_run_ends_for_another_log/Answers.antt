use Rattle.std.proofs.Common.{sym, ◌∙◌}
use Rattle.another_log_laws.proofs.laws.no_run_ends_for_another_log.Goals as goal

pub returns : goal.returns
returns g c = λ ids mine rules turns given links_old links disks_old disks readings_old readings id node tell end lawful.
    let cut = end.1.left given tell in
    let none = c.no_turn_brings_another_log.ensures ids mine rules given cut.taken cut.turn.place cut.turn.within lawful in
    absurd (cc (sym none ∙ cut.turn.named.1))
