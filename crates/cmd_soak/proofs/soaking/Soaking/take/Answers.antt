use Rattle.std.proofs.Common.{ap, ◌∙◌}
use Rattle.std.specs.Prelude.{is_some}
use Rattle.cmd_soak.specs.Rounds.{one_if}
use Rattle.bus_rows.specs.ReportLine.{is_stop}
use Rattle.cmd_soak.proofs.Counting.{one_of}
use Rattle.cmd_soak.proofs.Standing.{takes_stands}
use Rattle.cmd_soak.proofs.soaking.Soaking.take.Goals as goal

pub returns-in-Ok-clause-tries : goal.returns-in-Ok-clause-tries
returns-in-Ok-clause-tries g c = λ s is.
    let told = c.in-Ok.ensures.told s.world is.world in (
      ap is_some told.0,
      takes_stands c.args.self.now c.row.new.self s c.args.row.now c.from.result is (c.in-Ok.ensures.accepted s.world is.world) c.row.ensures.room (c.from.ensures ∙ one_of c.is_stop.result ∙ ap one_if (c.is_stop.ensures ∙ ap is_stop told.1)),
    )
