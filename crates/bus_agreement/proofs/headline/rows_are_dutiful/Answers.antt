use Rattle.bus_agreement.proofs.StepDuties.{DutyLaws, are_dutiful}
use Rattle.bus_agreement.proofs.headline.rows_are_dutiful.Goals as goal

pub returns : goal.returns
returns c =
    let laws : DutyLaws = record {
      rows = c.rows_are_shown.ensures;
      choices = c.a_choice_fits.ensures;
      sound = c.law_every_run.ensures.invariants;
      wins = c.law_duty.ensures.win;
      step = c.steps_are_dutiful.ensures;
    } in
    are_dutiful laws
