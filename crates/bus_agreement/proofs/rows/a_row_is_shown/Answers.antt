use Rattle.bus_agreement.proofs.OneRow.{RowLaws, row_shown}
use Rattle.bus_agreement.proofs.rows.a_row_is_shown.Goals as goal

pub returns : goal.returns
returns c =
    let laws : RowLaws = record {
      outside = c.rows_without_events_are_shown.ensures.outside;
      sent = c.rows_without_events_are_shown.ensures.sent;
      stop_armed = c.rows_without_events_are_shown.ensures.stop_armed;
      failure_armed = c.rows_without_events_are_shown.ensures.failure_armed;
      stopped = c.stops_are_shown.ensures.running;
      failed_stopped = c.stops_are_shown.ensures.failed;
      opened = c.openings_are_shown.ensures.opened;
      not_opened = c.openings_are_shown.ensures.failed;
      finished = c.finished_steps_are_shown.ensures;
      cut_off = c.cut_steps_are_shown.ensures;
      came = c.rows_of_allocatees_are_shown.ensures.came;
      ticked = c.rows_of_allocatees_are_shown.ensures.ticked;
      received = c.rows_of_allocatees_are_shown.ensures.received;
      put = c.rows_of_allocatees_are_shown.ensures.sent;
      left = c.rows_of_allocatees_are_shown.ensures.left;
    } in
    λ choice made w run members shows sound written row lawful fits. row_shown laws choice made w run members shows sound written row lawful fits
