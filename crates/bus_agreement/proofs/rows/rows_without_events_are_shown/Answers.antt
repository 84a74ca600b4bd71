use Rattle.bus_agreement.proofs.RowsWithoutEvents.{armed_shown, fault_shown, outside_shown, sent_shown}
use Rattle.bus_agreement.proofs.rows.rows_without_events_are_shown.Goals as goal

pub returns : goal.returns
returns c =
    let laws = c.what_is_said_of_frames.ensures in
    record {
      outside = outside_shown;
      sent = λ choice made w run members shows n lawful. sent_shown laws c.steps_stay_in_range.ensures.popped c.moves_of_a_step.ensures.popped
          choice made w (λ m i. (members.nodes m i).1) run shows n lawful;
      stop_armed = λ choice made w run shows n calls pattern later. armed_shown choice made w run shows n calls pattern later;
      failure_armed = λ choice made w run shows n call. fault_shown choice made w run shows n call;
    }
