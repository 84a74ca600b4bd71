use Rattle.bus_agreement.proofs.below.what_is_said_of_a_step.Goals as goal

pub returns : goal.returns
returns c = record {
  one = c.transfers_of_a_step_are_apart.ensures.one;
  me = c.steps_stay_in_range.ensures.me;
  says = c.what_transfers_say.ensures;
  responses = c.responses_answer_what_was_delivered.ensures;
  called = c.calls_of_a_step.ensures.made;
  queue = c.queue_of_a_step.ensures;
  heard = c.sessions_of_a_step.ensures.frame;
  ticked = c.sessions_of_a_step.ensures.tick;
  kept = λ setting before arrivals sessions. c.frames_are_kept_under_their_key.ensures.run setting before arrivals sessions;
}
