use Rattle.service_calm.proofs.laws.what_calms_stand_on.Goals as goal

pub returns : goal.returns
returns c = record {
  frame = c.what_is_said_of_frames.ensures;
  codec = c.what_is_said_of_messages.ensures;
  in_step = c.what_is_said_of_a_step.ensures;
  more = c.what_a_step_keeps.ensures;
  carried = c.frames_carry_what_is_cut.ensures.carried;
  cut = c.lengths_of_cuttings.ensures.cut;
  whole = c.delivers_what_comes_whole.ensures;
  popped = c.steps_stay_in_range.ensures.popped;
  apart = c.transfers_of_a_step_are_apart.ensures.apart;
  stay = c.members_of_a_step.ensures.stay;
  complete = c.members_of_a_step.ensures.complete;
  device_step = c.its_frames_are_anonymous.ensures.step;
  device_popped = c.its_frames_are_anonymous.ensures.popped;
  one_transfer = c.what_a_row_delivers_is_one_transfer.ensures;
  invariants = c.law_every_run.ensures.invariants;
  chosen = c.a_choice_fits.ensures;
  shown = c.rows_are_shown.ensures;
  same = c.rows_grow_by_one.ensures.members;
  grows = c.rows_grow_by_one.ensures.world;
  no_harm = c.rows_grow_by_one.ensures.harmless;
  made = c.rows_grow_by_one.ensures.made;
}
