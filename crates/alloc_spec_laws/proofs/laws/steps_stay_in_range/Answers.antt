use Rattle.alloc_spec_laws.proofs.Ranges.{opening_sound, popped_sound, same_counting, same_server, step_sound, transfers_in_range}
use Rattle.alloc_spec_laws.proofs.laws.steps_stay_in_range.Goals as goal

pub returns : goal.returns
returns c = record {
  opening = opening_sound;
  step = step_sound c.identifiers_both_ways.ensures.in_the_table c.deliveries_are_whole_transfers.ensures;
  popped = popped_sound;
  transfers = transfers_in_range c.identifiers_both_ways.ensures.in_the_table c.deliveries_are_whole_transfers.ensures;
  me = λ t number event. (same_server t number event).0;
  size = λ t number event. (same_server t number event).1;
  counting = same_counting;
}
