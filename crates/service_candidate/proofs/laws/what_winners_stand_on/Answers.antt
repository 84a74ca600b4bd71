use Rattle.service_candidate.proofs.laws.what_winners_stand_on.Goals as goal

pub returns : goal.returns
returns c = record {
  election = c.what_elections_stand_on.ensures;
  ticks = c.steps_are_in_time.ensures.follows;
  hears_anew = c.steps_are_in_time.ensures.waits;
  stay = c.who_is_listed_stays.ensures;
  granted = c.law_decisions.ensures.granted;
  taken = c.votes_are_taken.ensures;
  asked = c.who_stands_asks.ensures;
  waits_on = c.who_asked_waits_on.ensures;
  candidates = c.candidates_stay.ensures;
  answers_read = c.vote_answers_read_as_said.ensures;
  begin = c.waits_begin_then.ensures;
  terms = c.terms_stay_in_calm.ensures;
  rise = c.terms_do_not_fall.ensures;
  free = c.votes_stay_free.ensures;
}
