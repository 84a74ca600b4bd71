use Rattle.service_elections.proofs.laws.what_rounds_stand_on.Goals as goal

pub returns : goal.returns
returns c = record {
  wins = c.what_winners_stand_on.ensures;
  no_call_is_old = c.steps_are_in_time.ensures.calls;
  ask = c.calls_ask_for_the_next_place.ensures;
  call = c.leaders_call_in_time.ensures;
  follow = c.followers_follow_on_in_calm.ensures;
  hear = c.calls_are_heard.ensures;
  calls_read = c.calls_read_as_said.ensures;
  calls_answered = c.calls_are_answered.ensures;
  answers_read = c.answers_read_as_said.ensures;
  answers_taken = c.answers_are_taken.ensures;
  comes = c.no_election_comes_in_calm.ensures;
  entries = c.what_entries_stand_on.ensures;
  requests_read = c.vote_requests_read_as_said.ensures;
  votes_answered = c.votes_are_answered.ensures;
  come_back = c.vote_requests_come_back.ensures;
  reasons = c.waits_have_reasons.ensures;
  in_time = c.who_waits_stands.ensures;
}
