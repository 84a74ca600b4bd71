use Rattle.bus_agreement.proofs.below.what_is_said_of_messages.Goals as goal

pub returns : goal.returns
returns c = record {
  vote_requests = c.vote_requests_both_ways.ensures.read_again;
  append_requests = c.append_requests_both_ways.ensures.read_again;
  vote_answers = c.vote_answers_both_ways.ensures.read_again;
  append_answers = c.append_answers_both_ways.ensures.read_again;
}
