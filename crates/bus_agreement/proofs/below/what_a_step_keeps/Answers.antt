use Rattle.bus_agreement.proofs.below.what_a_step_keeps.Goals as goal

pub returns : goal.returns
returns c = record {
  moves = c.moves_of_a_step.ensures.moves;
  keeps = c.moves_of_a_step.ensures.keeps;
  sound = c.steps_stay_in_range.ensures.step;
  ranges = c.steps_stay_in_range.ensures.transfers;
  size = c.steps_stay_in_range.ensures.size;
  up = c.a_step_leaves_the_server_up.ensures;
  named = c.members_of_a_step.ensures.named;
  uids = c.proposals_of_a_step.ensures.keeps;
  records = c.proposals_of_a_step.ensures.uids;
  tells = λ t number event offer i what message reads node known. c.members_of_a_step.ensures.told_nodes t number event offer message node i what reads known;
  given = c.pairs_of_a_step.ensures.offered;
  list = c.members_are_a_list.ensures;
  done = λ key_disk puts e. (c.the_disk_by_states.ensures.done key_disk puts e).0;
  votes = c.puts_are_stored.ensures.votes;
  same = c.puts_are_stored.ensures.same;
  raft_server = c.law_handlers.ensures.raft_server;
  store = c.law_handlers.ensures.store;
}
