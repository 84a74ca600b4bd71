use Rattle.raft_model.proofs.Joined.{joined_moves, joined_server, joined_puts, joined_offers, joined_come, come_apart}
use Rattle.raft_model.proofs.laws.law_joined.Goals as goal

pub returns : goal.returns
returns c = record {
  server = joined_server;
  puts = joined_puts;
  offers = joined_offers;
  local_state = joined_moves;
  come = joined_come;
  apart = come_apart;
}
