use Rattle.raft_model.proofs.Listed.{all_after, all_puts, all_offers, all_local_state, all_come}
use Rattle.raft_model.proofs.Members.{same_count, same_puts, same_memory, same_commit, same_heard, same_come}
use Rattle.raft_model.proofs.laws.law_members.Goals as goal

pub returns : goal.returns
returns c = record {
  count = same_count;
  puts = same_puts;
  memory = same_memory;
  commit = same_commit;
  heard = same_heard;
  come = same_come;
  all_after = all_after;
  all_puts = all_puts;
  all_offers = all_offers;
  all_local_state = all_local_state;
  all_come = all_come;
}
