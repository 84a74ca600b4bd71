use Rattle.alloc_spec_laws.proofs.laws.laws_below.Goals as goal

pub returns : goal.returns
returns c = record {
  blank_keeps = λ log entry is once. (c.logs_stay_injective.ensures.blank log entry is).1 once;
  reservation_keeps = λ log entry is once new. (c.logs_stay_injective.ensures.reservation log entry is).1 (once, new);
  pair_keeps = λ log entry is once uid node. (c.logs_stay_injective.ensures.pair log entry is).1 (once, uid, node);
  chosen_is = c.chosen_is_the_choice.ensures.is;
  complete_stays = c.a_complete_list_stays.ensures.members;
  opens_fit = c.law_fit.ensures.opened;
  fit_after = c.law_fit.ensures.kept;
  same_raft_server = c.law_handlers.ensures.raft_server;
  same_offers = c.law_handlers.ensures.offers;
  same_calls = c.law_handlers.ensures.calls;
  joined_moves = c.law_joined.ensures.local_state;
  joined_come = c.law_joined.ensures.come;
  all_after = c.law_members.ensures.all_after;
  noted_raft_server = c.noted_puts_are_the_puts.ensures.raft_server;
  both_raft_server = c.noted_puts_are_the_puts.ensures.both;
  joined_puts = c.law_joined.ensures.puts;
  all_puts = c.law_members.ensures.all_puts;
  all_come = c.law_members.ensures.all_come;
  same_commit = c.law_members.ensures.commit;
  same_count = c.law_members.ensures.count;
  granted = c.law_decisions.ensures.granted;
  judged = c.law_decisions.ensures.judged;
  tick_comes = c.law_duty.ensures.tick_comes;
  commit_comes = c.law_duty.ensures.commit_comes;
  tick_duty = c.law_duty.ensures.tick;
  commit_duty = c.law_duty.ensures.commit;
  tell_duty = c.law_duty.ensures.tell;
  win_kept = c.law_duty.ensures.win_kept;
}
