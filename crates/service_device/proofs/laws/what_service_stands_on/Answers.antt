use Rattle.service_device.proofs.laws.what_service_stands_on.Goals as goal

pub returns : goal.returns
returns c = record {
  calm = c.what_calms_stand_on.ensures;
  tell = c.duty_of_a_step.ensures.tell;
  phases = c.duty_of_a_step.ensures.phases;
  device_heard = c.sessions_of_a_step.ensures.frame;
  device_ticked = c.sessions_of_a_step.ensures.tick;
  device_uid = c.a_node_id_is_given_for_good.ensures.uid;
  untorn = c.what_is_fine_is_not_torn.ensures;
  read = c.allocations_both_ways.ensures.read_again;
  requests = c.requests_of_devices_are_requests.ensures;
  delivered = c.requests_are_delivered.ensures;
  follow = c.a_leader_follows_up.ensures;
  record_pairs = c.a_leader_records_the_pair.ensures;
  choice = c.chosen_is_the_choice.ensures.is;
  headline = c.the_headline.ensures;
  allocatees = c.the_allocatees.ensures;
  fit = c.law_fit.ensures.run;
  judged = c.law_decisions.ensures.judged;
  lists_stay = c.who_is_listed_stays.ensures;
  entries = c.what_entries_stand_on.ensures;
  come = c.entries_come_in_time.ensures;
  committed = c.entries_are_committed_in_time.ensures;
  return = c.calls_return_to_who_leads_on.ensures;
  allocations = c.allocations_come_in_calm.ensures;
}
