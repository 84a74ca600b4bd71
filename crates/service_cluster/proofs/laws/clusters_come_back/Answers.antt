use Rattle.service_cluster.proofs.Back.{clusters_come_back}
use Rattle.service_cluster.proofs.BackFine.{blanks_behind, fine_behind, limit_behind, lists_behind}
use Rattle.service_cluster.proofs.laws.clusters_come_back.Goals as goal

pub returns-clause-back : goal.returns-clause-back
returns-clause-back c ids rows members harmless = let below = c.what_service_stands_on.ensures in clusters_come_back ids rows (record {
  members = members;
  fine = fine_behind below ids members rows harmless;
  lists = lists_behind below ids members rows harmless c.law_members.ensures.count;
  blanks = blanks_behind below ids members rows harmless (λ list fine. c.who_leads_has_come_to_lead.ensures.blank ids list members fine);
  calling = c.leaders_go_on_calling.ensures ids rows members harmless;
  return = c.calls_return_in_rounds.ensures ids rows members harmless;
  fit = c.members_stay_tidy.ensures.fit ids rows members harmless;
  missed = c.discoveries_miss_nobody.ensures.any ids rows members harmless;
  settle = c.leaders_settle_in_calm.ensures.settle ids rows members harmless;
}) (c.leaders_come.ensures ids rows members harmless) (c.discoveries_miss_nobody.ensures.unasked ids rows members harmless)

pub returns-clause-limit : goal.returns-clause-limit
returns-clause-limit c ids rows members harmless = limit_behind c.what_service_stands_on.ensures ids members rows harmless
