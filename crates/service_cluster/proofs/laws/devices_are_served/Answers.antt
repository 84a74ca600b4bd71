use Rattle.service_cluster.proofs.Serves.{devices_are_served}
use Rattle.service_cluster.proofs.BackFine.{blanks_behind, fine_behind, lists_behind}
use Rattle.service_cluster.proofs.laws.devices_are_served.Goals as goal

pub returns : goal.returns
returns c = λ ids rows members harmless.
    let below = c.what_service_stands_on.ensures in
    devices_are_served ids rows (record {
      members = members;
      fine = fine_behind below ids members rows harmless;
      lists = lists_behind below ids members rows harmless c.law_members.ensures.count;
      blanks = blanks_behind below ids members rows harmless (λ list fine. c.who_leads_has_come_to_lead.ensures.blank ids list members fine);
      calling = c.leaders_go_on_calling.ensures ids rows members harmless;
      return = c.calls_return_in_rounds.ensures ids rows members harmless;
      fit = c.members_stay_tidy.ensures.fit ids rows members harmless;
      missed = c.discoveries_miss_nobody.ensures.any ids rows members harmless;
      settle = c.leaders_settle_in_calm.ensures.settle ids rows members harmless;
    }) (c.leaders_come.ensures ids rows members harmless) (record {
      silent = c.who_follows_falls_silent.ensures ids rows members harmless;
      heard_out = c.asking_devices_are_heard_out_in_calm.ensures ids rows members harmless;
      served = c.heard_devices_are_served_in_calm.ensures ids rows members harmless;
      known = c.heard_known_devices_are_told_in_calm.ensures ids rows members harmless;
      recorded = c.recorded_devices_are_served_in_calm.ensures ids rows members harmless;
      whole_is = c.requests_are_the_devices.ensures.whole ids rows members harmless;
      tell = c.requests_are_the_devices.ensures.always ids rows members harmless;
    })
