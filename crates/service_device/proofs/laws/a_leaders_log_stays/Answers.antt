use Rattle.service_device.proofs.RecordedLaw.{each_row_keeps, stays_unasked, stays_uncommitted}
use Rattle.service_device.proofs.RecordedStays.{leader_settles, settled_leads}
use Rattle.service_device.proofs.laws.a_leaders_log_stays.Goals as goal

pub returns : goal.returns
returns c = let below = c.what_service_stands_on.ensures in record {
  leads = settled_leads;
  settles = leader_settles;
  row = λ ids rows members harmless. each_row_keeps below ids members rows harmless;
  uncommitted = λ ids rows members harmless. stays_uncommitted below ids members rows harmless;
  unasked = λ ids rows members harmless. stays_unasked below ids members rows harmless;
}
