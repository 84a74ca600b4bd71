use Rattle.service_device.proofs.SettledLaw.{all_rows, each_row}
use Rattle.service_device.proofs.laws.who_has_settled_stays_settled.Goals as goal

pub returns : goal.returns
returns c = let below = c.what_service_stands_on.ensures in record {
  row = λ ids rows members harmless. each_row below ids members rows harmless;
  all = λ ids rows members harmless. all_rows below ids members rows harmless;
}
