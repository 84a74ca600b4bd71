use Rattle.service_device.proofs.TidyLaw.{stay_fit, stay_tidy, tidy_is_fit}
use Rattle.service_device.proofs.laws.members_stay_tidy.Goals as goal

pub returns : goal.returns
returns c = let below = c.what_service_stands_on.ensures in record {
  tidy = λ ids rows members harmless. stay_tidy below ids members rows harmless;
  fit = λ ids rows members harmless. stay_fit below ids members rows harmless;
  are = tidy_is_fit;
}
