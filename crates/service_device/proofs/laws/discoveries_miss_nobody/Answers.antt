use Rattle.service_device.proofs.TidyLaw.{ask_nobody, miss_nobody, tidy_miss_nobody}
use Rattle.service_device.proofs.laws.discoveries_miss_nobody.Goals as goal

pub returns : goal.returns
returns c = let below = c.what_service_stands_on.ensures in record {
  any = λ ids rows members harmless. miss_nobody below ids members rows harmless;
  tidy = λ ids rows members harmless. tidy_miss_nobody below ids members rows harmless;
  unasked = λ ids rows members harmless. ask_nobody below ids members rows harmless;
}
