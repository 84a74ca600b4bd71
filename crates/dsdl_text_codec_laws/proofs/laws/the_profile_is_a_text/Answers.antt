use Rattle.dsdl_text_codec_laws.specs.declared.text.TheConstants.{PROFILE}
use Rattle.dsdl_text_codec_laws.specs.Profile.{profile}
use Rattle.dsdl_text_codec_laws.proofs.Profile.{is_profile, one_text_of, profile_read}
use Rattle.dsdl_text_codec_laws.proofs.laws.the_profile_is_a_text.Goals as goal

pub returns : goal.returns
returns c = record {
  lines = profile_read;
  text = is_profile;
  only = λ text is. one_text_of PROFILE.now text profile is is_profile;
}
