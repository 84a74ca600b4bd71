use Rattle.std.proofs.Common.{sym, subst}
use Rattle.dsdl_text_codec_laws.specs.declared.text.TheConstants.{PROFILE}
use Rattle.dsdl_text_codec_laws.specs.Profile.{EndsAs, profile}
use Rattle.dsdl_text_codec_laws.proofs.Profile.{is_profile}
use Rattle.dsdl_text_codec_laws.proofs.calls.profile_types.Goals as goal

pub take_lines-requires : goal.take_lines-requires
take_lines-requires c = subst (λ t. EndsAs t PROFILE.now profile) (sym c.new-reader.ensures) is_profile
