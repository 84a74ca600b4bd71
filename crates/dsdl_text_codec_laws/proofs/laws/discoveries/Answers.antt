use Rattle.std.proofs.Common.{refl}
use Rattle.std.specs.Prelude.{codes}
use Rattle.dsdl_text_codec_laws.specs.Fields.{discovery_fields}
use Rattle.dsdl_text_codec_laws.proofs.Tails.{discoveries}
use Rattle.dsdl_text_codec_laws.proofs.Profile.{of_profile}
use Rattle.dsdl_text_codec_laws.proofs.laws.discoveries.Goals as goal

pub returns : goal.returns
returns c = of_profile (codes "Discovery") 1 discovery_fields _ _ refl discoveries
