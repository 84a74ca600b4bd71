use Rattle.std.proofs.Common.{refl}
use Rattle.std.specs.Prelude.{codes}
use Rattle.dsdl_text_codec_laws.specs.Fields.{allocation_fields}
use Rattle.dsdl_text_codec_laws.proofs.Tails.{allocations}
use Rattle.dsdl_text_codec_laws.proofs.Profile.{of_profile}
use Rattle.dsdl_text_codec_laws.proofs.laws.allocations.Goals as goal

pub returns : goal.returns
returns c = of_profile (codes "Allocation") 1 allocation_fields _ _ refl allocations
