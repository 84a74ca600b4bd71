use Rattle.std.proofs.Common.{refl}
use Rattle.std.specs.Prelude.{codes}
use Rattle.dsdl_text_codec_laws.specs.Fields.{append_request_fields}
use Rattle.dsdl_text_codec_laws.proofs.Entries.{append_requests}
use Rattle.dsdl_text_codec_laws.proofs.Profile.{of_profile}
use Rattle.dsdl_text_codec_laws.proofs.laws.append_requests.Goals as goal

pub returns : goal.returns
returns c = of_profile (codes "AppendEntries") 1 append_request_fields _ _ refl append_requests
