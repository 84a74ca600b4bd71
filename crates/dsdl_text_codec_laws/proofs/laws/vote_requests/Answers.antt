use Rattle.std.proofs.Common.{refl}
use Rattle.std.specs.Prelude.{codes}
use Rattle.dsdl_text_codec_laws.specs.Fields.{vote_request_fields}
use Rattle.dsdl_text_codec_laws.proofs.Votes.{vote_requests}
use Rattle.dsdl_text_codec_laws.proofs.Profile.{of_profile}
use Rattle.dsdl_text_codec_laws.proofs.laws.vote_requests.Goals as goal

pub returns : goal.returns
returns c = of_profile (codes "RequestVote") 1 vote_request_fields _ _ refl vote_requests
