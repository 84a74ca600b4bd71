use Rattle.std.proofs.Common.{refl}
use Rattle.std.specs.Prelude.{codes}
use Rattle.dsdl_text_codec_laws.specs.Fields.{verdict_fields}
use Rattle.dsdl_text_codec_laws.proofs.Votes.{vote_answers}
use Rattle.dsdl_text_codec_laws.proofs.Profile.{of_profile}
use Rattle.dsdl_text_codec_laws.proofs.laws.vote_answers.Goals as goal

pub returns : goal.returns
returns c = of_profile (codes "RequestVote") 2 verdict_fields _ _ refl vote_answers
