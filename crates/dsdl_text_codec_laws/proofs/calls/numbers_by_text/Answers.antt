use Rattle.std.proofs.Common.{refl, arith}
use Rattle.dsdl_text_codec_laws.proofs.Codecs.{decoded_as, there}
use Rattle.dsdl_text_codec_laws.proofs.calls.numbers_by_text.Goals as goal

pub unreachable-requires : goal.unreachable-requires
unreachable-requires c =
    there _ _ _ c.args.codec c.args.payload.now (λ i. omega (arith, c.type_inv.payload i)) c.requires.profile c.type_name.ensures c.part.ensures (c.in-None.ensures.none refl)

pub returns : goal.returns
returns c =
    decoded_as _ _ _ c.in-Some.at c.args.codec c.args.payload.now (λ i. omega (arith, c.type_inv.payload i)) c.requires.profile c.type_name.ensures c.part.ensures
    c.in-Some.ensures.found.1 _ c.decode.ensures
