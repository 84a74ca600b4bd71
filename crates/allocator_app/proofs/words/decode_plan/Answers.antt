use Rattle.std.proofs.Common.{◌∷◌, [], ap, sym, ◌∙◌, subst, string_bytes, codes}
use Rattle.std.specs.Prelude.{IsTrue}
use Rattle.dsdl_text.specs.Words.{is_name}
use Rattle.allocator_app.specs.Words.{SpellsPayload}
use Rattle.allocator_app.proofs.Spelling.{four_alone, is_word}
use Rattle.allocator_app.proofs.words.decode_plan.Goals as goal

pub returns-clause-some : goal.returns-clause-some
returns-clause-some c =
    let mode = sym c.as_str.ensures.value ∙ is_word c.as_str.result.now (codes "decode") c.ne.result c.if-ne.false c.ne.ensures in
    let name = sym c.in_ok-name.ensures.some.0 in
    let part = sym c.as_bytes-2.ensures.value ∙ c.in_ok-part.ensures.some.2 in
    record {
      hex = string_bytes c.digits-item.result;
      spelled = four_alone string_bytes c.args.words.now c.mode-item.result c.name-item.result c.part-item.result c.digits-item.result c.in-len4.len_at_least c.in-len4.len_below
          c.mode-item.is c.name-item.is c.part-item.is c.digits-item.is
          ∙ ap (λ w. w ∷ string_bytes c.name-item.result ∷ string_bytes c.part-item.result ∷ string_bytes c.digits-item.result ∷ []) mode
          ∙ ap (λ w. codes "decode" ∷ w ∷ string_bytes c.part-item.result ∷ string_bytes c.digits-item.result ∷ []) (sym c.as_bytes.ensures.value ∙ name)
          ∙ ap (λ w. codes "decode" ∷ c.in_ok-name.name.items ∷ w ∷ string_bytes c.digits-item.result ∷ []) part;
      named = subst (λ l. IsTrue (is_name l)) name c.in_ok-name.ensures.some.1;
      part_least = c.in_ok-part.ensures.some.0;
      part_most = c.in_ok-part.ensures.some.1;
      digits = subst (SpellsPayload c.in_ok-payload.payload.items) c.as_bytes-3.ensures.value c.in_ok-payload.ensures.some.1;
      short = c.in_ok-payload.ensures.some.0;
    }
