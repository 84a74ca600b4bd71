use Rattle.std.proofs.Common.{◌∷◌, ◌-◌, ap, sym, ◌∙◌, string_bytes, decimal, codes, map, take, drop, length}
use Rattle.allocator_app.proofs.Spelling.{from_two, is_word}
use Rattle.allocator_app.proofs.words.read_above.Goals as goal

pub returns-clause-some : goal.returns-clause-some
returns-clause-some c =
    let words = c.args.words.now in
    let others = map string_bytes (take (length words - 2) (drop 2 words)) in
    let word = sym c.as_str.ensures.value ∙ is_word c.as_str.result.now (codes "above") c.ne.result c.if-ne.false c.ne.ensures in
    let term = sym c.as_bytes.ensures.value ∙ c.in_ok-term.ensures.some.2 in
    record {
      spelled = from_two string_bytes words c.word-item.result c.term-item.result c.in-len2-up.len_at_least c.word-item.is c.term-item.is
          ∙ ap (λ w. w ∷ string_bytes c.term-item.result ∷ others) word
          ∙ ap (λ w. codes "above" ∷ w ∷ others) term
          ∙ ap (λ l. codes "above" ∷ decimal c.in_ok-term.field-0 ∷ l) c.in_ok-ids.ensures.some;
      term_least = c.in_ok-term.ensures.some.0;
      term_most = c.in_ok-term.ensures.some.1;
      members = c.in_ok-ids.ensures.members;
    }
