use Rattle.std.proofs.Common.{[], ◌∷◌, ap, sym, ◌∙◌, string_bytes, codes}
use Rattle.allocator_app.proofs.Spelling.{is_word, two_alone}
use Rattle.allocator_app.proofs.words.read_cluster.Goals as goal

pub returns-clause-some : goal.returns-clause-some
returns-clause-some c =
    let kind = sym c.as_str.ensures.value ∙ is_word c.as_str.result.now (codes "configured") c.ne.result c.if-ne.false c.ne.ensures in
    let size = sym c.as_bytes-2.ensures.value ∙ c.in_ok-size-2.ensures.some.2 in
    record {
      spelled = two_alone string_bytes c.args.words.now c.kind-item.result c.size-item-then-words-lt3.result c.in-len2.len_at_least c.in-len2.len_below
          c.kind-item.is c.size-item-then-words-lt3.is
          ∙ ap (λ w. w ∷ string_bytes c.size-item-then-words-lt3.result ∷ []) kind ∙ ap (λ w. codes "configured" ∷ w ∷ []) size;
      least = c.in_ok-size-2.ensures.some.0;
      most = c.in_ok-size-2.ensures.some.1;
    }
