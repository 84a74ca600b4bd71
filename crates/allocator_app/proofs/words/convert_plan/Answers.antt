use Rattle.std.proofs.Common.{◌∷◌, [], ap, sym, ◌∙◌, string_bytes, codes}
use Rattle.can_logs.specs.Forms.{form_word}
use Rattle.allocator_app.proofs.Spelling.{four_alone, is_word}
use Rattle.allocator_app.proofs.words.convert_plan.Goals as goal

pub returns-clause-some : goal.returns-clause-some
returns-clause-some c =
    let mode = sym c.as_str.ensures.value ∙ is_word c.as_str.result.now (codes "convert") c.ne.result c.if-ne.false c.ne.ensures in
    let old = sym c.as_str-2.ensures.value ∙ c.in_ok-from.ensures.some in
    let new = sym c.as_str-3.ensures.value ∙ c.in_ok-to.ensures.some in
    let lines = sym c.as_bytes.ensures.value ∙ c.in_ok-lines.ensures.some.2 in
    record {
      spelled = four_alone string_bytes c.args.words.now c.mode-item.result c.from-item.result c.to-item.result c.lines-item.result c.in-len4.len_at_least c.in-len4.len_below
          c.mode-item.is c.from-item.is c.to-item.is c.lines-item.is
          ∙ ap (λ w. w ∷ string_bytes c.from-item.result ∷ string_bytes c.to-item.result ∷ string_bytes c.lines-item.result ∷ []) mode
          ∙ ap (λ w. codes "convert" ∷ w ∷ string_bytes c.to-item.result ∷ string_bytes c.lines-item.result ∷ []) old
          ∙ ap (λ w. codes "convert" ∷ form_word c.in_ok-from.from ∷ w ∷ string_bytes c.lines-item.result ∷ []) new
          ∙ ap (λ w. codes "convert" ∷ form_word c.in_ok-from.from ∷ form_word c.in_ok-to.to ∷ w ∷ []) lines;
      lines_least = c.in_ok-lines.ensures.some.0;
      lines_most = c.in_ok-lines.ensures.some.1;
    }
