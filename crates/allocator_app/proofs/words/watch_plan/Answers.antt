use Rattle.std.proofs.Common.{◌∷◌, ◌-◌, ap, sym, ◌∙◌, string_bytes, decimal, codes, map, take, drop, length}
use Rattle.can_logs.specs.Forms.{form_word}
use Rattle.allocator_app.proofs.Spelling.{from_three, is_word}
use Rattle.allocator_app.proofs.words.watch_plan.Goals as goal

pub returns-clause-some : goal.returns-clause-some
returns-clause-some c =
    let words = c.args.words.now in
    let others = map string_bytes (take (length words - 3) (drop 3 words)) in
    let mode = sym c.as_str.ensures.value ∙ is_word c.as_str.result.now (codes "watch") c.ne.result c.if-ne.false c.ne.ensures in
    let form = sym c.as_str-2.ensures.value ∙ c.in_ok-form.ensures.some in
    let lines = sym c.as_bytes.ensures.value ∙ c.in_ok-lines.ensures.some.2 in
    record {
      spelled = from_three string_bytes words c.mode-item.result c.format-item.result c.lines-item.result c.in-len3-up.len_at_least
          c.mode-item.is c.format-item.is c.lines-item.is
          ∙ ap (λ w. w ∷ string_bytes c.format-item.result ∷ string_bytes c.lines-item.result ∷ others) mode
          ∙ ap (λ w. codes "watch" ∷ w ∷ string_bytes c.lines-item.result ∷ others) form
          ∙ ap (λ w. codes "watch" ∷ form_word c.in_ok-form.form ∷ w ∷ others) lines
          ∙ ap (λ l. codes "watch" ∷ form_word c.in_ok-form.form ∷ decimal c.in_ok-lines.lines ∷ l) c.in_ok-ids.ensures.some;
      lines_least = c.in_ok-lines.ensures.some.0;
      lines_most = c.in_ok-lines.ensures.some.1;
      nodes = c.in_ok-ids.ensures.few;
    }
