use Rattle.std.proofs.Common.{◌∷◌, ◌-◌, ap, sym, ◌∙◌, string_bytes, decimal, codes, map, take, drop, length}
use Rattle.allocator_app.proofs.Spelling.{from_two, is_word}
use Rattle.allocator_app.proofs.words.replay_plan.Goals as goal

pub returns-clause-some : goal.returns-clause-some
returns-clause-some c =
    let words = c.args.words.now in
    let mode = sym c.as_str.ensures.value ∙ is_word c.as_str.result.now (codes "replay") c.ne.result c.if-ne.false c.ne.ensures in
    let rows = sym c.as_bytes.ensures.value ∙ c.in_ok-rows.ensures.some.2 in
    record {
      spelled = from_two string_bytes words c.mode-item.result c.rows-item.result c.in-len2-up.len_at_least c.mode-item.is c.rows-item.is
          ∙ ap (λ w. w ∷ string_bytes c.rows-item.result ∷ map string_bytes (take (length words - 2) (drop 2 words))) mode
          ∙ ap (λ w. codes "replay" ∷ w ∷ map string_bytes (take (length words - 2) (drop 2 words))) rows
          ∙ ap (λ l. codes "replay" ∷ decimal c.in_ok-rows.rows ∷ l) c.in_ok-ids.ensures.some;
      rows_least = c.in_ok-rows.ensures.some.0;
      rows_most = c.in_ok-rows.ensures.some.1;
      members = c.in_ok-ids.ensures.members;
    }
