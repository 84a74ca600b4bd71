use Rattle.std.proofs.Common.{◌∷◌, ◌-◌, arith, ap, sym, ◌∙◌, string_bytes, decimal, codes, map, take, drop, length}
use Rattle.allocator_app.proofs.Spelling.{from_three, is_word}
use Rattle.allocator_app.proofs.words.soak_plan.Goals as goal

pub returns-clause-some : goal.returns-clause-some
returns-clause-some c =
    let words = c.args.words.now in
    let others = map string_bytes (take (length words - 3) (drop 3 words)) in
    let mode = sym c.as_str.ensures.value ∙ is_word c.as_str.result.now (codes "soak") c.ne.result c.if-ne.false c.ne.ensures in
    let seed = sym c.as_bytes.ensures.value ∙ c.in_ok-seed.ensures.found.1 in
    let rounds = sym c.as_bytes-2.ensures.value ∙ c.in_ok-rounds.ensures.found.1 in
    let low = c.in_ok-seed.ensures.found.0 in
    record {
      cluster = others;
      spelled = from_three string_bytes words c.mode-item.result c.seed-item.result c.rounds-item.result c.in-len3-up.len_at_least
          c.mode-item.is c.seed-item.is c.rounds-item.is
          ∙ ap (λ w. w ∷ string_bytes c.seed-item.result ∷ string_bytes c.rounds-item.result ∷ others) mode
          ∙ ap (λ w. codes "soak" ∷ w ∷ string_bytes c.rounds-item.result ∷ others) seed
          ∙ ap (λ w. codes "soak" ∷ decimal c.in_ok-seed.seed ∷ w ∷ others) rounds;
      sized = c.in_ok-told.ensures.some;
      seed_most = omega (arith, low);
      rounds_most = c.in_ok-rounds.ensures.found.0;
    }
