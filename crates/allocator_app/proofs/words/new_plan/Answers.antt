use Rattle.std.proofs.Common.{◌∷◌, ◌-◌, ap, refl, sym, subst, ◌∙◌, string_bytes, codes, map, take, drop, length}
use Rattle.allocator_app.specs.Words.{AreOfNew}
use Rattle.allocator_app.proofs.OnePlan.{after_one}
use Rattle.allocator_app.proofs.Spelling.{from_one, is_word}
use Rattle.allocator_app.proofs.words.new_plan.Goals as goal

pub returns-clause-some : goal.returns-clause-some
returns-clause-some c =
    let words = c.args.words.now in
    let rest = map string_bytes (take (length words - 1) (drop 1 words)) in
    let mode = sym c.as_str.ensures.value ∙ is_word c.as_str.result.now (codes "new") c.ne.result c.if-ne.false c.ne.ensures in
    record {
      rest = rest;
      spelled = from_one string_bytes words c.mode-item.result c.in-len1-up.len_at_least c.mode-item.is ∙ ap (λ w. w ∷ rest) mode;
      start = c.in_ok-term.ensures.some;
    }

pub returns-in_err-term-clause-none : goal.returns-in_err-term-clause-none
returns-in_err-term-clause-none c = λ none term ids asks.
    let rest = after_one (sym (from_one string_bytes c.args.words.now c.mode-item.result c.in-len1-up.len_at_least c.mode-item.is) ∙ asks.spelled) in
    c.in_err-term.ensures.none refl term ids (subst (AreOfNew term ids) (sym rest) asks.start)
