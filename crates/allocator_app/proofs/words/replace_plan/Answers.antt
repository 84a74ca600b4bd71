use Rattle.std.proofs.Common.{◌∷◌, ◌-◌, ap, refl, sym, subst, arith, ◌∙◌, string_bytes, decimal, codes, map, take, drop, length}
use Rattle.std.proofs.lemmas.Bool.{true≢false}
use Rattle.allocator_app.specs.Words.{MayLose}
use Rattle.allocator_app.proofs.OnePlan.{after_two, in_list, one_number, second, small_member}
use Rattle.allocator_app.proofs.Spelling.{from_two, is_word}
use Rattle.allocator_app.proofs.words.replace_plan.Goals as goal

pub returns-clause-some : goal.returns-clause-some
returns-clause-some c =
    let words = c.args.words.now in
    let mode = sym c.as_str.ensures.value ∙ is_word c.as_str.result.now (codes "replace") c.ne.result c.if-ne.false c.ne.ensures in
    let lost = sym c.as_bytes.ensures.value ∙ c.in_ok-lost.ensures.some.2 in
    record {
      spelled = from_two string_bytes words c.mode-item.result c.lost-item.result c.in-len2-up.len_at_least c.mode-item.is c.lost-item.is
          ∙ ap (λ w. w ∷ string_bytes c.lost-item.result ∷ map string_bytes (take (length words - 2) (drop 2 words))) mode
          ∙ ap (λ w. codes "replace" ∷ w ∷ map string_bytes (take (length words - 2) (drop 2 words))) lost
          ∙ ap (λ l. codes "replace" ∷ decimal c.in_ok-lost.field-0 ∷ l) c.in_ok-ids.ensures.some;
      members = c.in_ok-ids.ensures.members;
      may = subst (λ l. MayLose l c.in_ok-lost.field-0) c.deref.ensures.0 (c.may_lose.ensures.0 c.if-not-may_lose.false);
    }

pub returns-in_err-lost-clause-none : goal.returns-in_err-lost-clause-none
returns-in_err-lost-clause-none c = λ none lost ids asks.
    let words = c.args.words.now in
    let same = sym (from_two string_bytes words c.mode-item.result c.lost-item.result c.in-len2-up.len_at_least c.mode-item.is c.lost-item.is) ∙ asks.spelled in
    let node = asks.members.nodes lost (in_list ids lost asks.may.listed) in
    c.in_err-lost.ensures.none refl lost node.0 node.1 (c.as_bytes.ensures.value ∙ second same)

pub returns-then-not-may_lose-clause-none : goal.returns-then-not-may_lose-clause-none
returns-then-not-may_lose-clause-none c = λ none lost ids asks.
    let words = c.args.words.now in
    let same = sym (from_two string_bytes words c.mode-item.result c.lost-item.result c.in-len2-up.len_at_least c.mode-item.is c.lost-item.is) ∙ asks.spelled in
    let own = c.in_ok-lost.field-0 in
    let most = c.in_ok-lost.ensures.some.1 in
    let members = c.in_ok-ids.ensures.only ids asks.members (after_two same) in
    let lost_is = one_number own lost (omega (arith, most)) (small_member ids lost asks.members asks.may.listed) (sym c.in_ok-lost.ensures.some.2 ∙ c.as_bytes.ensures.value ∙ second same) in
    let may = subst (λ l. MayLose l own) (sym members ∙ sym c.deref.ensures.0) (subst (MayLose ids) (sym lost_is) asks.may) in
    true≢false (sym (c.may_lose.ensures.1 may) ∙ c.if-not-may_lose.true)
