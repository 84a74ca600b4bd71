use Rattle.std.proofs.Common.{◌∷◌, ◌-◌, ap, refl, sym, subst, ◌∙◌, string_bytes, decimal, codes, map, take, drop, length}
use Rattle.std.proofs.lemmas.Bool.{true≢false}
use Rattle.allocator_app.specs.Told.{AreAmong, Spells}
use Rattle.allocator_app.proofs.Listing.{same_told}
use Rattle.allocator_app.proofs.Spelling.{after_four, from_four, is_word, second_of_four}
use Rattle.allocator_app.proofs.words.node_plan.Goals as goal

pub returns-clause-some : goal.returns-clause-some
returns-clause-some c =
    let words = c.args.words.now in
    let others = map string_bytes (take (length words - 4) (drop 4 words)) in
    let mode = sym c.as_str.ensures.value ∙ is_word c.as_str.result.now (codes "node") c.ne.result c.if-ne.false c.ne.ensures in
    let base = sym c.as_bytes-2.ensures.value ∙ c.in_ok-base.ensures.some.2 in
    let turns = sym c.as_bytes-3.ensures.value ∙ c.in_ok-turns.ensures.found.1 in
    let word = string_bytes c.told-item.result in
    record {
      word = word;
      spelled = from_four string_bytes words c.mode-item.result c.told-item.result c.base-item.result c.turns-item.result c.in-len4-up.len_at_least
          c.mode-item.is c.told-item.is c.base-item.is c.turns-item.is
          ∙ ap (λ w. w ∷ word ∷ string_bytes c.base-item.result ∷ string_bytes c.turns-item.result ∷ others) mode
          ∙ ap (λ w. codes "node" ∷ word ∷ w ∷ string_bytes c.turns-item.result ∷ others) base
          ∙ ap (λ w. codes "node" ∷ word ∷ decimal c.in_ok-base.field-0 ∷ w ∷ others) turns
          ∙ ap (λ l. codes "node" ∷ word ∷ decimal c.in_ok-base.field-0 ∷ decimal c.in_ok-turns.turns ∷ l) c.in_ok-ids.ensures.some;
      spells = subst (Spells c.in_ok-told.told) c.as_bytes.ensures.value c.in_ok-told.ensures.some.0;
      cluster = c.in_ok-told.ensures.some.1;
      base_least = c.in_ok-base.ensures.some.0;
      base_most = c.in_ok-base.ensures.some.1;
      turns_most = c.in_ok-turns.ensures.found.0;
      members = c.in_ok-ids.ensures.members;
      among = subst (AreAmong c.in_ok-told.told) c.deref.ensures.0 (c.has_room_for.ensures.0 c.if-not-has_room_for.false);
    }

pub returns-in_err-told-clause-none : goal.returns-in_err-told-clause-none
returns-in_err-told-clause-none c = λ none told base turns ids asks.
    let words = c.args.words.now in
    let same = sym (from_four string_bytes words c.mode-item.result c.told-item.result c.base-item.result c.turns-item.result c.in-len4-up.len_at_least
    c.mode-item.is c.told-item.is c.base-item.is c.turns-item.is) ∙ asks.spelled in
    c.in_err-told.ensures.none refl told asks.cluster (subst (Spells told) (sym (c.as_bytes.ensures.value ∙ second_of_four same)) asks.spells)

pub returns-then-not-has_room_for-clause-none : goal.returns-then-not-has_room_for-clause-none
returns-then-not-has_room_for-clause-none c = λ none told base turns ids asks.
    let words = c.args.words.now in
    let same = sym (from_four string_bytes words c.mode-item.result c.told-item.result c.base-item.result c.turns-item.result c.in-len4-up.len_at_least
    c.mode-item.is c.told-item.is c.base-item.is c.turns-item.is) ∙ asks.spelled in
    let own = c.in_ok-ids.ensures.only ids asks.members (after_four same) in
    let told_is = same_told c.in_ok-told.told told asks.word c.in_ok-told.ensures.some.1 asks.cluster
    (subst (Spells c.in_ok-told.told) (c.as_bytes.ensures.value ∙ second_of_four same) c.in_ok-told.ensures.some.0) asks.spells in
    let among = subst (λ t. AreAmong t ids) (sym told_is) asks.among in
    true≢false (sym (c.has_room_for.ensures.1 (subst (AreAmong c.in_ok-told.told) (sym own ∙ sym c.deref.ensures.0) among)) ∙ c.if-not-has_room_for.true)
