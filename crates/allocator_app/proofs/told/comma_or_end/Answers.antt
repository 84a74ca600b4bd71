use Rattle.std.proofs.Common.{rules, tests, ap, ◌∙◌, ◌==◌, length, unwrap_or}
use Rattle.std.proofs.lemmas.Iterator.{YieldsList-from_slice}
use Rattle.std.proofs.lemmas.Iterator.Search.{position_from_yields_List}
use Rattle.std.proofs.lemmas.List.Sums.{prefix_len-le-length}
use Rattle.replay_text.proofs.Splitting.{place_or_end}
use Rattle.allocator_app.proofs.told.comma_or_end.Goals as goal

pub returns-clause-place : goal.returns-clause-place
returns-clause-place c =
    let found = position_from_yields_List (λ byte. byte == 44) _ _ _ c.position.ensures.ran (YieldsList-from_slice c.args.word.now cc) (λ x b q k. search (rules, tests)) in
    c.unwrap_or.ensures ∙ ap (λ place. unwrap_or place (length c.args.word.now)) found
    ∙ place_or_end _ _ (prefix_len-le-length _ c.args.word.now)
