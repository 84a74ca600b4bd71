use Rattle.std.proofs.Common.{◌<◌, arith, length, ◌∙◌, sym}
use Rattle.std.proofs.lemmas.Grind.{common_steps}
use Rattle.std.proofs.lemmas.List.{take_rest}
use Rattle.dsdl_text.proofs.Splitting.{words-next}
use Rattle.dsdl_text.proofs.word.next_word.Goals as goal

pub returns-clause-some : goal.returns-clause-some
returns-clause-some c =
    let filled : 0 < length c.without_spaces-text.result.now = grind (arith, common_steps) in
    sym c.without_spaces-text.ensures.words
    ∙ rw take_rest (words-next c.without_spaces-text.result.now c.place_or_end-end.result c.place_or_end-end.ensures.place c.without_spaces-text.ensures.front filled)
