use Rattle.std.proofs.Common.{◌≡◌, []}
use Rattle.replay_text.specs.Words.{words}
use Rattle.replay_text.proofs.Splitting.{words-nil}
use Rattle.replay_text.proofs.word.one_word.Goals as goal

pub returns-in-Some-clause-none : goal.returns-in-Some-clause-none
returns-in-Some-clause-none c = λ _ a one.
    let more = c.in-Some.ensures.some in
    let none : words c.in-Some.field-0.1.now ≡ [] = cc in
    words-nil c.in-Some.field-0.1.now none
