use Rattle.std.proofs.Common.{arith}
use Rattle.std.proofs.lemmas.List.{take_rest}
use Rattle.replay_text.proofs.Splitting.{words-at_space, words-no_space}
use Rattle.replay_text.proofs.word.split_word.Goals as goal

pub returns-then-end-text-clause-none : goal.returns-then-end-text-clause-none
returns-then-end-text-clause-none c = λ _. words-no_space c.args.text.now cc

pub returns-clause-some : goal.returns-clause-some
returns-clause-some c =
    rw take_rest (words-at_space c.args.text.now c.space_or_end-end.result c.space_or_end-end.ensures.place (omega arith))
