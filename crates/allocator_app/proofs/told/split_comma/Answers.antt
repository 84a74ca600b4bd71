use Rattle.std.proofs.Common.{arith}
use Rattle.std.proofs.lemmas.List.{take_rest}
use Rattle.allocator_app.proofs.Listing.{commas-at_comma, commas-no_comma}
use Rattle.allocator_app.proofs.told.split_comma.Goals as goal

pub returns-then-end-word-clause-none : goal.returns-then-end-word-clause-none
returns-then-end-word-clause-none c = λ _. commas-no_comma c.args.word.now cc

pub returns-clause-some : goal.returns-clause-some
returns-clause-some c =
    rw take_rest (commas-at_comma c.args.word.now c.comma_or_end-end.result c.comma_or_end-end.ensures.place (omega arith))
