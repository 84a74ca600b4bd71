use Rattle.can_logs.proofs.Splits.{spaces_first, none_left}
use Rattle.std.proofs.lemmas.List.{take_rest}
use Rattle.can_logs.proofs.word.without_spaces.Goals as goal

pub returns-clause-front : goal.returns-clause-front
returns-clause-front c = (c.spaces.result, rw take_rest (spaces_first c.args.text.now c.spaces.result c.spaces.ensures.count c.spaces.ensures.within))

pub returns-clause-none_left : goal.returns-clause-none_left
returns-clause-none_left c = rw take_rest (none_left c.args.text.now c.spaces.result c.spaces.ensures.count)
