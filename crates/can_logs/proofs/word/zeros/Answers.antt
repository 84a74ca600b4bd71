use Rattle.std.proofs.lemmas.List.{take-replicate}
use Rattle.can_logs.proofs.word.zeros.Goals as goal

pub returns : goal.returns
returns c = let few = c.requires in take-replicate c.args.count 10 48 few
