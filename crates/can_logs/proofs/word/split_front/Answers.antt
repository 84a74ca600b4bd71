use Rattle.std.proofs.Common.{ap, ◌∙◌, sym, take, drop}
use Rattle.std.proofs.lemmas.List.{take_rest, take_at, drop_at}
use Rattle.std.proofs.Common.{take-append-drop}
use Rattle.can_logs.proofs.word.split_front.Goals as goal

pub returns-clause-found : goal.returns-clause-found
returns-clause-found c = rw take_rest (sym (take-append-drop c.args.count c.args.text.now))

pub returns-clause-only : goal.returns-clause-only
returns-clause-only c = λ front rest sized spelt.
    (ap (take c.args.count) spelt ∙ take_at front rest c.args.count sized, rw take_rest (ap (drop c.args.count) spelt ∙ drop_at front rest c.args.count sized))
