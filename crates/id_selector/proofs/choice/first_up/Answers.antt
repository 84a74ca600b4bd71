use Rattle.std.proofs.Common.{rules, ◌≡◌, ◌-◌, ◌+◌, ◌∙◌, arith, get_or, true}
use Rattle.id_selector.proofs.Search.{passed_up}
use Rattle.id_selector.proofs.choice.first_up.Goals as goal

pub loop-id-preserved : goal.loop-id-preserved
loop-id-preserved c = let id = c.loop-id.id in
    let taken : get_or c.args.taken.now id true ≡ true = search rules in
    c.loop-id.invariant ∙ passed_up c.args.taken.now id (126 - id) (126 - (id + 1)) (omega arith) taken
