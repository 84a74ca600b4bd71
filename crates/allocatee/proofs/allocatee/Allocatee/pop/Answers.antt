use Rattle.std.proofs.Common.{ap, sym, ◌∙◌, List}
use Rattle.transfer_tx.specs.Queue.{Queued, left_behind}
use Rattle.allocatee.proofs.Unchanged.{unchanged}
use Rattle.allocatee.proofs.allocatee.Allocatee.pop.Goals as goal

pub returns-clause-unchanged : goal.returns-clause-unchanged
unfolding left_behind
returns-clause-unchanged g c none =
    let empty = c.pop.ensures.none.0 none in
    let emptied = c.pop.ensures.rest ∙ ap (λ (list : List Queued). record c.args.self.now.applicant { queue = left_behind list }) empty in
    let same = sym (ap (λ (list : List Queued). record c.args.self.now.applicant { queue = list }) empty) in
    unchanged c.args.self.now c.pop.new.self (emptied ∙ same) _
