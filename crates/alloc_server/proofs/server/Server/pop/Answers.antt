use Rattle.std.proofs.Common.{ap, ◌∙◌, List, sym}
use Rattle.transfer_tx.specs.Queue.{Queued, left_behind}
use Rattle.alloc_spec.specs.Outbox.{Waiting}
use Rattle.alloc_server.proofs.Unchanged.{unchanged}
use Rattle.alloc_server.proofs.server.Server.pop.Goals as goal

pub invariant_of-self-clause-silent : goal.invariant_of-self-clause-silent
unfolding left_behind
invariant_of-self-clause-silent g c why failed =
    ap (λ (w : Waiting). w.queue) c.pop.ensures.rest ∙ ap left_behind (c.args.self.now.silent why failed)

pub returns-clause-unchanged : goal.returns-clause-unchanged
unfolding left_behind
returns-clause-unchanged g c none =
    let empty = c.pop.ensures.none.0 none in
    let emptied = c.pop.ensures.rest ∙ ap (λ (list : List Queued). record c.args.self.now.member.outbox { queue = left_behind list }) empty in
    let same = sym (ap (λ (list : List Queued). record c.args.self.now.member.outbox { queue = list }) empty) in
    unchanged c.args.self.now c.pop.new.self (emptied ∙ same) _ _ _ _
