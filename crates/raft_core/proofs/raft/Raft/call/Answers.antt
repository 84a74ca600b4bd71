use Rattle.std.proofs.Common.{rules, ◌<◌, inl, inr, sym, subst, arith}
use Rattle.raft_log.specs.DurableViews.{durable_state}
use Rattle.raft_core.specs.declared.calls.Call.TheVariants.{Append}
use Rattle.raft_core.specs.Calls.{Owes}
use Rattle.raft_core.proofs.Calling.{owes_append}
use Rattle.raft_core.proofs.raft.Raft.call.Goals.{then-kept-last+else-not-is_silent, else-kept-last}
use Rattle.raft_core.proofs.raft.Raft.call.Goals as goal

pub returns-in-Leader-2-clause-some : goal.returns-in-Leader-2-clause-some
returns-in-Leader-2-clause-some g c =
    let raft = c.args.self.now in
    let state = durable_state c.args.d.now in
    let below : c.args.peer < 128 = omega arith in
    subst (λ request. Owes raft state c.args.peer c.args.now (Append request)) (sym c.append_request.ensures)
    (owes_append raft state c.args.peer c.args.now below (search rules) (search rules) (search rules)
    (elim c.if-kept-last.branch [ then-kept-last+else-not-is_silent w ↦ inr (search rules) | else-kept-last w ↦ inl (search rules) ]))
