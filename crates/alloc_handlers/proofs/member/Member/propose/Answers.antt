use Rattle.std.proofs.Common.{inl, inr}
use Rattle.alloc_handlers.proofs.Recording.{appended, is_tried, no_room}
use Rattle.alloc_handlers.proofs.Taking.{goes_failed}
use Rattle.alloc_handlers.proofs.member.Member.propose.Goals as goal

pub returns-in_err-propose-clause-goes : goal.returns-in_err-propose-clause-goes
returns-in_err-propose-clause-goes g c step start step_state h =
    goes_failed _ c.from_residual.ensures.0 c.from_residual.ensures.1
    (appended c.requires.ready h c.puts_go_on.ensures step c.propose.ensures.same tt c.in_err-propose.ensures.appends)

pub returns-clause-goes : goal.returns-clause-goes
returns-clause-goes g c step start step_state h =
    let did = c.in_ok-propose.ensures in
    appended c.requires.ready h c.puts_go_on.ensures step did.same
    (is_tried _ (λ is. did.not_leader.0 is c.requires.leads) (λ is. no_room _ c.requires.log_room ((did.full.0 is).1)) (λ is. elim ((did.taken.0 is).2) [ inl here ↦ c.requires.free here | inr here ↦ c.requires.free_node here ]))
    did.appends
