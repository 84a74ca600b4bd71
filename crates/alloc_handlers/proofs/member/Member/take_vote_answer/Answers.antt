use Rattle.std.proofs.Common.{refl, ap, ◌∙◌}
use Rattle.alloc_handlers.proofs.Words.{delivery_of, ends_vote_call}
use Rattle.dsdl_codec.specs.VoteAnswer.{vote_answer_of}
use Rattle.alloc_handlers.proofs.Sights.{reads_listed, reads_unlisted, sees, sees_failed}
use Rattle.alloc_handlers.proofs.member.Member.take_vote_answer.Goals as goal

pub returns-else-lists-clause-sees : goal.returns-else-lists-clause-sees
returns-else-lists-clause-sees g c step start step_state h =
    let d = delivery_of c.args.transfer.now in
    reads_unlisted (ends_vote_call step d) d (c.in-Some.ensures.value ∙ ap vote_answer_of c.deref.ensures.0) _ (c.lists.ensures.stands step_state.allocator h.stands) c.if-lists.false h

pub returns-in_ok-end_vote_call-clause-sees : goal.returns-in_ok-end_vote_call-clause-sees
returns-in_ok-end_vote_call-clause-sees g c step start step_state h =
    let d = delivery_of c.args.transfer.now in
    reads_listed (ends_vote_call step d) d (c.in-Some.ensures.value ∙ ap vote_answer_of c.deref.ensures.0) _ (c.lists.ensures.stands step_state.allocator h.stands) c.if-lists.true
    (sees refl ((c.in_ok-end_vote_call.ensures.goes step start step_state h).step_state refl))

pub returns-in_err-end_vote_call-clause-sees : goal.returns-in_err-end_vote_call-clause-sees
returns-in_err-end_vote_call-clause-sees g c step start step_state h =
    let d = delivery_of c.args.transfer.now in
    reads_listed (ends_vote_call step d) d (c.in-Some.ensures.value ∙ ap vote_answer_of c.deref.ensures.0) _ (c.lists.ensures.stands step_state.allocator h.stands) c.if-lists.true
    (sees_failed _ c.from_residual.ensures.0 c.from_residual.ensures.1 (c.in_err-end_vote_call.ensures.goes step start step_state h))
