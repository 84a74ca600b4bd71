use Rattle.std.proofs.Common.{refl, ap, ◌∙◌}
use Rattle.alloc_handlers.proofs.Words.{answers_vote_request, delivery_of}
use Rattle.dsdl_codec.specs.VoteRequest.{vote_request_of}
use Rattle.alloc_handlers.proofs.Sights.{reads_listed, reads_unlisted, sees, sees_failed}
use Rattle.alloc_handlers.proofs.member.Member.take_vote_request.Goals as goal

pub returns-else-lists-clause-sees : goal.returns-else-lists-clause-sees
returns-else-lists-clause-sees g c start step_state h =
    let d = delivery_of c.args.transfer.now in
    reads_unlisted (answers_vote_request c.args.self.now.offered.step d) d (c.in-Some.ensures.value ∙ ap vote_request_of c.deref.ensures.0) _ (c.lists.ensures.stands step_state.allocator h.stands) c.if-lists.false h

pub returns-in_ok-answer_vote-clause-sees : goal.returns-in_ok-answer_vote-clause-sees
returns-in_ok-answer_vote-clause-sees g c start step_state h =
    let d = delivery_of c.args.transfer.now in
    reads_listed (answers_vote_request c.args.self.now.offered.step d) d (c.in-Some.ensures.value ∙ ap vote_request_of c.deref.ensures.0) _ (c.lists.ensures.stands step_state.allocator h.stands) c.if-lists.true
    (sees refl ((c.in_ok-answer_vote.ensures.goes start step_state h).step_state refl))

pub returns-in_err-answer_vote-clause-sees : goal.returns-in_err-answer_vote-clause-sees
returns-in_err-answer_vote-clause-sees g c start step_state h =
    let d = delivery_of c.args.transfer.now in
    reads_listed (answers_vote_request c.args.self.now.offered.step d) d (c.in-Some.ensures.value ∙ ap vote_request_of c.deref.ensures.0) _ (c.lists.ensures.stands step_state.allocator h.stands) c.if-lists.true
    (sees_failed _ c.from_residual.ensures.0 c.from_residual.ensures.1 (c.in_err-answer_vote.ensures.goes start step_state h))
