use Rattle.std.proofs.Common.{refl, subst, ◌∙◌, List, ℕ, Some}
use Rattle.alloc_handlers.proofs.Words.{Answers, IsInStep, Request, StepState, Vote, answer_to, delivery_of, given_at, grants, members_of, vote_request_of, with_moves, with_response_to, with_term}
use Rattle.alloc_handlers.proofs.Taking.{cut_off, goes_failed, is_step_state, made_moves, no_more}
use Rattle.alloc_handlers.proofs.Voting.{answer_bytes, votes_as}
use Rattle.alloc_handlers.proofs.member.Member.answer_vote.Goals as goal

pub returns-in_err-answer-clause-goes : goal.returns-in_err-answer-clause-goes
returns-in_err-answer-clause-goes g c start step_state h =
    let t = step_state.allocator in
    let d = c.args.transfer.now in
    let did = c.in_err-answer.ensures.moves (members_of t) c.args.self.now.offered.step t.raft_server t.times h.stands.raft d.mark.step in
    goes_failed _ c.from_residual.ensures.0 c.from_residual.ensures.1
    (cut_off c.puts_go_on.ensures (made_moves c.requires.ready.ready h c.puts_go_on.ensures c.args.self.now.offered.step given_at (votes_as t c.args.request.now d.mark.step d.ident.source) did.0) (no_more _ _ refl refl refl))

pub returns-clause-goes : goal.returns-clause-goes
returns-clause-goes g c start step_state h =
    let t = step_state.allocator in
    let s = c.args.self.now.offered.step in
    let d = c.args.transfer.now in
    let did = c.in_ok-answer.ensures.moves (members_of t) s t.raft_server t.times h.stands.raft d.mark.step in
    let r : Request = vote_request_of c.args.request.now d.mark.step d.ident.source t.me in
    let g1 : StepState = with_moves s (given_at t.now) (votes_as t c.args.request.now d.mark.step d.ident.source t.me) step_state in
    is_step_state
    (subst (λ (payload : List ℕ). IsInStep start c.answer.new.self (with_response_to s Vote (delivery_of d) payload
    (Some (Answers (answer_to t.me s (with_term t.raft_server.store c.args.request.now.term) r (grants (with_term t.raft_server.store c.args.request.now.term) r)))) g1)) (c.write.ensures.bytes ∙ answer_bytes _ _ _ _ did.1.0 did.1.1)
    (c.answer.ensures.step_state refl _ start g1 ((made_moves c.requires.ready.ready h c.puts_go_on.ensures s given_at (votes_as t c.args.request.now d.mark.step d.ident.source) did.0).step_state refl)))
