use Rattle.std.proofs.Common.{false}
use Rattle.alloc_handlers.proofs.Words.{delivery_of, members_of, vote_answered}
use Rattle.alloc_handlers.proofs.Answered.{ended_call}
use Rattle.alloc_handlers.proofs.Taking.{goes_failed}
use Rattle.alloc_handlers.proofs.member.Member.end_vote_call.Goals as goal

pub returns-in_err-on_vote_answer-clause-goes : goal.returns-in_err-on_vote_answer-clause-goes
returns-in_err-on_vote_answer-clause-goes g c step start step_state h =
    let t = step_state.allocator in
    let d = delivery_of c.args.transfer.now in
    let did = c.in_err-on_vote_answer.ensures in
    goes_failed _ c.from_residual.ensures.0 c.from_residual.ensures.1
    (ended_call c.requires.ready h c.puts_go_on.ensures step d.ident.source d.id false (vote_answered d c.args.answer.now) (did.refused (members_of t) t.raft_server t.times h.stands.raft)
    (λ awaited request pending. (did.moves (members_of t) step t.raft_server t.times h.stands.raft awaited d.mark.step request pending).0))

pub returns-clause-goes : goal.returns-clause-goes
returns-clause-goes g c step start step_state h =
    let t = step_state.allocator in
    let d = delivery_of c.args.transfer.now in
    let did = c.in_ok-on_vote_answer.ensures in
    ended_call c.requires.ready h c.puts_go_on.ensures step d.ident.source d.id false (vote_answered d c.args.answer.now) (did.refused (members_of t) t.raft_server t.times h.stands.raft)
    (λ awaited request pending. (did.moves (members_of t) step t.raft_server t.times h.stands.raft awaited d.mark.step request pending).0)
