use Rattle.std.proofs.Common.{sym, ◌∙◌}
use Rattle.alloc_handlers.proofs.Words.{members_of, result_err, start_of}
use Rattle.alloc_handlers.proofs.Electing.{complete_is, elects, first_and_others}
use Rattle.alloc_handlers.proofs.Taking.{took_moves}
use Rattle.alloc_handlers.proofs.member.Member.elect.Goals as goal

pub returns-clause-goes : goal.returns-clause-goes
returns-clause-goes g c step start step_state h =
    let t = step_state.allocator in
    let list = c.members-members.result.now in
    let known = c.members-members.ensures.known (start_of t) t.heard h.stands.cluster in
    let mine = c.requires.raft_me ∙ h.stands.me in
    took_moves start _ _ _ step_state h step _ _ (result_err c.tick.result) c.puts_go_on.ensures
    (elects c.args.self.now t h.stands step _ _ _ _ _ _ _ mine (complete_is c.args.self.now t h.stands list _ known c.from.ensures)
    (sym known ∙ first_and_others list _ (c.members-members.ensures.first (start_of t) t.heard h.stands.cluster ∙ sym mine) c.members-members.ensures.own)
    (c.tick.ensures.moves (members_of t) step t.raft_server t.times h.stands.raft))
