use Rattle.alloc_handlers.proofs.Words.{given_at, members_of}
use Rattle.raft_model.specs.Duty as duty
use Rattle.alloc_handlers.proofs.Taking.{made_moves}
use Rattle.alloc_handlers.proofs.member.Member.commit.Goals as goal

pub returns-clause-goes : goal.returns-clause-goes
returns-clause-goes g c step start step_state h =
    let t = step_state.allocator in
    made_moves c.requires h c.puts_go_on.ensures step (λ now. given_at t.now) (λ me. duty.commit_phase (members_of t) me t.raft_server)
    (c.commit.ensures.moves (members_of t) step t.raft_server t.times h.stands.raft (given_at t.now))
