use Rattle.std.proofs.Common.{true, sym, ◌∙◌}
use Rattle.raft_log.specs.DurableViews.{durable_state}
use Rattle.raft_model.specs.Lists.{at}
use Rattle.raft_model.specs.Server.{RaftServer}
use Rattle.raft_core.proofs.Ticking.{counted_as}
use Rattle.raft_core.proofs.VoteAnswer.{not_won, won_counted}
use Rattle.raft_core.proofs.raft.Raft.count_vote.Goals as goal

pub win-requires-clause-fits : goal.win-requires-clause-fits
win-requires-clause-fits g c = c.count.ensures.fits (durable_state c.args.d.now) c.requires.fits

pub returns-then-has_quorum-clause-stands : goal.returns-then-has_quorum-clause-stands
returns-then-has_quorum-clause-stands g c = λ members p t st.
    let votes = at p.memory.votes c.args.from true in
    let p1 : RaftServer = record p { memory = record p.memory { votes = votes } } in
    let st1 = c.count.ensures.stands members (durable_state c.args.d.now) p t st in
    let quorum = sym (counted_as c.count.new.self members (durable_state c.args.d.now) p1 t st1 (c.count.ensures.role ∙ c.requires.role) c.has_quorum.result c.has_quorum.ensures) ∙ c.if-has_quorum.true in
    won_counted members p t votes (durable_state c.args.d.now) c.win.new.self quorum (c.win.ensures.stands members p1 t st1)

pub returns-else-has_quorum-clause-stands : goal.returns-else-has_quorum-clause-stands
returns-else-has_quorum-clause-stands g c = λ members p t st.
    let votes = at p.memory.votes c.args.from true in
    let p1 : RaftServer = record p { memory = record p.memory { votes = votes } } in
    let st1 = c.count.ensures.stands members (durable_state c.args.d.now) p t st in
    let quorum = sym (counted_as c.count.new.self members (durable_state c.args.d.now) p1 t st1 (c.count.ensures.role ∙ c.requires.role) c.has_quorum.result c.has_quorum.ensures) ∙ c.if-has_quorum.false in
    not_won members p t votes (durable_state c.args.d.now) c.count.new.self quorum st1

pub returns-else-has_quorum-clause-fits : goal.returns-else-has_quorum-clause-fits
returns-else-has_quorum-clause-fits g c = c.count.ensures.fits (durable_state c.args.d.now) c.requires.fits
