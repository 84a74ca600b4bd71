use Rattle.std.proofs.Common.{rules, [], ◌∷◌, ◌+◌, true, false, Some, None, refl}
use Rattle.std.specs.Prelude.{is_ok}
use Rattle.std.specs.Result.{result_err}
use Rattle.raft_model.specs.Server.Put.{PutTerm, PutVote}
use Rattle.raft_log.specs.DurableViews.{durable_state}
use Rattle.raft_core.specs.StoredPuts.{with_origin}
use Rattle.raft_core.proofs.Puts.{does, fails, none_failed}
use Rattle.raft_core.proofs.election.vote_for_itself.Goals as goal

pub returns-in_err-set_term-clause-puts : goal.returns-in_err-set_term-clause-puts
returns-in_err-set_term-clause-puts g c = λ origin.
    let term = (durable_state c.args.d.now).term + 1 in
    fails _ c.args.d.now _ c.in_err-set_term.field-0.0 _ (search rules)
    (c.puts_in_turn.ensures.cut_off (with_origin origin (PutTerm term ∷ PutVote None ∷ [])) (with_origin origin (PutVote (Some c.args.me) ∷ [])) c.args.d.now _ c.in_err-set_term.field-0.0
    (does (with_origin origin (PutTerm term ∷ PutVote None ∷ [])) _ c.args.d.now _ false (Some c.in_err-set_term.field-0.0) tt refl (search rules) c.in_err-set_term.ensures.puts c.in_err-set_term.ensures.fault))

pub returns-clause-puts : goal.returns-clause-puts
returns-clause-puts g c = λ origin.
    let term = (durable_state c.args.d.now).term + 1 in
    c.puts_in_turn.ensures.joined (with_origin origin (PutTerm term ∷ PutVote None ∷ [])) (with_origin origin (PutVote (Some c.args.me) ∷ [])) c.args.d.now c.set_term.new.self _ (result_err c.set_vote.result)
    (does (with_origin origin (PutTerm term ∷ PutVote None ∷ [])) _ c.args.d.now _ true None tt refl (search rules) c.in_ok-set_term.ensures.puts c.in_ok-set_term.ensures.fault)
    (does (with_origin origin (PutVote (Some c.args.me) ∷ [])) _ c.set_term.new.self _ (is_ok c.set_vote.result) (result_err c.set_vote.result) tt (none_failed c.set_vote.result) (search rules) c.set_vote.ensures.puts c.set_vote.ensures.fault)
