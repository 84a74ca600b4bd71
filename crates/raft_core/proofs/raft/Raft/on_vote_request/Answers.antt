use Rattle.std.proofs.Common.{rules, [], refl, subst}
use Rattle.std.specs.Prelude.{List, Some, None}
use Rattle.raft_log.specs.declared.origin.TheConstants.{LEADER}
use Rattle.raft_log.specs.DurableViews.{durable_state}
use Rattle.raft_model.specs.Decisions.{grants}
use Rattle.raft_model.specs.Server.{Put}
use Rattle.raft_model.specs.Moves.Elections.{MayGrant, grant_puts, term_puts, vote_puts, with_term}
use Rattle.raft_core.specs.Handled.{vote_request_of}
use Rattle.raft_core.specs.StoredPuts.{CallWrites, with_origin, store_of}
use Rattle.raft_core.specs.Times.{given_at}
use Rattle.raft_core.proofs.Puts.{alike, faults_at}
use Rattle.raft_core.proofs.VoteRequest.{granted_puts, vote_denied, vote_failed, vote_granted, voted_fits}
use Rattle.raft_core.proofs.raft.Raft.on_vote_request.Goals as goal

pub returns-in_err-raise-clause-moves : goal.returns-in_err-raise-clause-moves
returns-in_err-raise-clause-moves g c = λ members n p t st step.
    let raft = c.args.self.now in
    let old = c.args.d.now in
    let r = vote_request_of c.args.req.now step c.args.from raft.me in
    let granted = grants (with_term p.store r.term) r in
    vote_failed members raft.me n (given_at c.args.now) p t r granted (c.law_decisions.ensures.granted (with_term p.store r.term) r) old raft st _ c.in_err-raise.field-0.0 _ _ (search rules)
    (alike LEADER (term_puts (store_of (durable_state old)) r.term) (grant_puts (with_term p.store r.term) r granted) old _ (Some c.in_err-raise.field-0.0)
    (c.puts_in_turn.ensures.cut_off _ (with_origin LEADER (grant_puts (with_term p.store r.term) r granted)) old _ c.in_err-raise.field-0.0 (c.in_err-raise.ensures.puts LEADER)))

pub returns-then-not-may_grant-clause-moves : goal.returns-then-not-may_grant-clause-moves
returns-then-not-may_grant-clause-moves g c = λ members n p t st step.
    let raft = c.args.self.now in
    let old = c.args.d.now in
    let mid = c.raise.new.d in
    let r = vote_request_of c.args.req.now step c.args.from raft.me in
    let no_grant : MayGrant (store_of (durable_state mid)) r → ⊥ = λ may. let h = (c.may_grant.ensures step raft.me).1 may in search (rules, h) in
    vote_denied members raft.me n (given_at c.args.now) p t r (grants (with_term p.store r.term) r) (c.law_decisions.ensures.granted (with_term p.store r.term) r) old raft st mid c.raise.new.self (c.in_ok-raise.ensures.stands members p t st) _ (search rules) no_grant
    (alike LEADER (term_puts (store_of (durable_state old)) r.term) [] old mid None (c.puts_in_turn.ensures.joined _ [] old mid mid _ (c.in_ok-raise.ensures.puts LEADER) (c.puts_in_turn.ensures.nothing mid)))

pub returns-in_err-vote-clause-moves : goal.returns-in_err-vote-clause-moves
returns-in_err-vote-clause-moves g c = λ members n p t st step.
    let raft = c.args.self.now in
    let old = c.args.d.now in
    let mid = c.raise.new.d in
    let r = vote_request_of c.args.req.now step c.args.from raft.me in
    let granted = grants (with_term p.store r.term) r in
    let is = c.law_decisions.ensures.granted (with_term p.store r.term) r in
    let st1 = c.in_ok-raise.ensures.stands members p t st in
    let may : MayGrant (store_of (durable_state mid)) r = (c.may_grant.ensures step raft.me).0 (search rules) in
    vote_failed members raft.me n (given_at c.args.now) p t r granted is old raft st _ c.in_err-vote.field-0.0 _ _ (search rules)
    (alike LEADER (term_puts (store_of (durable_state old)) r.term) (grant_puts (with_term p.store r.term) r granted) old _ (Some c.in_err-vote.field-0.0)
    (c.puts_in_turn.ensures.joined _ (with_origin LEADER (grant_puts (with_term p.store r.term) r granted)) old mid _ _ (c.in_ok-raise.ensures.puts LEADER)
    (subst (λ (l : List Put). CallWrites (with_origin LEADER l) mid c.vote.new.d (Some c.in_err-vote.field-0.0)) (granted_puts members raft.me n (given_at c.args.now) p t r granted is old raft st mid c.raise.new.self st1 may) c.in_err-vote.ensures.puts)))

pub returns-clause-moves : goal.returns-clause-moves
returns-clause-moves g c = λ members n p t st step.
    let raft = c.args.self.now in
    let old = c.args.d.now in
    let mid = c.raise.new.d in
    let r = vote_request_of c.args.req.now step c.args.from raft.me in
    let granted = grants (with_term p.store r.term) r in
    let is = c.law_decisions.ensures.granted (with_term p.store r.term) r in
    let st1 = c.in_ok-raise.ensures.stands members p t st in
    let may : MayGrant (store_of (durable_state mid)) r = (c.may_grant.ensures step raft.me).0 (search rules) in
    vote_granted members raft.me n (given_at c.args.now) p t r granted is old raft st mid c.raise.new.self st1 _ (search rules) c.vote.new.d _ may c.requires.least refl refl refl refl refl refl refl c.in_ok-vote.ensures.puts
    (alike LEADER (term_puts (store_of (durable_state old)) r.term) (vote_puts (store_of (durable_state mid)).vote r.from) old _ None
    (c.puts_in_turn.ensures.joined _ _ old mid _ _ (c.in_ok-raise.ensures.puts LEADER) c.in_ok-vote.ensures.puts))

pub returns-in_err-vote-clause-fault : goal.returns-in_err-vote-clause-fault
returns-in_err-vote-clause-fault g c =
    faults_at _ c.vote.new.d c.in_err-vote.field-0.0 _ (search rules)
    (c.puts_in_turn.ensures.faults c.args.d.now c.raise.new.d c.vote.new.d _ c.in_ok-raise.ensures.fault c.in_err-vote.ensures.puts.faults)

pub returns-clause-fits : goal.returns-clause-fits
returns-clause-fits g c =
    voted_fits c.raise.new.self _ (durable_state c.raise.new.d) (durable_state c.vote.new.d) c.args.from (c.in_ok-raise.ensures.fits c.requires.fits) c.in_ok-vote.ensures.state refl refl refl refl

pub returns-clause-fault : goal.returns-clause-fault
returns-clause-fault g c = c.puts_in_turn.ensures.faults c.args.d.now c.raise.new.d c.vote.new.d _ c.in_ok-raise.ensures.fault c.in_ok-vote.ensures.puts.faults
