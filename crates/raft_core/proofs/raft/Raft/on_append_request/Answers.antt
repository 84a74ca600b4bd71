use Rattle.std.proofs.Common.{rules, subst, refl}
use Rattle.std.specs.Prelude.{List, Some, None}
use Rattle.raft_log.specs.declared.origin.TheConstants.{LEADER}
use Rattle.raft_log.specs.DurableViews.{durable_state}
use Rattle.raft_model.specs.Decisions.{verdict_on}
use Rattle.raft_model.specs.Moves.Appending.{append_puts}
use Rattle.raft_model.specs.Server.{Put}
use Rattle.raft_model.specs.Moves.Elections.{term_puts, with_term}
use Rattle.raft_core.specs.Handled.{append_request_of}
use Rattle.raft_core.specs.StoredPuts.{CallWrites, with_origin, store_of}
use Rattle.raft_core.specs.Times.{given_at}
use Rattle.raft_core.proofs.Judged.{IsLate}
use Rattle.raft_core.proofs.AppendRequest.{puts_now, refused_late, ruled_now, taken, term_failed}
use Rattle.raft_core.proofs.Puts.{alike, faults_at}
use Rattle.raft_core.proofs.raft.Raft.on_append_request.Goals as goal

pub returns-then-is_outdated-clause-moves : goal.returns-then-is_outdated-clause-moves
returns-then-is_outdated-clause-moves g c = λ members n p t st step.
    let raft = c.args.self.now in
    let old = c.args.d.now in
    let r = append_request_of c.args.req.now step c.args.from raft.me in
    let late : IsLate raft members (durable_state old) p t r st = search rules in
    refused_late members raft.me n (given_at c.args.now) p t r (verdict_on p r) (c.law_decisions.ensures.judged p r) old old raft st _ late (search rules) (c.puts_in_turn.ensures.nothing old)

pub returns-in_err-raise-clause-moves : goal.returns-in_err-raise-clause-moves
returns-in_err-raise-clause-moves g c = λ members n p t st step.
    let raft = c.args.self.now in
    let old = c.args.d.now in
    let r = append_request_of c.args.req.now step c.args.from raft.me in
    let not : IsLate raft members (durable_state old) p t r st → ⊥ = λ late. search (rules, late) in
    term_failed members raft.me n (given_at c.args.now) p t r (verdict_on p r) (c.law_decisions.ensures.judged p r) old _ raft st not c.in_err-raise.field-0.0 _ _ (search rules)
    (alike LEADER (term_puts (store_of (durable_state old)) r.term) (append_puts (with_term p.store r.term) r (verdict_on p r)) old _ (Some c.in_err-raise.field-0.0)
    (c.puts_in_turn.ensures.cut_off _ (with_origin LEADER (append_puts (with_term p.store r.term) r (verdict_on p r))) old _ c.in_err-raise.field-0.0 (c.in_err-raise.ensures.puts LEADER)))

pub returns-in_err-success-clause-moves : goal.returns-in_err-success-clause-moves
returns-in_err-success-clause-moves g c = λ members n p t st step.
    let raft = c.args.self.now in
    let old = c.args.d.now in
    let mid = c.raise.new.d in
    let r = append_request_of c.args.req.now step c.args.from raft.me in
    let v = verdict_on p r in
    let judged = c.law_decisions.ensures.judged p r in
    let st1 = c.in_ok-raise.ensures.stands members p t st in
    let not : IsLate raft members (durable_state old) p t r st → ⊥ = λ late. search (rules, late) in
    let ruled = ruled_now members raft.me n (given_at c.args.now) p t r v judged old c.accept.new.d raft st not mid c.raise.new.self st1 in
    let appended = (c.in_err-success.ensures.puts step c.args.from raft.me v ruled).0 in
    let made = subst (λ (l : List Put). CallWrites (with_origin LEADER l) mid c.accept.new.d (Some c.in_err-success.field-0.0)) (puts_now members raft.me n (given_at c.args.now) p t r v judged old c.accept.new.d raft st not mid c.raise.new.self st1) appended in
    term_failed members raft.me n (given_at c.args.now) p t r v judged old _ raft st not c.in_err-success.field-0.0 _ _ (search rules)
    (alike LEADER (term_puts (store_of (durable_state old)) r.term) (append_puts (with_term p.store r.term) r v) old _ (Some c.in_err-success.field-0.0)
    (c.puts_in_turn.ensures.joined _ _ old mid _ _ (c.in_ok-raise.ensures.puts LEADER) made))

pub returns-clause-moves : goal.returns-clause-moves
returns-clause-moves g c = λ members n p t st step.
    let raft = c.args.self.now in
    let old = c.args.d.now in
    let mid = c.raise.new.d in
    let r = append_request_of c.args.req.now step c.args.from raft.me in
    let v = verdict_on p r in
    let judged = c.law_decisions.ensures.judged p r in
    let st1 = c.in_ok-raise.ensures.stands members p t st in
    let not : IsLate raft members (durable_state old) p t r st → ⊥ = λ late. search (rules, late) in
    let ruled = ruled_now members raft.me n (given_at c.args.now) p t r v judged old c.accept.new.d raft st not mid c.raise.new.self st1 in
    let answer = c.in_ok-success.ensures.puts step c.args.from raft.me v ruled in
    let made = subst (λ (l : List Put). CallWrites (with_origin LEADER l) mid c.accept.new.d None) (puts_now members raft.me n (given_at c.args.now) p t r v judged old c.accept.new.d raft st not mid c.raise.new.self st1) answer.0 in
    taken members raft.me n (given_at c.args.now) p t r v judged old c.accept.new.d raft st not mid c.raise.new.self st1 _ _ _ refl refl refl refl refl refl answer.1 refl answer.0
    (alike LEADER (term_puts (store_of (durable_state old)) r.term) (append_puts (with_term p.store r.term) r v) old _ None
    (c.puts_in_turn.ensures.joined _ _ old mid _ _ (c.in_ok-raise.ensures.puts LEADER) made))

pub returns-in_err-success-clause-fault : goal.returns-in_err-success-clause-fault
returns-in_err-success-clause-fault g c =
    faults_at _ c.accept.new.d c.in_err-success.field-0.0 _ (search rules)
    (c.puts_in_turn.ensures.faults c.args.d.now c.raise.new.d c.accept.new.d _ c.in_ok-raise.ensures.fault c.in_err-success.ensures.fault)

pub returns-clause-fault : goal.returns-clause-fault
returns-clause-fault g c = c.puts_in_turn.ensures.faults c.args.d.now c.raise.new.d c.accept.new.d _ c.in_ok-raise.ensures.fault c.in_ok-success.ensures.fault
