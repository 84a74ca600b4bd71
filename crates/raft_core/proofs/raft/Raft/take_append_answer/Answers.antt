use Rattle.std.proofs.Common.{rules, ◌≡◌, ◌≤◌, false, refl, sym, subst, ap, ◌∙◌, length, arith}
use Rattle.std.specs.Prelude.{Some, None, nat_lt}
use Rattle.raft_log.specs.declared.origin.TheConstants.{LEADER}
use Rattle.raft_log.specs.DurableViews.{durable_state}
use Rattle.raft_model.specs.Moves.Elections.{memory_without_call, term_puts}
use Rattle.raft_model.specs.Moves.Move.{TakeAppendAnswer}
use Rattle.raft_model.specs.Server.{RaftServer, Store}
use Rattle.raft_core.specs.Handled.{answer_of}
use Rattle.raft_core.specs.StoredPuts.{CallWrites, with_origin}
use Rattle.raft_core.specs.Times.{end_call, given_at}
use Rattle.raft_core.proofs.Answering.{leader_stays, matched, not_higher, not_matched, unraised}
use Rattle.raft_core.proofs.Moving.{one_move_failed}
use Rattle.raft_core.proofs.raft.Raft.take_append_answer.Goals as goal

pub returns-in_err-raise-clause-moves : goal.returns-in_err-raise-clause-moves
returns-in_err-raise-clause-moves g c = λ members n p t st step r reaches.
    let old = c.args.d.now in
    let a = answer_of step c.args.from r c.args.ans.now.term c.args.ans.now.success in
    one_move_failed members c.args.self.now.me n (given_at c.args.now) (TakeAppendAnswer a) p t old _ c.raise.new.self _ c.in_err-raise.field-0.0 (search rules)
    (subst (λ (z : Store). CallWrites (with_origin LEADER (term_puts z a.term)) old c.raise.new.d (Some c.in_err-raise.field-0.0)) (sym st.store) (c.in_err-raise.ensures.puts LEADER))

pub move_on-requires-clause-reach : goal.move_on-requires-clause-reach
move_on-requires-clause-reach g c =
    let leads = c.if-leads.ensures.leader refl in
    let within = c.requires.reach (sym c.end_call.ensures.role ∙ leader_stays c.end_call.new.self c.raise.new.self c.in_ok-raise.ensures.role leads) in
    omega (arith, within, (c.a_durable_state_is_kept.ensures c.args.d.now).storable.room)

pub move_on-requires-clause-matched : goal.move_on-requires-clause-matched
move_on-requires-clause-matched g c = λ d.
    let leads = c.if-leads.ensures.leader refl in
    let fits = c.in_ok-raise.ensures.fits (c.end_call.ensures.fits (durable_state c.args.d.now) c.requires.fits) in
    omega (arith, (fits.peers leads c.args.from d (omega (arith, c.requires.most))).matched, (c.a_durable_state_is_kept.ensures c.raise.new.d).storable.room)

pub returns-then-leads-clause-moves : goal.returns-then-leads-clause-moves
returns-then-leads-clause-moves g c = λ members n p t st step r reaches.
    let old = c.args.d.now in
    let a = answer_of step c.args.from r c.args.ans.now.term c.args.ans.now.success in
    let p1 : RaftServer = record p { memory = memory_without_call p.memory c.args.from } in
    let t1 = end_call c.args.from t in
    let leads = c.if-leads.ensures.leader refl in
    let st2 = c.in_ok-raise.ensures.stands members p1 t1 (c.end_call.ensures.stands members (durable_state old) p t st) in
    let low = not_higher p1 a.term c.raise.new.self.role st2.role (λ h. cc (sym leads ∙ h)) in
    let st3 = unraised c.raise.new.self members (durable_state c.raise.new.d) p1 t1 c.args.now a.term low st2 in
    let so = sym (c.leads.ensures.leads p1 a st3.role (ap (λ (z : Store). z.term) st3.store ∙ sym c.term.ensures) refl) ∙ c.if-leads.true in
    matched members c.args.self.now.me n (given_at c.args.now) p t a old c.raise.new.d _ low so
    (subst (λ (z : Store). CallWrites (with_origin LEADER (term_puts z a.term)) old c.raise.new.d None) (sym st.store) (c.in_ok-raise.ensures.puts LEADER))
    (c.move_on.ensures.stands members (durable_state c.raise.new.d) p1 t1 st3 leads a refl refl reaches)

pub returns-then-leads-clause-fits : goal.returns-then-leads-clause-fits
returns-then-leads-clause-fits g c =
    let leads = c.if-leads.ensures.leader refl in
    let within = c.requires.reach (sym c.end_call.ensures.role ∙ leader_stays c.end_call.new.self c.raise.new.self c.in_ok-raise.ensures.role leads) in
    c.move_on.ensures.fits (durable_state c.raise.new.d) (c.in_ok-raise.ensures.fits (c.end_call.ensures.fits (durable_state c.args.d.now) c.requires.fits))
    (subst (λ l. c.args.reach ≤ length l) (sym c.in_ok-raise.ensures.log) within)

pub returns-else-leads-clause-moves : goal.returns-else-leads-clause-moves
returns-else-leads-clause-moves g c = λ members n p t st step r reaches.
    let old = c.args.d.now in
    let a = answer_of step c.args.from r c.args.ans.now.term c.args.ans.now.success in
    let p1 : RaftServer = record p { memory = memory_without_call p.memory c.args.from } in
    let t1 = end_call c.args.from t in
    let st2 = c.in_ok-raise.ensures.stands members p1 t1 (c.end_call.ensures.stands members (durable_state old) p t st) in
    let none = λ (low : nat_lt p.store.term a.term ≡ false).
    let st3 = unraised c.raise.new.self members (durable_state c.raise.new.d) p1 t1 c.args.now a.term low st2 in
    sym (c.leads.ensures.leads p1 a st3.role (ap (λ (z : Store). z.term) st3.store ∙ sym c.term.ensures) refl) ∙ c.if-leads.false in
    not_matched members c.args.self.now.me n (given_at c.args.now) p t a old c.raise.new.d c.raise.new.self none
    (subst (λ (z : Store). CallWrites (with_origin LEADER (term_puts z a.term)) old c.raise.new.d None) (sym st.store) (c.in_ok-raise.ensures.puts LEADER)) st2

pub returns-else-leads-clause-fits : goal.returns-else-leads-clause-fits
returns-else-leads-clause-fits g c = c.in_ok-raise.ensures.fits (c.end_call.ensures.fits (durable_state c.args.d.now) c.requires.fits)
