use Rattle.std.proofs.Common.{rules, ◌≡◌, false, refl, sym, subst, ap, ◌∙◌}
use Rattle.std.specs.Prelude.{Some, None, nat_lt}
use Rattle.raft_log.specs.declared.origin.TheConstants.{LEADER}
use Rattle.raft_log.specs.DurableViews.{durable_state}
use Rattle.raft_model.specs.Moves.Elections.{memory_without_call, term_puts}
use Rattle.raft_model.specs.Moves.Move.{TakeVoteAnswer}
use Rattle.raft_model.specs.Server.{RaftServer, Store}
use Rattle.raft_core.specs.Handled.{answer_of}
use Rattle.raft_core.specs.StoredPuts.{CallWrites, with_origin}
use Rattle.raft_core.specs.Times.{end_vote_call, given_at}
use Rattle.raft_core.proofs.Answering.{no_vote_counted, not_higher, unraised, vote_counted}
use Rattle.raft_core.proofs.Moving.{one_move_failed}
use Rattle.raft_core.proofs.raft.Raft.take_vote_answer.Goals as goal

pub returns-in_err-raise-clause-moves : goal.returns-in_err-raise-clause-moves
returns-in_err-raise-clause-moves g c = λ members n p t st step r.
    let old = c.args.d.now in
    let a = answer_of step c.args.from r c.args.ans.now.term c.args.ans.now.granted in
    one_move_failed members c.args.self.now.me n (given_at c.args.now) (TakeVoteAnswer a) p t old c.raise.new.d c.raise.new.self _ c.in_err-raise.field-0.0 (search rules)
    (subst (λ (z : Store). CallWrites (with_origin LEADER (term_puts z a.term)) old c.raise.new.d (Some c.in_err-raise.field-0.0)) (sym st.store) (c.in_err-raise.ensures.puts LEADER))

pub count_vote-requires-clause-fits : goal.count_vote-requires-clause-fits
count_vote-requires-clause-fits g c = c.in_ok-raise.ensures.fits (c.note_answer.ensures.fits (durable_state c.args.d.now) (c.end_call.ensures.fits (durable_state c.args.d.now) c.requires.fits))

pub returns-then-counts-clause-moves : goal.returns-then-counts-clause-moves
returns-then-counts-clause-moves g c = λ members n p t st step r.
    let old = c.args.d.now in
    let mid = c.raise.new.d in
    let a = answer_of step c.args.from r c.args.ans.now.term c.args.ans.now.granted in
    let p1 : RaftServer = record p { memory = memory_without_call p.memory c.args.from } in
    let t1 = end_vote_call c.args.from t in
    let stands = c.if-counts.ensures.candidate refl in
    let st1 = c.note_answer.ensures.stands members (durable_state old) p1 _ (c.end_call.ensures.stands members (durable_state old) p t st) in
    let st2 = c.in_ok-raise.ensures.stands members p1 t1 st1 in
    let low = not_higher p1 a.term c.raise.new.self.role st2.role (λ h. cc (sym stands ∙ h)) in
    let st3 = unraised c.raise.new.self members (durable_state mid) p1 t1 c.args.now a.term low st2 in
    let so = sym (c.counts.ensures.counts p1 a st3.role (ap (λ (z : Store). z.term) st3.store ∙ sym c.term.ensures) refl refl) ∙ c.if-counts.true in
    vote_counted members c.args.self.now.me n (given_at c.args.now) p t a old mid c.count_vote.new.self low so
    (subst (λ (z : Store). CallWrites (with_origin LEADER (term_puts z a.term)) old mid None) (sym st.store) (c.in_ok-raise.ensures.puts LEADER))
    (c.count_vote.ensures.stands members p1 t1 st3)

pub returns-else-counts-clause-moves : goal.returns-else-counts-clause-moves
returns-else-counts-clause-moves g c = λ members n p t st step r.
    let old = c.args.d.now in
    let a = answer_of step c.args.from r c.args.ans.now.term c.args.ans.now.granted in
    let p1 : RaftServer = record p { memory = memory_without_call p.memory c.args.from } in
    let t1 = end_vote_call c.args.from t in
    let st1 = c.note_answer.ensures.stands members (durable_state old) p1 _ (c.end_call.ensures.stands members (durable_state old) p t st) in
    let st2 = c.in_ok-raise.ensures.stands members p1 t1 st1 in
    let none = λ (low : nat_lt p.store.term a.term ≡ false).
    let st3 = unraised c.raise.new.self members (durable_state c.raise.new.d) p1 t1 c.args.now a.term low st2 in
    sym (c.counts.ensures.counts p1 a st3.role (ap (λ (z : Store). z.term) st3.store ∙ sym c.term.ensures) refl refl) ∙ c.if-counts.false in
    no_vote_counted members c.args.self.now.me n (given_at c.args.now) p t a old c.raise.new.d c.raise.new.self none
    (subst (λ (z : Store). CallWrites (with_origin LEADER (term_puts z a.term)) old c.raise.new.d None) (sym st.store) (c.in_ok-raise.ensures.puts LEADER)) st2

pub returns-else-counts-clause-fits : goal.returns-else-counts-clause-fits
returns-else-counts-clause-fits g c = c.in_ok-raise.ensures.fits (c.note_answer.ensures.fits (durable_state c.args.d.now) (c.end_call.ensures.fits (durable_state c.args.d.now) c.requires.fits))
